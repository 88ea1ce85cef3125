-- The codes: their numbers, and their shapes.
use Rattle.std.specs.Prelude.{◌≡◌, refl, true, cond, List, ℕ, eqb}
use Rattle.refusal.specs.Outcome.{Outcome, Outcome.done, Outcome.refused}
use Rattle.qc.specs.declared.terms.Permutation.{Permutation}
use Rattle.qc.specs.Equation.{Equation, Operator.Π, Operator.◌⊞◌}
use Rattle.qc.specs.Shape.{Shape}
use Rattle.qc.specs.Sound.{sound}
use Rattle.qc.specs.Coding.{Tables}
use Rattle.qc.specs.Rules.{tabulated}
use Rattle.ar4ja.specs.declared.codes.Code.{Code}
use Rattle.ar4ja.specs.declared.codes.Code.TheVariants.{Half1024, TwoThirds1024, FourFifths1024}
use Rattle.ar4ja.specs.declared.codes.CodeFault.TheVariants.{Unknown}
use Rattle.ar4ja.specs.Refusals.{code_fault}
use Rattle.ar4ja.specs.Permutations.{half_1024, two_thirds_1024, four_fifths_1024}
use Rattle.ar4ja.specs.Tables.{half_generator, half_inverse, two_thirds_generator, two_thirds_inverse, four_fifths_generator, four_fifths_inverse}
use Rattle.ar4ja.specs.Rates.{half_second, half_third, two_thirds_second, two_thirds_third, four_fifths_second, four_fifths_third}

abbrev pub number_of : Code → ℕ
number_of Half1024 = 1
number_of TwoThirds1024 = 2
number_of FourFifths1024 = 3

-- the code of a number; there is none but 1 to 3
abbrev pub named : ℕ → Outcome Code
named n =
    cond (eqb n 1) (done Half1024)
    (cond (eqb n 2) (done TwoThirds1024)
    (cond (eqb n 3) (done FourFifths1024) (refused (code_fault Unknown))))

-- every rate has Π1 on z in the first block row, Π2 + Π3 + Π4 on z in the second and Π7 + Π8 on b in the third
abbrev rated : ℕ → ℕ → List Permutation → Equation → Equation → Shape
rated K m table second third = record { K = K; m = m; table = table; u2 = second; u3 = third; Π1 = Π 1; P = Π 2 ⊞ Π 3 ⊞ Π 4; Q = Π 7 ⊞ Π 8 }

-- K message groups and segments of m elements: M is 512, 256 and 128
abbrev pub shape_of : Code → Shape
shape_of Half1024 = rated 2 128 half_1024 half_second half_third
shape_of TwoThirds1024 = rated 4 64 two_thirds_1024 two_thirds_second two_thirds_third
shape_of FourFifths1024 = rated 8 32 four_fifths_1024 four_fifths_second four_fifths_third

-- every θ is below 4, every φ below m, and every group and permutation that a row names is there: one
-- computed test of each code's whole table and rows
pub shapes_sound : (c : Code) → sound (shape_of c) ≡ true
unfolding sound half_1024 two_thirds_1024 four_fifths_1024 half_second half_third two_thirds_second two_thirds_third four_fifths_second four_fifths_third
shapes_sound Half1024 = refl
shapes_sound TwoThirds1024 = refl
shapes_sound FourFifths1024 = refl

abbrev pub tables_of : Code → Tables
tables_of Half1024 = record { generator = half_generator; inverse = half_inverse }
tables_of TwoThirds1024 = record { generator = two_thirds_generator; inverse = two_thirds_inverse }
tables_of FourFifths1024 = record { generator = four_fifths_generator; inverse = four_fifths_inverse }

-- the block of each message element r·m alone passes, and the inverse is one from both sides: one computed
-- test of each code's whole tables
pub tables_ruled : (c : Code) → tabulated (shape_of c) (tables_of c) ≡ true
unfolding tabulated half_1024 two_thirds_1024 four_fifths_1024 half_second half_third two_thirds_second two_thirds_third four_fifths_second four_fifths_third half_generator half_inverse two_thirds_generator two_thirds_inverse four_fifths_generator four_fifths_inverse
tables_ruled Half1024 = refl
tables_ruled TwoThirds1024 = refl
tables_ruled FourFifths1024 = refl
