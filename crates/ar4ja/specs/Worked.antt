-- Worked values of the codes: what the definitions give, beside what it has to be.
use Rattle.std.specs.Prelude.{Bool, true, ◌&&◌, List, [], ◌∷◌, ℕ, ◌+◌, eqb, get_or}
use Rattle.qc.specs.Permutation.{π, absent}
use Rattle.qc.specs.Shape.{M, sent, whole, permutations}
use Rattle.ar4ja.specs.declared.codes.Code.{Code}
use Rattle.ar4ja.specs.declared.codes.Code.TheVariants.{Half1024, TwoThirds1024, FourFifths1024}
use Rattle.ar4ja.specs.Codes.{shape_of}

pub record Worked : Type 0 where
  pub given : ℕ
  pub stated : ℕ

abbrev pub ◌is◌ : ℕ → ℕ → Worked
x is y = record { given = x; stated = y }

infix 20 ◌is◌
-- πt(i) of a code
abbrev at : Code → ℕ → ℕ → ℕ
at c t i = π (M (shape_of c)) (get_or (permutations (shape_of c)) t absent) i

-- places of permutations, and K, M, m, n, N and F of each code
unfoldable pub worked : List Worked
worked =
    (at FourFifths1024 1 0 is 97) ∷ (at FourFifths1024 1 31 is 96) ∷ (at FourFifths1024 1 32 is 0) ∷ (at FourFifths1024 1 127 is 95)
    ∷ (at Half1024 2 0 is 103) ∷ (at Half1024 3 511 is 96)
    ∷ ((shape_of Half1024).K is 2) ∷ (M (shape_of Half1024) is 512) ∷ ((shape_of Half1024).m is 128)
    ∷ (sent (shape_of Half1024) is 2048) ∷ (whole (shape_of Half1024) is 2560) ∷ (64 + sent (shape_of Half1024) is 2112)
    ∷ ((shape_of TwoThirds1024).K is 4) ∷ (M (shape_of TwoThirds1024) is 256) ∷ ((shape_of TwoThirds1024).m is 64)
    ∷ (sent (shape_of TwoThirds1024) is 1536) ∷ (whole (shape_of TwoThirds1024) is 1792) ∷ (64 + sent (shape_of TwoThirds1024) is 1600)
    ∷ ((shape_of FourFifths1024).K is 8) ∷ (M (shape_of FourFifths1024) is 128) ∷ ((shape_of FourFifths1024).m is 32)
    ∷ (sent (shape_of FourFifths1024) is 1280) ∷ (whole (shape_of FourFifths1024) is 1408) ∷ (64 + sent (shape_of FourFifths1024) is 1344)
    ∷ []

-- one test of the whole list
abbrev pub all_agree : List Worked → Bool
all_agree [] = true
all_agree (w ∷ ws) = eqb w.given w.stated && all_agree ws
