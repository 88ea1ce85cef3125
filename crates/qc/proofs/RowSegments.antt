-- A segment of rows is a segment of the sum of its block row's terms.
use Rattle.std.proofs.Common.{◌≡◌, ℕ, zero, suc, ◌+◌, ◌*◌, ◌/◌, ◌%◌, ◌<◌, ◌≤◌, Bool, true, eqb, ltb, leb, List, length, get_or, sym, ap, ◌∙◌, mod-lt, arith, lit<}
use Rattle.std.specs.List.{list_all}
use Rattle.std.proofs.lemmas.List.FromFn.{length-map-range_with_len, get_or-map-range_with_len}
use Rattle.std.proofs.lemmas.List.{ext_get_or}
use Rattle.std.proofs.lemmas.Bool.{and_parts, leb-true, eqb-true, ltb-true}
use Rattle.element.specs.Laws.{Laws}
use Rattle.qc.specs.Shape.{Shape, M, whole, permutations}
use Rattle.qc.specs.Codeblock.{block_row, row, groups}
use Rattle.qc.specs.Sound.{term_sound}
use Rattle.qc.specs.Terms.{terms}
use Rattle.qc.specs.Segments.{segments, segment_sum}
use Rattle.qc.specs.SegmentRows.{rows_there, segment_rows}
use Rattle.qc.proofs.Soundness.{Sound}
use Rattle.qc.proofs.Places.{in_group}
use Rattle.qc.proofs.Rows.{within_group}
use Rattle.qc.proofs.Equations.{by_terms}
use Rattle.qc.proofs.Codeblocks.{row_at}
use Rattle.qc.proofs.Views.{View, view}

-- what the test of the lengths says
pub record There (c : Shape) (len n room : ℕ) : Type 0 where
  pub fits : whole c ≤ len
  pub segment : room ≡ c.m
  pub below : n < 8

pub there : (c : Shape) (len n room : ℕ) → rows_there c len n room ≡ true → There c len n room
there c len n room e =
    let both = and_parts _ (ltb n 8) e in
    let front = and_parts (leb (whole c) len) (eqb room c.m) both.0 in
    record { fits = leb-true _ _ front.0; segment = eqb-true _ _ front.1; below = ltb-true _ _ both.1 }

-- the block row that has segment n reads only groups and permutations that are there
pub rows_sound : (c : Shape) → Sound c → (n : ℕ) → n < 8 → list_all (term_sound (c.K + 3) (length (permutations c))) (terms (block_row c (n / 4))) ≡ true
rows_sound c ok n h = go (n / 4) (omega arith)
  where
    go : (k : ℕ) → k < 2 → list_all (term_sound (c.K + 3) (length (permutations c))) (terms (block_row c k)) ≡ true
    go zero l = ok.first_sound
    go (suc zero) l = ok.second_sound
    go (suc (suc k)) l = absurd (omega arith)

-- place s of segment j of the sum of terms that a loop is given
abbrev pub viewed_segment : {E : Type 0} → E → (E → E → E) → View E → ℕ → ℕ → E
viewed_segment none plus v j s = segment_sum none plus v.m v.table v.ts (segments none v.m v.xs) j s

module _ {E : Type 0} {none : E} {plus : E → E → E} {same : E → E → Bool} (laws : Laws none plus same) (c : Shape) (xs : List E) (n : ℕ) where
  pub row_of_segment : (s : ℕ) → s < c.m → row none plus c (groups none (M c) xs) (n * c.m + s) ≡ viewed_segment none plus (view c (block_row c (n / 4)) xs) (n % 4) s
  row_of_segment s h =
      let quarter : n % 4 < 4 = mod-lt n (lit< tt) in
      ap (row none plus c (groups none (M c) xs)) place
      ∙ row_at none plus c (groups none (M c) xs) (n / 4) (n % 4 * c.m + s) (omega (arith, within_group (n % 4) c.m quarter))
      ∙ by_terms laws c xs (n % 4) s quarter h (block_row c (n / 4))
    where
      place : n * c.m + s ≡ n / 4 * M c + (n % 4 * c.m + s)
      place = let e : n ≡ 4 * (n / 4) + n % 4 = omega arith in ap (λ k. k * c.m + s) e ∙ sym (in_group c.m (n / 4) (n % 4) s)

  abbrev f : ℕ → E
  f s = row none plus c (groups none (M c) xs) (n * c.m + s)

  pub rows_made : (ys : List E) → length ys ≡ c.m → ((s : ℕ) → s < c.m → get_or ys s none ≡ viewed_segment none plus (view c (block_row c (n / 4)) xs) (n % 4) s) → ys ≡ segment_rows none plus c xs n
  rows_made ys long made =
      ext_get_or none ys _ (long ∙ sym (length-map-range_with_len f 0 c.m))
      (λ s h. let low : s < c.m = omega arith in made s low ∙ sym (row_of_segment s low) ∙ sym (get_or-map-range_with_len f 0 c.m s s none low (omega arith)))
