-- What a loop over segments is given, and the rows that it sees.
use Rattle.std.proofs.Common.{◌≡◌, ℕ, ◌+◌, ◌-◌, ◌*◌, ◌/◌, ◌%◌, ◌<◌, ◌≤◌, Bool, true, List, [], length, Some, None, Option, sym, ap, ◌∙◌, subst, mod-lt, zero-add, zero-mul, arith}
use Rattle.std.specs.List.{list_all}
use Rattle.std.specs.Option.{option_map}
use Rattle.std.proofs.lemmas.Nat.{div_below, div-add-mod'}
use Rattle.element.specs.Laws.{Laws}
use Rattle.qc.specs.declared.terms.Permutation.{Permutation}
use Rattle.qc.specs.declared.terms.Term.{Term}
use Rattle.qc.specs.Equation.{Equation}
use Rattle.qc.specs.Shape.{Shape, M, sent, whole, first, second, known, permutations, value}
use Rattle.qc.specs.Codeblock.{block_row, row, groups, punctured, completed, lowest}
use Rattle.qc.specs.Terms.{terms}
use Rattle.qc.specs.Sound.{term_sound}
use Rattle.qc.specs.Segments.{segments, segment_sum, AllReadable, Written}
use Rattle.qc.proofs.Lowest.{all_none, none_all, stretch_none, stretch_found}
use Rattle.qc.proofs.Equations.{by_terms}
use Rattle.qc.proofs.Soundness.{Sound, readable}
use Rattle.qc.proofs.Completion.{group_more, completed_by_writing}
use Rattle.qc.proofs.Codeblocks.{row_at}

-- what a loop over segments is given: the segment's length, the table, the terms and the list
pub record View (E : Type 0) : Type 0 where
  pub m : ℕ
  pub table : List Permutation
  pub ts : List Term
  pub xs : List E

abbrev pub given : {E : Type 0} → ℕ → List Permutation → List Term → List E → View E
given m table ts xs = record { m = m; table = table; ts = ts; xs = xs }

abbrev pub view : {E : Type 0} → Shape → Equation → List E → View E
view c q xs = given c.m (permutations c) (terms q) xs

pub view_is : {E : Type 0} (c : Shape) (q : Equation) (m : ℕ) (table : List Permutation) (ts : List Term) (xs : List E) → m ≡ c.m → table ≡ permutations c → ts ≡ terms q → given m table ts xs ≡ view c q xs
view_is c q m table ts xs em et es = λ i. given (em i) (et i) (es i) xs

-- place i of the group that the terms add up to
abbrev pub viewed : {E : Type 0} → E → (E → E → E) → View E → ℕ → E
viewed none plus v i = segment_sum none plus v.m v.table v.ts (segments none v.m v.xs) (i / v.m) (i % v.m)

abbrev pub lowest_viewed : {E : Type 0} → E → (E → E → E) → (E → E → Bool) → View E → Option ℕ
lowest_viewed none plus same v = lowest (λ i. same (viewed none plus v i) none) (4 * v.m)

module _ {E : Type 0} {none : E} {plus : E → E → E} {same : E → E → Bool} (laws : Laws none plus same) (c : Shape) (ok : Sound c) where
  -- place i of an equation's group, as the loops see it
  pub viewed_value : (q : Equation) (xs : List E) (i : ℕ) → i < M c → viewed none plus (view c q xs) i ≡ value plus c q (groups none (M c) xs) i
  viewed_value q xs i h =
      sym (by_terms laws c xs (i / c.m) (i % c.m) (div_below i c.m 4 ok.some_long h) (mod-lt i ok.some_long) q)
      ∙ ap (value plus c q (groups none (M c) xs)) (div-add-mod' i c.m)

  -- the loop that writes the punctured group made the completed list
  pub made_completed : (xs ys : List E) (from : ℕ) → whole c ≤ length xs → length ys ≡ length xs → from ≡ sent c
      → Written none (λ p. viewed none plus (view c (known c) xs) (p - from)) from xs ys (from + 4 * c.m) → ys ≡ completed none plus c xs
  made_completed xs ys from fits long is w =
      completed_by_writing none plus c xs fits ys long
      (record {
        before = λ p h. w.before p (omega arith);
        made = λ p h g.
            w.made p (omega (arith, more)) (omega arith) ∙ viewed_value (known c) xs (p - from) (omega (arith, more))
            ∙ ap (λ k. punctured none plus c (groups none (M c) xs) (p - k)) is;
        after = λ p h. w.after p (omega (arith, more));
      })
    where
      more : whole c ≡ sent c + M c
      more = group_more none plus c xs fits

  module _ (xs : List E) where
    row_test : ℕ → Bool
    row_test r = same (row none plus c (groups none (M c) xs) r) none

    seen : (k i : ℕ) → i < M c → same (viewed none plus (view c (block_row c k) xs) i) none ≡ row_test (k * M c + i)
    unfolding row_test
    seen k i h = ap (λ w. same w none) (viewed_value (block_row c k) xs i h ∙ sym (row_at none plus c (groups none (M c) xs) k i h))

    pub first_found : (r : ℕ) → lowest_viewed none plus same (view c (first c) xs) ≡ Some r → lowest (λ r. same (row none plus c (groups none (M c) xs) r) none) (2 * M c) ≡ Some r
    unfolding row_test
    first_found r e =
        stretch_found row_test _ 0 (M c) (λ i h. absurd (below_zero i h)) (λ i h. seen 0 i h ∙ ap row_test (at i)) (2 * M c) r (omega arith) e
        ∙ ap (λ (k : ℕ). Some k) (zero-add r)
      where
        below_zero : (i : ℕ) → i < 0 → ⊥
        below_zero i h = omega arith

        at : (i : ℕ) → 0 * M c + i ≡ 0 + i
        at i = omega (arith, zero-mul (M c))

    first_passed : lowest_viewed none plus same (view c (first c) xs) ≡ None → (i : ℕ) → i < M c → row_test i ≡ true
    first_passed e i h =
        let at : i ≡ 0 * M c + i = omega (arith, zero-mul (M c)) in
        ap row_test at ∙ sym (seen 0 i h) ∙ none_all _ (M c) e i h

    second_seen : (i : ℕ) → i < M c → same (viewed none plus (view c (second c) xs) i) none ≡ row_test (M c + i)
    second_seen i h = let at : 1 * M c + i ≡ M c + i = omega arith in seen 1 i h ∙ ap row_test at

    second_found : (r : ℕ) → lowest_viewed none plus same (view c (first c) xs) ≡ None → lowest_viewed none plus same (view c (second c) xs) ≡ Some r
        → lowest (λ r. same (row none plus c (groups none (M c) xs) r) none) (2 * M c) ≡ Some (M c + r)
    unfolding row_test
    second_found r e₁ e₂ = stretch_found row_test _ (M c) (M c) (first_passed e₁) second_seen (2 * M c) r (omega arith) e₂

    none_found : lowest_viewed none plus same (view c (first c) xs) ≡ None → lowest_viewed none plus same (view c (second c) xs) ≡ None
        → lowest (λ r. same (row none plus c (groups none (M c) xs) r) none) (2 * M c) ≡ None
    unfolding row_test
    none_found e₁ e₂ = all_none row_test (2 * M c) (λ r h. stretch_none row_test _ (M c) (M c) (first_passed e₁) second_seen e₂ r (omega arith))

    -- where the first block row passes, the second says which row is the lowest
    pub second_rows : (o : Option ℕ) → lowest_viewed none plus same (view c (first c) xs) ≡ None → o ≡ lowest_viewed none plus same (view c (second c) xs)
        → option_map (λ r. M c + r) o ≡ lowest (λ r. same (row none plus c (groups none (M c) xs) r) none) (2 * M c)
    second_rows None e₁ e₂ = sym (none_found e₁ (sym e₂))
    second_rows (Some r) e₁ e₂ = sym (second_found r e₁ (sym e₂))

-- what the loops that read a whole block ask, by what they are given
abbrev pub Read : ℕ → ℕ → List Permutation → List Term → Type 0
Read m len table ts = record { short : m ≤ 512; readable : AllReadable m len table ts }

pub read_given : (c : Shape) → Sound c → (q : Equation) → list_all (term_sound (c.K + 3) (length (permutations c))) (terms q) ≡ true
    → (m len : ℕ) (table : List Permutation) (ts : List Term) → whole c ≤ len → m ≡ c.m → table ≡ permutations c → ts ≡ terms q → Read m len table ts
read_given c ok q good m len table ts fits em et es =
    subst (λ (v : View ℕ). Read v.m len v.table v.ts) (sym (view_is c q m table ts [] em et es))
    (record { short = ok.short; readable = readable c ok (c.K + 3) len fits (terms q) good })
