-- Rows of a block: a completed block has all rows zero exactly when its block is a codeblock.
use Rattle.std.proofs.Common.{◌≡◌, ℕ, zero, suc, ◌+◌, ◌-◌, ◌*◌, ◌/◌, ◌%◌, ◌<◌, ◌≤◌, Bool, true, cond, ◌↔◌, List, length, None, sym, refl, ap, ◌∙◌, ap₂, mod-lt, arith}
use native.Mathlib.Decide.{dec_lt}
use Rattle.std.proofs.lemmas.Bool.{lt-ltb, le-ltb}
use Rattle.std.proofs.lemmas.Nat.{div-mul-add, mod-mul-add}
use Rattle.element.specs.Laws.{Laws}
use Rattle.qc.specs.Shape.{Shape, M, whole, first, second, known, permutations, value}
use Rattle.qc.specs.Codeblock.{block_row, row, AllZero, completed_by, Codeblock, groups, punctured, completed, lowest}
use Rattle.qc.specs.Check.{lowest_row}
use Rattle.qc.proofs.Sums.{equal}
use Rattle.qc.proofs.Lowest.{all_none, found, none_all, Search, Search.none_fails, Search.fails_at, searched}
use Rattle.qc.proofs.Equations.{value_same}
use Rattle.qc.proofs.Soundness.{Sound}
use Rattle.qc.proofs.Completion.{groups_front, groups_made}

-- row k·M + i is row i of block row k
pub row_at : {E : Type 0} (none : E) (plus : E → E → E) (c : Shape) (x : ℕ → ℕ → E) (k i : ℕ) → i < M c → row none plus c x (k * M c + i) ≡ value plus c (block_row c k) x i
row_at none plus c x k i h = ap₂ (λ n p. value plus c (block_row c n) x p) (div-mul-add k (M c) i h) (mod-mul-add k (M c) i h)

module _ {E : Type 0} {none : E} {plus : E → E → E} {same : E → E → Bool} (laws : Laws none plus same) (c : Shape) (ok : Sound c) where
  -- blocks that agree in every group have the same rows
  pub row_same : (x y : ℕ → ℕ → E) → ((g i : ℕ) → g < c.K + 3 → i < M c → x g i ≡ y g i) → (r : ℕ) → row none plus c x r ≡ row none plus c y r
  row_same x y agree r = go (r / M c) (r % M c) (mod-lt r (omega (arith, ok.some_long)))
    where
      go : (k i : ℕ) → i < M c → value plus c (block_row c k) x i ≡ value plus c (block_row c k) y i
      go zero i h = value_same plus c (c.K + 3) (length (permutations c)) x y ok.some_long agree (first c) ok.first_sound i h
      go (suc zero) i h = value_same plus c (c.K + 3) (length (permutations c)) x y ok.some_long agree (second c) ok.second_sound i h
      go (suc (suc k)) i h =
          ap₂ plus (value_same plus c (c.K + 2) (length (permutations c)) x y ok.some_long (λ g i hg hi. agree g i (omega arith) hi) (known c) ok.known_sound i h)
          (agree (c.K + 2) i (omega arith) h)

  module _ (x : ℕ → ℕ → E) (w : ℕ → E) where
    by_low : (g i : ℕ) → g < c.K + 2 → completed_by none plus c x w g i ≡ x g i
    by_low g i h = ap (λ t. cond t (x g i) (w i)) (lt-ltb g (c.K + 2) h)

    by_high : (i : ℕ) → completed_by none plus c x w (c.K + 2) i ≡ w i
    by_high i = ap (λ t. cond t (x (c.K + 2) i) (w i)) (le-ltb (c.K + 2) (c.K + 2) (omega arith))

    -- the third block row reads none of the punctured group besides its own element
    known_same : (i : ℕ) → i < M c → value plus c (known c) (completed_by none plus c x w) i ≡ value plus c (known c) x i
    known_same i h =
        value_same plus c (c.K + 2) (length (permutations c)) (completed_by none plus c x w) x ok.some_long (λ g i hg hi. by_low g i hg) (known c) ok.known_sound i h

    -- so a punctured group that makes all rows zero is the one that it gives
    pub only : AllZero none plus c (completed_by none plus c x w) → (i : ℕ) → i < M c → w i ≡ punctured none plus c x i
    only zeros i h =
        let y = completed_by none plus c x w in
        let gone : plus (value plus c (known c) y i) (y (c.K + 2) i) ≡ none = sym (row_at none plus c y 2 i h) ∙ zeros (2 * M c + i) (omega arith) in
        sym (by_high i) ∙ sym (equal laws _ _ gone) ∙ known_same i h

  module _ (xs : List E) (fits : whole c ≤ length xs) where
    y : ℕ → ℕ → E
    y = groups none (M c) (completed none plus c xs)

    agree : (w : ℕ → E) → ((i : ℕ) → i < M c → w i ≡ punctured none plus c (groups none (M c) xs) i)
        → (g i : ℕ) → g < c.K + 3 → i < M c → completed_by none plus c (groups none (M c) xs) w g i ≡ y g i
    unfolding y
    agree w is g i hg hi = go (dec_lt g (c.K + 2))
      where
        go : Dec (g < c.K + 2) → completed_by none plus c (groups none (M c) xs) w g i ≡ groups none (M c) (completed none plus c xs) g i
        go (yes low) = by_low (groups none (M c) xs) w g i low ∙ sym (groups_front none plus c xs fits g i low hi)
        go (no high) =
            let at : g ≡ c.K + 2 = omega arith in
            ap (λ n. completed_by none plus c (groups none (M c) xs) w n i) at ∙ by_high (groups none (M c) xs) w i ∙ is i hi
            ∙ sym (ap (λ n. groups none (M c) (completed none plus c xs) n i) at ∙ groups_made none plus c xs fits i hi)

    -- the completed block has all rows zero exactly when the block is a codeblock
    pub zero_codeblock : AllZero none plus c (groups none (M c) (completed none plus c xs)) → Codeblock none plus c (groups none (M c) xs)
    unfolding y
    zero_codeblock zeros =
        (punctured none plus c (groups none (M c) xs), λ r h. row_same _ _ (agree (punctured none plus c (groups none (M c) xs)) (λ i l. refl)) r ∙ zeros r h)

    pub codeblock_zero : Codeblock none plus c (groups none (M c) xs) → AllZero none plus c (groups none (M c) (completed none plus c xs))
    unfolding y
    codeblock_zero (w, zeros) r h = sym (row_same _ _ (agree w (only (groups none (M c) xs) w zeros)) r) ∙ zeros r h

    pub third_zero : (i : ℕ) → i < M c → row none plus c (groups none (M c) (completed none plus c xs)) (2 * M c + i) ≡ none
    third_zero i h =
        row_at none plus c (groups none (M c) (completed none plus c xs)) 2 i h
        ∙ ap₂ plus
        (value_same plus c (c.K + 2) (length (permutations c)) (groups none (M c) (completed none plus c xs)) (groups none (M c) xs) ok.some_long (groups_front none plus c xs fits) (known c) ok.known_sound i h)
        (groups_made none plus c xs fits i h)
        ∙ laws.cancels _

    pub passes_exactly : lowest_row none plus c same (completed none plus c xs) ≡ None ↔ Codeblock none plus c (groups none (M c) xs)
    passes_exactly = (
      (λ e. zero_codeblock (λ r h. laws.same_equal _ _ (none_all _ (3 * M c) e r h))),
      (λ b. all_none _ (3 * M c) (λ r h. laws.equal_same _ _ (codeblock_zero b r h))),
    )

  -- the third block row of a completed block never fails
  pub lowest_of_two : (xs : List E) → whole c ≤ length xs
      → lowest (λ r. same (row none plus c (groups none (M c) (completed none plus c xs)) r) none) (2 * M c) ≡ lowest_row none plus c same (completed none plus c xs)
  lowest_of_two xs fits = go (searched test (2 * M c))
    where
      test : ℕ → Bool
      test r = same (row none plus c (groups none (M c) (completed none plus c xs)) r) none

      last : ((r : ℕ) → r < 2 * M c → test r ≡ true) → (r : ℕ) → r < 3 * M c → Dec (r < 2 * M c) → test r ≡ true
      last all r h (yes low) = all r low
      last all r h (no high) =
          let on : r ≡ 2 * M c + (r - 2 * M c) = omega arith in
          ap test on ∙ laws.equal_same _ _ (third_zero xs fits (r - 2 * M c) (omega arith))

      go : Search test (2 * M c) → lowest test (2 * M c) ≡ lowest test (3 * M c)
      go (none_fails all) = all_none test (2 * M c) all ∙ sym (all_none test (3 * M c) (λ r h. last all r h (dec_lt r (2 * M c))))
      go (fails_at k l e all) = found test (2 * M c) k l e all ∙ sym (found test (3 * M c) k (omega arith) e all)
