-- The lowest number that fails a test, by what holds below it and at it.
use Rattle.std.proofs.Common.{◌≡◌, ℕ, zero, suc, ◌+◌, ◌-◌, ◌<◌, ◌≤◌, Bool, true, false, cond, ◌⊎◌, List, length, get_or, Some, None, Option, sym, refl, ap, ◌∙◌, subst, inl, inr, arith, below_more}
use native.Mathlib.Decide.{dec_lt}
use Rattle.std.specs.List.{AllWithin, HoldsAt}
use Rattle.std.specs.Option.{MatchOption}
use Rattle.std.proofs.lemmas.Bool.{cases_Bool}
use Rattle.std.proofs.lemmas.Option.{none-some}
use Rattle.qc.specs.Codeblock.{lowest, or_else}

module _ (f : ℕ → Bool) where
  pub all_none : (n : ℕ) → ((i : ℕ) → i < n → f i ≡ true) → lowest f n ≡ None
  all_none zero h = refl
  all_none (suc n) h =
      ap (λ (o : Option ℕ). or_else o (cond (f n) None (Some n))) (all_none n (λ i l. h i (omega arith))) ∙ ap (λ b. cond b None (Some n)) (h n (omega arith))

  pub found : (n k : ℕ) → k < n → f k ≡ false → ((i : ℕ) → i < k → f i ≡ true) → lowest f n ≡ Some k
  found zero k l e h = absurd (omega arith)
  found (suc n) k l e h = go (dec_lt k n) (λ low. found n k low e h)
    where
      go : Dec (k < n) → (k < n → lowest f n ≡ Some k) → lowest f (suc n) ≡ Some k
      go (yes low) less = ap (λ (o : Option ℕ). or_else o (cond (f n) None (Some n))) (less low)
      go (no high) less =
          let at : k ≡ n = omega arith in
          ap (λ (o : Option ℕ). or_else o (cond (f n) None (Some n))) (all_none n (λ i l. h i (omega arith)))
          ∙ ap (λ b. cond b None (Some n)) (subst (λ i. f i ≡ false) at e) ∙ ap (λ i. Some i) (sym at)

  -- each number passes, or there is a lowest that does not
  pub data Search (n : ℕ) : Type 0 where
    none_fails : ((i : ℕ) → i < n → f i ≡ true) → Search n
    fails_at : (k : ℕ) → k < n → f k ≡ false → ((i : ℕ) → i < k → f i ≡ true) → Search n

  pub searched : (n : ℕ) → Search n
  searched zero = none_fails (λ i l. absurd (omega arith))
  searched (suc n) = go (searched n) (cases_Bool (f n))
    where
      go : Search n → (f n ≡ true) ⊎ (f n ≡ false) → Search (suc n)
      go (fails_at k l e h) t = fails_at k (omega arith) e h
      go (none_fails h) (inl t) = none_fails (λ i l. below_more (λ i. f i ≡ true) n h t i (omega arith))
      go (none_fails h) (inr t) = fails_at n (omega arith) t h

  pub none_all : (n : ℕ) → lowest f n ≡ None → (i : ℕ) → i < n → f i ≡ true
  none_all n e = go (searched n)
    where
      go : Search n → (i : ℕ) → i < n → f i ≡ true
      go (none_fails h) = h
      go (fails_at k l t h) = absurd (none-some k (sym e ∙ found n k l t h))

  pub found_at : (n k : ℕ) → lowest f n ≡ Some k → (k < n) × (f k ≡ false) × ((i : ℕ) → i < k → f i ≡ true)
  found_at n k e = go (searched n)
    where
      go : Search n → (k < n) × (f k ≡ false) × ((i : ℕ) → i < k → f i ≡ true)
      go (none_fails h) = absurd (none-some k (sym (all_none n h) ∙ e))
      go (fails_at j l t h) =
          let at : j ≡ k = let e' = sym (found n j l t h) ∙ e in cc in
          subst (λ i. (i < n) × (f i ≡ false) × ((i' : ℕ) → i' < i → f i' ≡ true)) at (l, t, h)

-- a stretch of numbers from a on, after all below a have passed
module _ (f g : ℕ → Bool) (a b : ℕ) (passed : (i : ℕ) → i < a → f i ≡ true) (same : (i : ℕ) → i < b → g i ≡ f (a + i)) where
  pub stretch_none : lowest g b ≡ None → (i : ℕ) → i < a + b → f i ≡ true
  stretch_none e i l = go (dec_lt i a)
    where
      go : Dec (i < a) → f i ≡ true
      go (yes low) = passed i low
      go (no high) =
          let at : a + (i - a) ≡ i = omega arith in
          ap f (sym at) ∙ sym (same (i - a) (omega arith)) ∙ none_all g b e (i - a) (omega arith)

  pub stretch_found : (n k : ℕ) → a + b ≤ n → lowest g b ≡ Some k → lowest f n ≡ Some (a + k)
  stretch_found n k long e =
      let at = found_at g b k e in
      found f n (a + k) (omega (arith, at.0)) (sym (same k at.0) ∙ at.1) below
    where
      below : (i : ℕ) → i < a + k → f i ≡ true
      below i l = go (dec_lt i a)
        where
          go : Dec (i < a) → f i ≡ true
          go (yes low) = passed i low
          go (no high) =
              let at = found_at g b k e in
              let on : a + (i - a) ≡ i = omega arith in
              ap f (sym on) ∙ sym (same (i - a) (omega (arith, at.0))) ∙ at.2 (i - a) (omega arith)

-- what a search through a list answers
pub lowest_first : {X : Type 0} (test : X → Bool) (d : X) (xs : List X) (r : Option ℕ)
    → MatchOption r (AllWithin (λ x. test x ≡ true) xs 0 (length xs)) (λ i. (i < length xs) × HoldsAt (λ x. test x ≡ false) xs i × AllWithin (λ x. test x ≡ true) xs 0 i)
    → r ≡ lowest (λ s. test (get_or xs s d)) (length xs)
lowest_first test d xs None all = sym (all_none _ (length xs) (λ i h. all i d (omega arith) h))
lowest_first test d xs (Some k) at = sym (found _ (length xs) k at.0 (at.1 d) (λ i h. at.2 i d (omega arith) h))
