-- The ones of a first row in words, and a sum over them.
use Rattle.std.proofs.Common.{◌≡◌, ℕ, zero, suc, ◌+◌, ◌-◌, ◌*◌, ◌/◌, ◌%◌, ◌^◌, ◌<◌, ◌≤◌, Bool, List, [], ◌∷◌, ◌++◌, length, get_or, take, drop, set, sym, refl, ap, ◌∙◌, subst, ap₂, append-nil, add-zero, zero-add, mod-lt, add-one, arith, pow_pos, shr-shr}
use native.Mathlib.Decide.{dec_lt}
use lib.Pow.{high, low}
use Rattle.std.proofs.lemmas.List.{take-set, take_more_set, length-append, get_or_append_left, get_or-append-add}
use Rattle.element.specs.Laws.{Laws}
use Rattle.qc.specs.Segments.{total}
use Rattle.qc.specs.Circulant.{sum, times, bit, number, kept, ones_of}
use Rattle.qc.proofs.Sums.{right, total_append}
use Rattle.qc.proofs.FirstRows.{bit_mod}
use Rattle.qc.proofs.Reach.{get_or_part}

-- a bit of a number in words is a bit of one of its words
pub bit_number : (ws : List ℕ) (start n e : ℕ) → e < 32 * n → bit (number ws start n) e ≡ bit (get_or ws (start + (32 * n - 1 - e) / 32) 0) (e % 32)
bit_number ws start zero e h = absurd (omega arith)
bit_number ws start (suc n) e h = go (dec_lt e 32) (λ d l. bit_number ws start n d l)
  where
    word : ℕ
    word = get_or ws (start + n) 0

    rest : ℕ
    rest = number ws start n

    fits : word % 2 ^ 32 < 2 ^ 32
    fits = mod-lt word (pow_pos 32)

    go : Dec (e < 32) → ((d : ℕ) → d < 32 * n → bit rest d ≡ bit (get_or ws (start + (32 * n - 1 - d) / 32) 0) (d % 32))
        → bit (rest * 2 ^ 32 + word % 2 ^ 32) e ≡ bit (get_or ws (start + (32 * suc n - 1 - e) / 32) 0) (e % 32)
    go (yes l) less =
        let p : start + n ≡ start + (32 * suc n - 1 - e) / 32 = omega arith in
        let q : e ≡ e % 32 = omega arith in
        sym (bit_mod (rest * 2 ^ 32 + word % 2 ^ 32) 32 e l) ∙ ap (λ w. bit w e) (low rest 32 fits) ∙ bit_mod word 32 e l
        ∙ ap₂ (λ i b. bit (get_or ws i 0) b) p q
    go (no ge) less =
        let d : ℕ = e - 32 in
        let p : e ≡ 32 + d = omega arith in
        let i : start + (32 * n - 1 - d) / 32 ≡ start + (32 * suc n - 1 - e) / 32 = omega arith in
        let b : d % 32 ≡ e % 32 = omega arith in
        ap (bit (rest * 2 ^ 32 + word % 2 ^ 32)) p ∙ ap (λ w. w % 2) (sym (shr-shr (rest * 2 ^ 32 + word % 2 ^ 32) 32 d))
        ∙ ap (λ w. w / 2 ^ d % 2) (high rest 32 fits) ∙ less d (omega arith) ∙ ap₂ (λ i b. bit (get_or ws i 0) b) i b

-- a number of words, read from a part of them
pub number_part : (ws : List ℕ) (start k n : ℕ) → n ≤ k → number (take (start + k - start) (drop start ws)) 0 n ≡ number ws start n
number_part ws start k zero h = refl
number_part ws start k (suc n) h =
    ap₂ (λ a b. a * 2 ^ 32 + b % 2 ^ 32) (number_part ws start k n (omega arith))
    (ap (λ i. get_or (take (start + k - start) (drop start ws)) i 0) (zero-add n) ∙ get_or_part start k ws n 0 (omega arith))

-- one bit more
ones_more : (bits : ℕ → ℕ) (e b : ℕ) → bits e ≡ b → ones_of bits (e + 1) ≡ ones_of bits e ++ kept b (e + 1)
ones_more bits e b is = ap (ones_of bits) (add-one e) ∙ ap (λ c. ones_of bits e ++ kept c (e + 1)) is

-- one place more is written, and kept where the bit is one
pub ones_step : (bits : ℕ → ℕ) (e n b : ℕ) (xs : List ℕ) → n < length xs → take n xs ≡ ones_of bits e → bits e ≡ b → b < 2 → take (n + b) (set xs n (e + 1)) ≡ ones_of bits (e + 1)
ones_step bits e n zero xs lt inv is h = ap (λ k. take k (set xs n (e + 1))) (add-zero n) ∙ take-set xs n (e + 1) ∙ inv ∙ sym (append-nil (ones_of bits e)) ∙ sym (ones_more bits e 0 is)
ones_step bits e n (suc zero) xs lt inv is h = take_more_set xs n (e + 1) lt ∙ ap (λ l. l ++ (e + 1) ∷ []) inv ∙ sym (ones_more bits e 1 is)
ones_step bits e n (suc (suc b)) xs lt inv is h = absurd (omega arith)

-- none is further than m
pub ones_most : (bits : ℕ → ℕ) (m k : ℕ) → k < length (ones_of bits m) → get_or (ones_of bits m) k 0 ≤ m
ones_most bits zero k h = absurd (omega arith)
ones_most bits (suc m) k h = go (bits m) (dec_lt k (length front)) (λ l. ones_most bits m k l) (subst (λ n. k < n) (length-append front _) h)
  where
    front : List ℕ
    front = ones_of bits m

    go : (b : ℕ) → Dec (k < length front) → (k < length front → get_or front k 0 ≤ m) → k < length front + length (kept b (m + 1)) → get_or (front ++ kept b (m + 1)) k 0 ≤ suc m
    go b (yes l) low r = let e = get_or_append_left front (kept b (m + 1)) 0 k l in omega (arith, e, low l)
    go zero (no g) low r = omega arith
    go (suc b) (no g) low r =
        let at : k ≡ length front + 0 = omega arith in
        let e = ap (λ i. get_or (front ++ (m + 1) ∷ []) i 0) at ∙ get_or-append-add front ((m + 1) ∷ []) 0 0 in
        omega (arith, e)

-- a sum over the ones is the sum over all bits that takes each or not
module _ {E : Type 0} {none : E} {plus : E → E → E} {same : E → E → Bool} (laws : Laws none plus same) (f : ℕ → E) where
  one : (b e : ℕ) → total none plus f (kept b (e + 1)) ≡ times none b (f (e + 1))
  one zero e = refl
  one (suc b) e = right laws (f (e + 1))

  pub ones_total : (bits : ℕ → ℕ) (n : ℕ) → total none plus f (ones_of bits n) ≡ sum none plus n (λ e. times none (bits e) (f (e + 1)))
  ones_total bits zero = refl
  ones_total bits (suc n) = total_append laws f (ones_of bits n) (kept (bits n) (n + 1)) ∙ ap₂ plus (ones_total bits n) (one (bits n) n)
