-- Sets of unknowns, stored as numbers.
use Rattle.std.proofs.Common.{◌≡◌, ℕ, zero, suc, ◌+◌, ◌-◌, ◌*◌, ◌/◌, ◌%◌, ◌^◌, ◌<◌, ◌≤◌, ◌≢◌, ◌⊎◌, eqb, sym, refl, ap, ◌∙◌, inl, inr, one-mul, arith, pow-add}
use Rattle.std.proofs.lemmas.Bool.{cases_eq, cases_lt}
use native.Mathlib.Nat.{zero-div, div-eq_of_lt}
use lib.Bits.{bit_xor, bit_or, xor_shr, xor_mod, or_shr, or_mod}
use lib.Pow.{pow-lt, shl-shr}
use Rattle.element.specs.declared.bits.Bit.{Bit}
use Rattle.element.specs.declared.bits.Bit.TheVariants.{Zero, One}
use Rattle.element.specs.Bits.{bit_plus, bit_if}
use Rattle.erasure.specs.Unknowns.{member}

abbrev odd : ℕ → Bit
odd n = bit_if (eqb n 1)

odd_xor : (a b : ℕ) → a < 2 → b < 2 → odd (bit_xor a b) ≡ bit_plus (odd a) (odd b)
odd_xor zero zero ha hb = refl
odd_xor zero (suc zero) ha hb = refl
odd_xor zero (suc (suc b)) ha hb = absurd (omega arith)
odd_xor (suc zero) zero ha hb = refl
odd_xor (suc zero) (suc zero) ha hb = refl
odd_xor (suc zero) (suc (suc b)) ha hb = absurd (omega arith)
odd_xor (suc (suc a)) b ha hb = absurd (omega arith)

pub member_xor : (p q e : ℕ) → member (bit_xor p q) e ≡ bit_plus (member p e) (member q e)
member_xor p q e =
    ap odd (ap (λ y. y % 2) (xor_shr p q e) ∙ xor_mod (p / 2 ^ e) (q / 2 ^ e) 1)
    ∙ odd_xor (p / 2 ^ e % 2) (q / 2 ^ e % 2) (omega arith) (omega arith)

pub member_zero : (e : ℕ) → member 0 e ≡ Zero
member_zero e = ap (λ y. odd (y % 2)) (zero-div (2 ^ e))

-- one of two bits, or both
abbrev pub either_of : Bit → Bit → Bit
either_of Zero y = y
either_of One y = One

odd_or : (a b : ℕ) → a < 2 → b < 2 → odd (bit_or a b) ≡ either_of (odd a) (odd b)
odd_or zero b ha hb = refl
odd_or (suc zero) zero ha hb = refl
odd_or (suc zero) (suc zero) ha hb = refl
odd_or (suc zero) (suc (suc b)) ha hb = absurd (omega arith)
odd_or (suc (suc a)) b ha hb = absurd (omega arith)

pub member_or : (p q e : ℕ) → member (bit_or p q) e ≡ either_of (member p e) (member q e)
member_or p q e =
    ap odd (ap (λ y. y % 2) (or_shr p q e) ∙ or_mod (p / 2 ^ e) (q / 2 ^ e) 1)
    ∙ odd_or (p / 2 ^ e % 2) (q / 2 ^ e % 2) (omega arith) (omega arith)

-- the set of one unknown
pub member_own : (k : ℕ) → member (2 ^ k) k ≡ One
member_own k = ap (λ y. odd (y % 2)) (ap (λ y. y / 2 ^ k) (sym (one-mul (2 ^ k))) ∙ shl-shr 1 k)

pub member_other : (k e : ℕ) → e ≢ k → member (2 ^ k) e ≡ Zero
member_other k e ne = go (cases_lt k e)
  where
    go : ((k < e) ⊎ (e ≤ k)) → member (2 ^ k) e ≡ Zero
    go (inl h) = ap (λ y. odd (y % 2)) (div-eq_of_lt (pow-lt h))
    go (inr h) =
        let j : ℕ = k - e - 1 in
        let p : k ≡ (j + 1) + e = omega arith in
        let even : (2 ^ j * 2) % 2 ≡ 0 = omega arith in
        ap (λ y. odd (y / 2 ^ e % 2)) (ap (λ n. 2 ^ n) p ∙ pow-add 2 (j + 1) e)
        ∙ ap (λ y. odd (y % 2)) (shl-shr (2 ^ (j + 1)) e ∙ pow-add 2 j 1) ∙ ap odd even

pub member_turned : (k e : ℕ) → member (2 ^ k) e ≡ member (2 ^ e) k
member_turned k e = go (cases_eq k e)
  where
    go : ((k ≡ e) ⊎ (k ≢ e)) → member (2 ^ k) e ≡ member (2 ^ e) k
    go (inl h) = ap (λ n. member (2 ^ n) e) h ∙ ap (member (2 ^ e)) (sym h)
    go (inr ne) = member_other k e (λ h. ne (sym h)) ∙ sym (member_other e k ne)
