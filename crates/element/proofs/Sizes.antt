-- What the number of some bits hangs on, and how large it can be.
use Rattle.std.proofs.Common.{◌≡◌, ℕ, zero, suc, ◌+◌, ◌*◌, ◌^◌, ◌<◌, refl, ap, ap₂, arith}
use Rattle.std.proofs.Math.Nat.{pow-le-pow_right}
use Rattle.element.specs.declared.bits.Bit.{Bit}
use Rattle.element.specs.declared.bits.Bit.TheVariants.{Zero, One}
use Rattle.element.specs.Bits.{weight, number_of}

pub weight_small : (b : Bit) → weight b < 2
weight_small Zero = omega arith
weight_small One = omega arith

pub number_small : (b : ℕ → Bit) (n : ℕ) → number_of b n < 2 ^ n
number_small b zero = omega arith
number_small b (suc n) = omega (arith, number_small b n, weight_small (b n))

-- another bit fits a word
pub number_fits : (b : ℕ → Bit) (n : ℕ) → n < 32 → 2 * number_of b n + 1 < 2 ^ 32
number_fits b n h = omega (arith, number_small b n, pow-le-pow_right {n = 2} (omega arith) {i = n} {j = 31} (omega arith))

-- it hangs on those bits alone
pub number_same : (b c : ℕ → Bit) (n : ℕ) → ((i : ℕ) → i < n → b i ≡ c i) → number_of b n ≡ number_of c n
number_same b c zero e = refl
number_same b c (suc n) e = ap₂ (λ (k w : ℕ). 2 * k + w) (number_same b c n (λ i h. e i (omega (arith, h)))) (ap weight (e n (omega arith)))
