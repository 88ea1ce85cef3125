-- The sequence meets its rule and repeats after 255 bits, and the table is one period of it.
use Rattle.std.proofs.Common.{◌≡◌, ℕ, zero, suc, ◌+◌, ◌-◌, ◌*◌, ◌/◌, ◌%◌, ◌^◌, ◌<◌, T, eqb, get_or, sym, refl, ap, ◌∙◌, add-zero, add-suc, suc-mul, add_comm, arith}
use Rattle.element.specs.declared.bits.Bit.{Bit}
use Rattle.element.specs.declared.bits.Bit.TheVariants.{Zero, One}
use Rattle.element.specs.Bits.{bit_plus, bit_if, weight}
use Rattle.outlet.specs.Sequence.{Register, ones, shifted, from_register, s}
use Rattle.outlet.specs.declared.sequence.TheConstants.{TABLE}
use Rattle.outlet.proofs.Tested.{from_all}

rule_from : (t : Register) (i : ℕ) → from_register t (8 + i) ≡ bit_plus (bit_plus (bit_plus (from_register t (7 + i)) (from_register t (5 + i))) (from_register t (3 + i))) (from_register t i)
rule_from t zero = refl
rule_from t (suc i) = rw (add-suc 8 i, add-suc 7 i, add-suc 5 i, add-suc 3 i) (rule_from (shifted t) i)

pub rule : (i : ℕ) → s (i + 8) ≡ bit_plus (bit_plus (bit_plus (s (i + 7)) (s (i + 5))) (s (i + 3))) (s i)
unfolding s
rule i = rw (add_comm i 8, add_comm i 7, add_comm i 5, add_comm i 3) (rule_from ones i)

eq_of : (b : Bit) → T (eqb (weight b) 1) → b ≡ One
eq_of Zero t = absurd t
eq_of One t = refl

pub eight_ones : (i : ℕ) → i < 8 → s i ≡ One
unfolding s
eight_ones i h = eq_of (from_register ones i) (from_all (λ j. eqb (weight (from_register ones j)) 1) 8 i tt h)

abbrev after : ℕ → Register → Register
after zero t = t
after (suc k) t = after k (shifted t)

from_after : (k n : ℕ) (t : Register) → from_register t (n + k) ≡ from_register (after k t) n
from_after zero n t = ap (from_register t) (add-zero n)
from_after (suc k) n t = ap (from_register t) (add-suc n k) ∙ from_after k n (shifted t)

-- one computed test: the register is back at ones after 255 steps
whole_period : after 255 ones ≡ ones
whole_period = refl

pub again : (n : ℕ) → s (n + 255) ≡ s n
unfolding s
again n = from_after 255 n ones ∙ ap (λ (t : Register). from_register t n) whole_period

many : (q n : ℕ) → s (n + q * 255) ≡ s n
many zero n = let e : n + 0 * 255 ≡ n = omega arith in ap s e
many (suc q) n = let e : n + suc q * 255 ≡ n + q * 255 + 255 = omega (arith, suc-mul q 255) in ap s e ∙ again (n + q * 255) ∙ many q n

repeats : (n : ℕ) → s (n % 255) ≡ s n
repeats n = let e : n % 255 + n / 255 * 255 ≡ n = omega arith in sym (many (n / 255) (n % 255)) ∙ ap s e

-- bit k of the stored words, the most significant of each word first
abbrev pub table_bit : ℕ → ℕ
table_bit k = get_or TABLE (k / 32) 0 / 2 ^ (31 - k % 32) % 2

read_back : (b : Bit) → bit_if (eqb (weight b) 1) ≡ b
read_back Zero = refl
read_back One = refl

-- where the table is one period of the sequence, its bits are the sequence's
pub reads : ((k : ℕ) → k < 255 → table_bit k ≡ weight (s k)) → (i : ℕ) → bit_if (eqb (table_bit (i % 255)) 1) ≡ s i
reads entries i = ap (λ n. bit_if (eqb n 1)) (entries (i % 255) (omega arith)) ∙ read_back (s (i % 255)) ∙ repeats i
