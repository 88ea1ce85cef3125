-- Bits: the sum modulo two.
use Rattle.std.specs.Prelude.{◌≡◌, ℕ, zero, suc, ◌+◌, ◌*◌, Bool, true, false, refl}
use Rattle.std.proofs.Common.{subst}
use Rattle.std.proofs.lemmas.Bool.{false≢true}
use Rattle.element.specs.Laws.{Laws}
use Rattle.element.specs.declared.bits.Bit.{Bit}
use Rattle.element.specs.declared.bits.Bit.TheVariants.{Zero, One}

abbrev pub bit_zero : Bit
bit_zero = Zero

abbrev pub bit_plus : Bit → Bit → Bit
bit_plus Zero Zero = Zero
bit_plus Zero One = One
bit_plus One Zero = One
bit_plus One One = Zero

abbrev pub bit_same : Bit → Bit → Bool
bit_same Zero Zero = true
bit_same Zero One = false
bit_same One Zero = false
bit_same One One = true

-- the bit of a yes or no, and a bit as a number
abbrev pub bit_if : Bool → Bit
bit_if false = Zero
bit_if true = One

abbrev pub weight : Bit → ℕ
weight Zero = 0
weight One = 1

-- the number of the first n bits, the first one the most significant
abbrev pub number_of : (ℕ → Bit) → ℕ → ℕ
number_of b zero = 0
number_of b (suc n) = 2 * number_of b n + weight (b n)

assoc : (x y z : Bit) → bit_plus (bit_plus x y) z ≡ bit_plus x (bit_plus y z)
assoc Zero Zero Zero = refl
assoc Zero Zero One = refl
assoc Zero One Zero = refl
assoc Zero One One = refl
assoc One Zero Zero = refl
assoc One Zero One = refl
assoc One One Zero = refl
assoc One One One = refl

comm : (x y : Bit) → bit_plus x y ≡ bit_plus y x
comm Zero Zero = refl
comm Zero One = refl
comm One Zero = refl
comm One One = refl

neutral : (x : Bit) → bit_plus Zero x ≡ x
neutral Zero = refl
neutral One = refl

cancels : (x : Bit) → bit_plus x x ≡ Zero
cancels Zero = refl
cancels One = refl

same_equal : (x y : Bit) → bit_same x y ≡ true → x ≡ y
same_equal Zero Zero e = refl
same_equal Zero One e = absurd (false≢true e)
same_equal One Zero e = absurd (false≢true e)
same_equal One One e = refl

same_self : (x : Bit) → bit_same x x ≡ true
same_self Zero = refl
same_self One = refl

pub bit_laws : Laws bit_zero bit_plus bit_same
bit_laws = record {
  assoc = assoc;
  comm = comm;
  neutral = neutral;
  cancels = cancels;
  same_equal = same_equal;
  equal_same = λ x y e. subst (λ (w : Bit). bit_same x w ≡ true) e (same_self x);
}
