-- What a form stands for under an assignment of its unknowns, and tables of pivot rows.
use Rattle.std.specs.Prelude.{◌≡◌, ℕ, zero, suc, ◌/◌, ◌%◌, ◌^◌, ◌<◌, ◌≢◌, List, Some, None, Option, ◌==◌, slice_index_or}
use Rattle.element.specs.declared.bits.Bit.{Bit}
use Rattle.element.specs.declared.bits.Bit.TheVariants.{Zero, One}
use Rattle.element.specs.declared.forms.Form.{Form}
use Rattle.element.specs.Bits.{bit_plus, bit_if}
use Rattle.element.specs.Forms.{form_zero, form_plus}

-- whether the unknown e is in a set
abbrev pub member : ℕ → ℕ → Bit
member set e = bit_if (set / 2 ^ e % 2 == 1)

-- an unknown below u that is in the set, or none is
abbrev pub Found : ℕ → ℕ → Option ℕ → Type 0
Found u set None = (k : ℕ) → k < u → member set k ≡ Zero
Found u set (Some k) = (k < u) × (member set k ≡ One)

abbrev pub both : Bit → Bit → Bit
both Zero y = Zero
both One y = y

-- the sum of those of the first n bits of s that c takes
abbrev pub dot : ℕ → (ℕ → Bit) → (ℕ → Bit) → Bit
dot zero c s = Zero
dot (suc n) c s = bit_plus (dot n c s) (both (c n) (s n))

-- what a form stands for under the assignment s of u unknowns
abbrev pub value : ℕ → (ℕ → Bit) → Form → Bit
value u s f = bit_plus f.bit (dot u (member f.unknowns) s)

-- row p of a table
abbrev pub pivot : List Form → ℕ → Form
pivot t p = slice_index_or t p form_zero

-- each row of a table is zero
abbrev pub Solves : ℕ → List Form → (ℕ → Bit) → Type 0
Solves u t s = (p : ℕ) → p < u → value u s (pivot t p) ≡ Zero

-- row p is the zero form, or has the unknown p and besides only unknowns whose rows are zero forms
pub record Reduced (u : ℕ) (t : List Form) : Type 0 where
  pub apart : (p q : ℕ) → p < u → q < u → p ≢ q → member (pivot t p).unknowns q ≡ One → pivot t q ≡ form_zero
  pub empty : (p : ℕ) → p < u → member (pivot t p).unknowns p ≡ Zero → pivot t p ≡ form_zero

-- g is f as far as the solutions of t go, and has no unknown below n that has a pivot row
pub record Cleared (u n : ℕ) (t : List Form) (f g : Form) : Type 0 where
  pub same : (s : ℕ → Bit) → Solves u t s → value u s g ≡ value u s f
  pub clear : (q : ℕ) → q < n → member g.unknowns q ≡ One → pivot t q ≡ form_zero

-- g added to f or not
abbrev pub added : Bit → Form → Form → Form
added Zero f g = f
added One f g = form_plus f g
