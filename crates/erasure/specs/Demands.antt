-- What a table demands of its unknowns, with demands added.
use Rattle.std.specs.Prelude.{◌≡◌, ℕ, ◌<◌, Bool, true, false, List, length}
use Rattle.element.specs.declared.bits.Bit.{Bit}
use Rattle.element.specs.declared.bits.Bit.TheVariants.{Zero}
use Rattle.element.specs.declared.forms.Form.{Form}
use Rattle.element.specs.Forms.{form_zero, form_plus}
use Rattle.qc.specs.Shape.{Shape, M}
use Rattle.qc.specs.Codeblock.{row, groups}
use Rattle.erasure.specs.Unknowns.{value, pivot, Solves}

-- the same assignments
pub record Same (S R : (ℕ → Bit) → Type 0) : Type 0 where
  pub to : (s : ℕ → Bit) → S s → R s
  pub from : (s : ℕ → Bit) → R s → S s

-- the table v demands what t demands and R; or no assignment meets both
abbrev pub Adds : ℕ → List Form → ((ℕ → Bit) → Type 0) → List Form → Bool → Type 0
Adds u t R v true = Same (Solves u v) (λ s. Solves u t s × R s)
Adds u t R v false = (s : ℕ → Bit) → Solves u t s → R s → ⊥

-- one form more is zero
abbrev pub Inserted : ℕ → List Form → Form → List Form → Bool → Type 0
Inserted u t f v r = Adds u t (λ s. value u s f ≡ Zero) v r

-- the first n of the forms are zero
abbrev pub Zeros : ℕ → List Form → ℕ → (ℕ → Bit) → Type 0
Zeros u fs n s = (i : ℕ) → i < n → value u s (pivot fs i) ≡ Zero

-- all of the forms are zero
abbrev pub Demanded : ℕ → List Form → List Form → List Form → Bool → Type 0
Demanded u t fs v r = Adds u t (Zeros u fs (length fs)) v r

-- the first n rows of a whole block of forms are zero
abbrev pub RowsZero : ℕ → Shape → List Form → ℕ → (ℕ → Bit) → Type 0
RowsZero u c xs n s = (r : ℕ) → r < n → value u s (row form_zero form_plus c (groups form_zero (M c) xs) r) ≡ Zero
