-- Marks: the bit that is known of each place of a block, or none where it is erased, and the forms that stand for them.
use Rattle.std.specs.Prelude.{◌≡◌, ℕ, zero, suc, ◌+◌, ◌^◌, Option, Some, None, List, ◌++◌, map, length, drop, slice_index_or}
use Rattle.std.specs.List.{range_with_len}
use Rattle.element.specs.declared.bits.Bit.{Bit}
use Rattle.element.specs.declared.bits.Bit.TheVariants.{Zero, One}
use Rattle.element.specs.declared.forms.Form.{Form}
use Rattle.element.specs.Forms.{form_zero, form_plus}
use Rattle.qc.specs.Shape.{Shape}
use Rattle.qc.specs.Codeblock.{completed}
use Rattle.erasure.specs.Unknowns.{member}

abbrev pub Mark : Type 0
Mark = Option Bit

abbrev pub mark_at : List Mark → ℕ → Mark
mark_at ms i = slice_index_or ms i (Some Zero)

-- an erased mark counts
abbrev pub gap : Mark → ℕ
gap (Some x) = 0
gap None = 1

-- how many marks before place i are erased: the number of the unknown of an erased place
abbrev pub rank : List Mark → ℕ → ℕ
rank ms zero = 0
rank ms (suc i) = rank ms i + gap (mark_at ms i)

abbrev pub erasures : List Mark → ℕ
erasures ms = rank ms (length ms)

-- a known bit is a constant form, an erased place the form of its unknown alone
abbrev pub form_of : Mark → ℕ → Form
form_of (Some x) k = record { bit = x; unknowns = 0 }
form_of None k = record { bit = Zero; unknowns = 2 ^ k }

abbrev pub form_at : List Mark → ℕ → Form
form_at ms i = form_of (mark_at ms i) (rank ms i)

-- the block as marked
abbrev pub marked_forms : List Mark → List Form
marked_forms ms = map (form_at ms) (range_with_len 0 (length ms))

-- a list of forms with the block as marked written over its front
unfoldable pub laid : List Mark → List Form → List Form
laid ms xs = marked_forms ms ++ drop (length ms) xs

-- and with the punctured group of the block behind it
abbrev pub written : Shape → List Mark → List Form → List Form
written c ms xs = completed form_zero form_plus c (laid ms xs)

-- a mark, filled where it is erased
abbrev pub filled_of : Mark → Bit → Mark
filled_of (Some y) x = Some y
filled_of None x = Some x

-- place i is erased, and its unknown is in the set
abbrev pub Marked : List Mark → ℕ → ℕ → Type 0
Marked ms set i = (mark_at ms i ≡ None) × (member set (rank ms i) ≡ One)
