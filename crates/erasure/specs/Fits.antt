-- The codeblocks that fit a block with erased symbols.
use Rattle.std.specs.Prelude.{◌≡◌, ℕ, ◌<◌, ◌≢◌, Some, None, List, length, slice_index_or}
use Rattle.element.specs.declared.bits.Bit.{Bit}
use Rattle.element.specs.declared.bits.Bit.TheVariants.{Zero}
use Rattle.element.specs.Bits.{bit_plus}
use Rattle.qc.specs.Shape.{Shape, M}
use Rattle.qc.specs.Codeblock.{groups, Codeblock}
use Rattle.erasure.specs.Marks.{Mark, mark_at}

-- a bit agrees with what is known of it
abbrev pub Agrees : Mark → Bit → Type 0
Agrees (Some y) x = y ≡ x
Agrees None x = Unit {0}

-- a codeblock that agrees with every known mark
pub record Fits (c : Shape) (ms : List Mark) (b : List Bit) : Type 0 where
  pub long : length b ≡ length ms
  pub agrees : (i : ℕ) → i < length ms → Agrees (mark_at ms i) (slice_index_or b i Zero)
  pub coded : Codeblock Zero bit_plus c (groups Zero (M c) b)

abbrev pub NoneFits : Shape → List Mark → Type 0
NoneFits c ms = (b : List Bit) → Fits c ms b → ⊥

-- b fits, and no other does
pub record OnlyFits (c : Shape) (ms : List Mark) (b : List Bit) : Type 0 where
  pub fits : Fits c ms b
  pub only : (other : List Bit) → Fits c ms other → other ≡ b

abbrev pub OneFits : Shape → List Mark → Type 0
OneFits c ms = (b : List Bit) × OnlyFits c ms b

-- two different codeblocks fit
abbrev pub TwoFit : Shape → List Mark → Type 0
TwoFit c ms = (b : List Bit) × ((other : List Bit) × (Fits c ms b × (Fits c ms other × (b ≢ other))))

-- two codeblocks fit that differ at place i
abbrev pub Open : Shape → List Mark → ℕ → Type 0
Open c ms i = (b : List Bit) × ((other : List Bit) × (Fits c ms b × (Fits c ms other × (slice_index_or b i Zero ≢ slice_index_or other i Zero))))
