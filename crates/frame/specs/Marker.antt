-- The attached sync marker of a frame, how far the bits at a place are from it, and which way they stand.
use Rattle.std.specs.Prelude.{◌≡◌, ℕ, zero, suc, ◌+◌, ◌-◌, ◌/◌, ◌%◌, ◌^◌, ◌≤◌, cond, List, Some, None, Option, ◌==◌, codes, nat_le, nat_lt, slice_index_or}
use Rattle.element.specs.declared.bits.Bit.{Bit}
use Rattle.element.specs.declared.bits.Bit.TheVariants.{Zero, One}
use Rattle.element.specs.Bits.{bit_plus, weight}
use Rattle.frame.specs.declared.faults.Orientation.{Orientation}
use Rattle.frame.specs.declared.faults.Orientation.TheVariants.{Upright, Complemented}

-- the marker as a number of 64 bits, the first bit the most significant
unfoldable pub marker_word : ℕ
marker_word = 0xfcb88938d8d76a4f

-- bit i of the marker
unfoldable pub mark : ℕ → Bit
mark i = cond (nat_lt i 64) (cond (marker_word / 2 ^ (63 - i) % 2 == 0) Zero One) Zero

-- what was added to every bit of a frame
abbrev pub flipped : Orientation → Bit
flipped Upright = Zero
flipped Complemented = One

-- the word for the way a frame stands
abbrev pub orientation_word : Orientation → List ℕ
orientation_word Upright = codes "upright"
orientation_word Complemented = codes "complemented"

-- in how many of the first n places two rows of bits differ
abbrev pub differing : (ℕ → Bit) → (ℕ → Bit) → ℕ → ℕ
differing x y zero = 0
differing x y (suc n) = differing x y n + weight (bit_plus (x n) (y n))

-- in how many bits the 64 at a place differ from the marker, or from its complement
unfoldable pub distance : Orientation → List Bit → ℕ → ℕ
distance way held place = differing (λ i. slice_index_or held (place + i) Zero) (λ i. bit_plus (mark i) (flipped way)) 64

-- the bits at a place stand this way: their first 64 differ in d bits from the marker, or from its complement
-- if they stand complemented
pub record Marked (held : List Bit) (place tolerance : ℕ) (way : Orientation) (d : ℕ) : Type 0 where
  pub far : d ≡ distance way held place
  pub tolerated : d ≤ tolerance

-- which way the bits at a place stand, and how far from the marker
abbrev pub found : List Bit → ℕ → ℕ → Option (Orientation × ℕ)
found held place tolerance =
    cond (nat_le (distance Upright held place) tolerance) (Some (Upright, distance Upright held place))
    (cond (nat_le (distance Complemented held place) tolerance) (Some (Complemented, distance Complemented held place)) None)
