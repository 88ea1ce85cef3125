-- Bits as levels, one to a signed byte: −1 for 0 and +1 for 1. What is told here of levels, `Storing` tells of
-- any cells; it stands beside that since callers read a level by its place alone, not by a place in a cell.
use Rattle.std.specs.Prelude.{◌≡◌, ℕ, ◌<◌, ◌≤◌, min, cond, ◌⊎◌, List, map, length, take, ℤ, pos, negsuc, nat_lt, slice_index_or}
use Rattle.std.specs.List.{range_with_len}
use Rattle.element.specs.declared.bits.Bit.{Bit}
use Rattle.element.specs.declared.bits.Bit.TheVariants.{Zero, One}
use Rattle.outlet.specs.Storing.{Form}

abbrev pub level : Bit → ℤ
level Zero = negsuc 0
level One = pos 1

-- the bit that a level stands for, by its sign
abbrev pub level_bit : ℤ → Bit
level_bit (pos n) = One
level_bit (negsuc n) = Zero

-- a bit in a signed byte
abbrev pub level_form : Form ℤ
level_form = record { blank = pos 0; bit = λ x q. level_bit x; whole = λ f. level (f 0) }

-- the bits of the first n levels
abbrev pub level_bits : List ℤ → ℕ → List Bit
level_bits levels n = map level_bit (take n levels)

-- the bits that so many bytes have room for: at most 1,048,576 bytes are used
abbrev pub level_room : ℕ → ℕ
level_room n = min n 1048576

-- from bytes of which n held bits to the bytes after, of which n' do: as many bytes, each since written is
-- −1 or +1, and the others are unchanged
pub record Leveled (old new : List ℤ) (n n' : ℕ) : Type 0 where
  pub long : length new ≡ length old
  pub more : n ≤ n'
  pub others : (k : ℕ) → (k < n) ⊎ (n' ≤ k) → slice_index_or new k (pos 0) ≡ slice_index_or old k (pos 0)
  pub written : (k : ℕ) → n ≤ k → k < n' → slice_index_or new k (pos 0) ≡ level (level_bit (slice_index_or new k (pos 0)))

-- byte k of the bytes, of which n held bits, after the bits held are `bits`
abbrev pub level_after : List ℤ → ℕ → List Bit → ℕ → ℤ
level_after levels n bits k =
    cond (nat_lt k n) (slice_index_or levels k (pos 0))
    (cond (nat_lt k (length bits)) (level (slice_index_or bits k Zero)) (slice_index_or levels k (pos 0)))

-- all the bytes after
abbrev pub levels_after : List ℤ → ℕ → List Bit → List ℤ
levels_after levels n bits = map (level_after levels n bits) (range_with_len 0 (length levels))
