-- Bits in bytes, eight to a byte, the first bit the most significant.
use Rattle.std.specs.Prelude.{ℕ, ◌+◌, ◌-◌, ◌*◌, ◌/◌, ◌%◌, ◌^◌, min, cond, List, map, nat_lt, slice_index}
use Rattle.std.specs.List.{range_with_len}
use Rattle.element.specs.declared.bits.Bit.{Bit}
use Rattle.outlet.specs.Bytes.{bit_of, pack}
use Rattle.outlet.specs.Storing.{Form, Stores, cells_after}

-- the bit at a place
unfoldable pub place_bit : List ℕ → ℕ → Bit
place_bit bytes p = bit_of (slice_index bytes (p / 8)) (p % 8)

-- the first n bits of the bytes
abbrev pub packed_bits : List ℕ → ℕ → List Bit
packed_bits bytes n = map (place_bit bytes) (range_with_len 0 n)

-- the bits that so many bytes have room for: at most 1,048,576 bytes are used
abbrev pub packed_room : ℕ → ℕ
packed_room n = 8 * min n 1048576

-- a byte with bit q written, and zeros after it; the bit that opens a byte clears it
abbrev pub byte_with : ℕ → ℕ → ℕ → ℕ
byte_with byte q w = cond (nat_lt 0 q) (byte / 2 ^ (8 - q) * 2 ^ (8 - q)) 0 + w * 2 ^ (7 - q)

-- bits in a byte
abbrev pub byte_form : Form ℕ
byte_form = record { blank = 0; bit = bit_of; whole = pack }

-- from bytes of which n bits were held to the bytes after, of which n' are; kept for the law of the packed
-- outlet, which reads in bytes by it
abbrev pub Packs : List ℕ → List ℕ → ℕ → ℕ → Type 0
Packs old new n n' = Stores 8 byte_form old new n n'

-- the bytes, of which n bits were held in whole bytes, after the bits held are `bits`
abbrev pub bytes_after : List ℕ → ℕ → List Bit → List ℕ
bytes_after bytes n bits = cells_after 8 byte_form bytes n bits
