-- A message's bits as bytes, the first bit of each byte the most significant.
use Rattle.std.specs.Prelude.{ℕ, ◌+◌, ◌*◌, ◌/◌, List, map, slice_index_or}
use Rattle.std.specs.List.{range_with_len}
use Rattle.element.specs.declared.bits.Bit.{Bit}
use Rattle.element.specs.declared.bits.Bit.TheVariants.{Zero}
use Rattle.qc.specs.Shape.{M}
use Rattle.ar4ja.specs.declared.codes.Code.{Code}
use Rattle.ar4ja.specs.Codes.{shape_of}
use Rattle.outlet.specs.Bytes.{pack}

-- how many bytes a message of a code has: its K groups of M bits, eight bits to a byte
abbrev pub message_len : Code → ℕ
message_len code = (shape_of code).K * M (shape_of code) / 8

unfoldable pub message_byte : List Bit → ℕ → ℕ
message_byte xs k = pack (λ j. slice_index_or xs (8 * k + j) Zero)

-- the first n bytes
abbrev pub message_bytes : List Bit → ℕ → List ℕ
message_bytes xs n = map (message_byte xs) (range_with_len 0 n)
