-- The frame of a message: the attached sync marker, then the sent bits of its block, randomized.
use Rattle.std.specs.Prelude.{◌≡◌, ℕ, ◌*◌, ◌<◌, List, ◌++◌, map, length, take, drop, replicate, slice_index_or}
use Rattle.std.specs.List.{range_with_len}
use Rattle.element.specs.declared.bits.Bit.{Bit}
use Rattle.element.specs.declared.bits.Bit.TheVariants.{Zero}
use Rattle.element.specs.Bits.{bit_plus}
use Rattle.qc.specs.Shape.{M, sent, whole}
use Rattle.qc.specs.Codeblock.{groups, AllZero}
use Rattle.qc.specs.Coding.{encoded}
use Rattle.ar4ja.specs.declared.codes.Code.{Code}
use Rattle.ar4ja.specs.Codes.{shape_of, tables_of}
use Rattle.outlet.specs.Masks.{masked}
use Rattle.outlet.specs.Packing.{packed_bits}
use Rattle.outlet.specs.Sequence.{s}
use Rattle.frame.specs.Marker.{mark}
use Rattle.frame.specs.Message.{message_len}

-- the bits of a message, the first bit of each byte the most significant
unfoldable pub message_bits : Code → List ℕ → List Bit
message_bits code m = packed_bits m (8 * message_len code)

-- the whole block of a message: what a coder makes of it
unfoldable pub whole_block : Code → List ℕ → List Bit
whole_block code m = encoded Zero bit_plus (shape_of code) (tables_of code) (message_bits code m ++ replicate (3 * M (shape_of code)) Zero)

-- a run with the whole block of a message at its front
abbrev pub block_in : Code → List ℕ → List Bit → List Bit
block_in code m run = whole_block code m ++ drop (whole (shape_of code)) run

-- the part of it that is sent
abbrev pub block : Code → List ℕ → List Bit
block code m = take (sent (shape_of code)) (whole_block code m)

-- the 64 bits of the marker
unfoldable pub marker : List Bit
marker = map mark (range_with_len 0 64)

-- the frame: the marker, then bit i of the block plus s(i) for each i
unfoldable pub frame : Code → List ℕ → List Bit
frame code m = marker ++ masked s (block code m)

-- xs is the whole block of a message: the message is at its front, all rows are zero, and no other is so
pub record WholeBlock (code : Code) (m : List ℕ) (xs : List Bit) : Type 0 where
  pub long : length xs ≡ whole (shape_of code)
  pub message : (i : ℕ) → i < 8 * message_len code → slice_index_or xs i Zero ≡ slice_index_or (message_bits code m) i Zero
  pub zero_rows : AllZero Zero bit_plus (shape_of code) (groups Zero (M (shape_of code)) xs)
  pub only :
      (ys : List Bit) → ((i : ℕ) → i < 8 * message_len code → slice_index_or ys i Zero ≡ slice_index_or (message_bits code m) i Zero)
      → AllZero Zero bit_plus (shape_of code) (groups Zero (M (shape_of code)) ys) → (i : ℕ) → i < whole (shape_of code) → slice_index_or ys i Zero ≡ slice_index_or xs i Zero
