-- What reading a frame answers, and what it leaves in the message and in the run of bits it works in.
use Rattle.std.specs.Prelude.{ℕ, ◌+◌, cond, List, ◌++◌, map, length, drop, Some, None, Option, ◌==◌, nat_le, nat_lt, slice_index_or}
use Rattle.std.specs.List.{range_with_len}
use Rattle.refusal.specs.Outcome.{Outcome, Outcome.done, Outcome.refused}
use Rattle.element.specs.declared.bits.Bit.{Bit}
use Rattle.element.specs.declared.bits.Bit.TheVariants.{Zero}
use Rattle.element.specs.Bits.{bit_plus, bit_same}
use Rattle.qc.specs.Shape.{M, sent, whole}
use Rattle.qc.specs.Codeblock.{completed, groups, Codeblock}
use Rattle.qc.specs.Check.{lowest_row}
use Rattle.ar4ja.specs.declared.codes.Code.{Code}
use Rattle.ar4ja.specs.Codes.{shape_of}
use Rattle.outlet.specs.Masks.{frame_bits}
use Rattle.outlet.specs.Sequence.{s}
use Rattle.frame.specs.declared.faults.Orientation.{Orientation}
use Rattle.frame.specs.declared.faults.ReadFault.{ReadFault}
use Rattle.frame.specs.declared.faults.ReadFault.TheVariants.{Tolerance, MessageLength, RunTooShort, NotHeld, NoMarker, Fails}
use Rattle.frame.specs.Refusals.{read_fault}
use Rattle.frame.specs.Marker.{flipped, found, Marked}
use Rattle.frame.specs.Message.{message_bytes}

-- bit i of the block in the frame at a place, to whose bits `turn` was added: without that, and without
-- the randomizing sequence
abbrev pub received_bit : Bit → List Bit → ℕ → ℕ → Bit
received_bit turn held place i = bit_plus (bit_plus (slice_index_or held (place + 64 + i) Zero) (s i)) turn

-- its first n bits
abbrev pub received : Bit → List Bit → ℕ → ℕ → List Bit
received turn held place n = map (received_bit turn held place) (range_with_len 0 n)

-- the block in the frame at a place, whose bits stand this way
abbrev pub received_block : Orientation → List Bit → ℕ → Code → List Bit
received_block way held place code = received (flipped way) held place (sent (shape_of code))

-- the bits at a place are a frame that stands this way, its marker d bits off, and its block is a codeblock:
-- some punctured group makes all rows zero
abbrev pub MarkedCodeblock : List Bit → ℕ → Code → ℕ → Orientation → ℕ → Type 0
MarkedCodeblock held place code tolerance way d =
    Marked held place tolerance way d × Codeblock Zero bit_plus (shape_of code) (groups Zero (M (shape_of code)) (received_block way held place code))

-- a run with the received block at its front
abbrev pub received_run : Orientation → List Bit → ℕ → Code → List Bit → List Bit
received_run way held place code run = received_block way held place code ++ drop (sent (shape_of code)) run

-- the same with the block's punctured group behind it
abbrev pub worked_run : Orientation → List Bit → ℕ → Code → List Bit → List Bit
worked_run way held place code run = completed Zero bit_plus (shape_of code) (received_run way held place code run)

-- the first refusal that is due before the marker is looked for: by the tolerance, then the lengths of
-- the message and of the run, then the count of bits held
abbrev pub due : ℕ → ℕ → Code → ℕ → ℕ → ℕ → Option ReadFault
due held place code tolerance message run =
    cond (nat_lt 15 tolerance) (Some Tolerance)
    (cond (message == 128)
    (cond (nat_lt run (whole (shape_of code))) (Some RunTooShort)
    (cond (nat_le (place + frame_bits code) held) None (Some NotHeld)))
    (Some MessageLength))

-- by the lowest row that is not zero
abbrev pub judged : Orientation × ℕ → Option ℕ → Outcome (Orientation × ℕ)
judged seen None = done seen
judged seen (Some row) = refused (read_fault (Fails row))

module _ (held : List Bit) (place : ℕ) (code : Code) where
  -- the lowest row of the received block that is not zero
  abbrev pub failing : Orientation → List Bit → Option ℕ
  failing way run = lowest_row Zero bit_plus (shape_of code) bit_same (worked_run way held place code run)

  -- by the refusal that is due, and by the marker that is found
  abbrev pub answer_by : List Bit → Option ReadFault → Option (Orientation × ℕ) → Outcome (Orientation × ℕ)
  answer_by run (Some fault) seen = refused (read_fault fault)
  answer_by run None None = refused (read_fault NoMarker)
  answer_by run None (Some seen) = judged seen (failing seen.0 run)

  abbrev pub run_by : List Bit → Option ReadFault → Option (Orientation × ℕ) → List Bit
  run_by run (Some fault) seen = run
  run_by run None None = run
  run_by run None (Some seen) = worked_run seen.0 held place code run

  -- the message by that row
  abbrev pub filled : List ℕ → List Bit → Option ℕ → List ℕ
  filled message block None = message_bytes block (length message)
  filled message block (Some row) = message

  abbrev pub message_by : List ℕ → List Bit → Option ReadFault → Option (Orientation × ℕ) → List ℕ
  message_by message run (Some fault) seen = message
  message_by message run None None = message
  message_by message run None (Some seen) = filled message (worked_run seen.0 held place code run) (failing seen.0 run)

  abbrev pub read_answer : ℕ → ℕ → List Bit → Outcome (Orientation × ℕ)
  read_answer tolerance message run = answer_by run (due (length held) place code tolerance message (length run)) (found held place tolerance)

  -- the run after: refused for another reason than its rows, it is as it was
  abbrev pub read_run : ℕ → ℕ → List Bit → List Bit
  read_run tolerance message run = run_by run (due (length held) place code tolerance message (length run)) (found held place tolerance)

  -- the message after: refused, it is as it was
  abbrev pub read_message : ℕ → List ℕ → List Bit → List ℕ
  read_message tolerance message run = message_by message run (due (length held) place code tolerance (length message) (length run)) (found held place tolerance)
