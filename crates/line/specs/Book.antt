-- The book of a line, the model that its calls are held to: what was sent, and how many sends were refused.
use Rattle.std.specs.Prelude.{ℕ, ◌+◌, ◌-◌, ◌*◌, min, cond, List, [], ◌∷◌, ◌++◌, length, Some, None, Option, ◌==◌, nat_lt, slice_index_or}
use Rattle.std.specs.List.{flat_map}
use Rattle.refusal.specs.Outcome.{Outcome, Outcome.done, Outcome.refused}
use Rattle.element.specs.declared.bits.Bit.{Bit}
use Rattle.qc.specs.Shape.{whole}
use Rattle.ar4ja.specs.declared.codes.Code.{Code}
use Rattle.ar4ja.specs.Codes.{shape_of}
use Rattle.outlet.specs.Masks.{frame_bits}
use Rattle.frame.specs.Message.{message_len}
use Rattle.line.specs.declared.faults.SendFault.{SendFault}
use Rattle.line.specs.declared.faults.SendFault.TheVariants as send
use Rattle.line.specs.declared.faults.ReadBackFault.{ReadBackFault}
use Rattle.line.specs.declared.faults.ReadBackFault.TheVariants as read
use Rattle.line.specs.Refusals.{send_fault, read_back_fault}
use Rattle.line.specs.Frames.{frame, block_in}

-- the code, the bits and the capacity of the outlet at the opening, the messages sent, and the number refused
pub record Book : Type 0 where
  pub code : Code
  pub opening : List Bit
  pub capacity : ℕ
  pub messages : List (List ℕ)
  pub refused : ℕ

-- the book at the opening
abbrev pub opened : Code → List Bit → ℕ → Book
opened code bits room = record { code = code; opening = bits; capacity = room; messages = []; refused = 0 }

-- what the outlet holds: the opening bits, then the frame of each message
abbrev pub written : Book → List Bit
written b = b.opening ++ flat_map (frame b.code) b.messages

abbrev pub places_left : Book → ℕ
places_left b = b.capacity - length b.opening - length b.messages * frame_bits b.code

-- the book with a message more
abbrev pub listed : Book → List ℕ → Book
listed b m = record { code = b.code; opening = b.opening; capacity = b.capacity; messages = b.messages ++ (m ∷ []); refused = b.refused }

-- the book with one more refused, up to the largest number that is kept
abbrev pub turned_down : Book → Book
turned_down b = record { code = b.code; opening = b.opening; capacity = b.capacity; messages = b.messages; refused = min (b.refused + 1) 4294967295 }

-- the first refusal of a send that is due: by the lengths of the message and of the run, and the places left
abbrev pub send_due : Code → ℕ → ℕ → ℕ → Option SendFault
send_due code left message run =
    cond (message == message_len code)
    (cond (nat_lt run (whole (shape_of code))) (Some send.RunTooShort)
    (cond (nat_lt left (frame_bits code)) (Some send.NoRoom) None))
    (Some send.MessageLength)

-- the first refusal of a read-back that is due: by the frame's number among those done, and the lengths
abbrev pub read_back_due : Code → ℕ → ℕ → ℕ → ℕ → Option ReadBackFault
read_back_due code number frame message run =
    cond (nat_lt frame number)
    (cond (message == message_len code)
    (cond (nat_lt run (whole (shape_of code))) (Some read.RunTooShort) None)
    (Some read.MessageLength))
    (Some read.NoSuchFrame)

-- a send by what is due: its answer, the run after it, and the book after it
abbrev pub sent_by : Option SendFault → Outcome Unit
sent_by None = done tt
sent_by (Some fault) = refused (send_fault fault)

abbrev pub run_by : Book → List ℕ → List Bit → Option SendFault → List Bit
run_by b m run None = block_in b.code m run
run_by b m run (Some fault) = run

abbrev pub book_by : Book → List ℕ → Option SendFault → Book
book_by b m None = listed b m
book_by b m (Some fault) = turned_down b

module _ (b : Book) (m : List ℕ) (run : List Bit) where
  abbrev pub due_to_send : Option SendFault
  due_to_send = send_due b.code (places_left b) (length m) (length run)

  abbrev pub send_answer : Outcome Unit
  send_answer = sent_by due_to_send

  abbrev pub send_run : List Bit
  send_run = run_by b m run due_to_send

  abbrev pub send_book : Book
  send_book = book_by b m due_to_send

-- a read-back by what is due: its answer, the message after it, and the run after it
abbrev pub read_by : Option ReadBackFault → Outcome Unit
read_by None = done tt
read_by (Some fault) = refused (read_back_fault fault)

abbrev pub message_read_by : Book → ℕ → List ℕ → Option ReadBackFault → List ℕ
message_read_by b k m None = slice_index_or b.messages k []
message_read_by b k m (Some fault) = m

abbrev pub run_read_by : Book → ℕ → List Bit → Option ReadBackFault → List Bit
run_read_by b k run None = block_in b.code (slice_index_or b.messages k []) run
run_read_by b k run (Some fault) = run

module _ (b : Book) (k : ℕ) (m : List ℕ) (run : List Bit) where
  abbrev pub due_to_read : Option ReadBackFault
  due_to_read = read_back_due b.code (length b.messages) k (length m) (length run)

  abbrev pub read_back_answer : Outcome Unit
  read_back_answer = read_by due_to_read

  abbrev pub read_back_message : List ℕ
  read_back_message = message_read_by b k m due_to_read

  abbrev pub read_back_run : List Bit
  read_back_run = run_read_by b k run due_to_read
