-- That a line stands as a book says, and what its calls then do.
use Rattle.std.specs.Prelude.{◌≡◌, ℕ, ◌<◌, List, [], length, Result, slice_index, slice_index_or}
use Rattle.refusal.specs.Outcome.{outcome}
use Rattle.element.specs.declared.bits.Bit.{Bit}
use Rattle.ar4ja.specs.declared.codes.Code.{Code}
use Rattle.frame.specs.Message.{message_len}
use Rattle.line.specs.declared.line_type.Line.{Line}
use Rattle.line.specs.declared.faults.SendFault.{SendFault}
use Rattle.line.specs.declared.faults.ReadBackFault.{ReadBackFault}
use Rattle.line.specs.Refusals.{send_fault, read_back_fault}
use Rattle.line.specs.Book.{Book, written, send_answer, send_run, send_book, read_back_answer, read_back_message, read_back_run}

-- a message that a done send took: as long as the code's messages are, and of bytes
pub record Message (code : Code) (m : List ℕ) : Type 0 where
  pub long : length m ≡ message_len code
  pub bytes : (i : ℕ) → slice_index m i < 256

module _ {C O : Type 0} (bits : O → List Bit) (room : O → ℕ) where
  pub record Follows (b : Book) (l : Line C O) : Type 0 where
    pub code_is : l.code ≡ b.code
    pub frames_are : l.randomizer.mask.code ≡ b.code
    pub randomized_from : l.randomizer.mask.start ≡ length b.opening
    pub done_is : l.done ≡ length b.messages
    pub refused_is : l.refused ≡ b.refused
    pub bits_are : bits l.randomizer.below ≡ written b
    pub room_is : room l.randomizer.below ≡ b.capacity
    pub messages_are : (k : ℕ) → k < length b.messages → Message b.code (slice_index_or b.messages k [])

  -- what a send does to a line that follows a book: its answer, the run after it, and the line after it
  pub record Sends (m : List ℕ) (run : List Bit) (r : Result Unit SendFault) (run' : List Bit) (l' : Line C O) (b : Book) : Type 0 where
    pub answer : outcome send_fault r ≡ send_answer b m run
    pub buffer : run' ≡ send_run b m run
    pub book : Follows (send_book b m run) l'

-- what a read-back does, by the book: its answer, and the message and the run after it
pub record ReadsBack (k : ℕ) (m : List ℕ) (run : List Bit) (r : Result Unit ReadBackFault) (m' : List ℕ) (run' : List Bit) (b : Book) : Type 0 where
  pub answer : outcome read_back_fault r ≡ read_back_answer b k m run
  pub message : m' ≡ read_back_message b k m run
  pub buffer : run' ≡ read_back_run b k m run
