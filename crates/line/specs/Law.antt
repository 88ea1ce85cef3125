-- What a list of calls on a line comes to, with no word of the line or of its book.
use Rattle.std.specs.Prelude.{◌≡◌, ℕ, ◌+◌, ◌*◌, ◌<◌, ◌≤◌, ◌↔◌, List, [], ◌∷◌, ◌++◌, length, get_or, take, slice_index_or}
use Rattle.std.specs.List.{flat_map}
use Rattle.refusal.specs.Outcome.{Outcome.done, Outcome.refused}
use Rattle.element.specs.declared.bits.Bit.{Bit}
use Rattle.qc.specs.Shape.{whole}
use Rattle.ar4ja.specs.declared.codes.Code.{Code}
use Rattle.ar4ja.specs.Codes.{shape_of}
use Rattle.outlet.specs.Masks.{frame_bits}
use Rattle.frame.specs.Message.{message_len}
use Rattle.line.specs.declared.call.Ask.TheVariants.{Send, ReadBack}
use Rattle.line.specs.Frames.{frame, whole_block, WholeBlock, block_in}
use Rattle.line.specs.Calls.{Told, Told.nothing, Told.sent, Told.read_back, Told.counts, Entry}

-- the message of a call, if it was a send and was done
abbrev pub message_of : List ℕ → Told → List (List ℕ)
message_of m nothing = []
message_of m (sent (done u)) = m ∷ []
message_of m (sent (refused n)) = []
message_of m (read_back r) = []
message_of m (counts d r) = []

-- the messages of the done sends, in order
abbrev pub messages_sent : List Entry → List (List ℕ)
messages_sent [] = []
messages_sent (e ∷ es) = message_of e.message e.answer ++ messages_sent es

-- the message and the run have lawful lengths
pub record LawfulLengths (code : Code) (q : Entry) : Type 0 where
  pub message_long : length q.message ≡ message_len code
  pub run_long : whole (shape_of code) ≤ length q.run

-- `asked` are the calls as they were put, `after` the same calls answered, `bits` what the outlet then holds. In
-- the last two laws q is call i as it was put; it stands as its own default, which is never used
pub record LineLaw (code : Code) (opening : List Bit) (capacity : ℕ) (asked after : List Entry) (bits : List Bit) : Type 0 where
  -- the opening bits, then the frame of the message of each done send, in order
  pub holds : bits ≡ opening ++ flat_map (frame code) (messages_sent after)
  -- the whole block whose sent part is in a frame is the only one of its message that has all rows zero
  pub blocks : (m : List ℕ) → WholeBlock code m (whole_block code m)
  -- a send of lawful lengths is done exactly while a frame's places are left
  pub done_while_room : (i : ℕ) (q : Entry) → i < length asked → q ≡ slice_index_or asked i q → q.ask ≡ Send → LawfulLengths code q →
      (get_or after i q).answer ≡ sent (done tt) ↔ length opening + length (messages_sent (take i after)) * frame_bits code + frame_bits code ≤ capacity
  -- each done send's frame, asked for by its number with lawful lengths, reads back as its message
  pub reads_back : (i k : ℕ) (q : Entry) → i < length asked → q ≡ slice_index_or asked i q → q.ask ≡ ReadBack k → LawfulLengths code q →
      k < length (messages_sent (take i after)) →
      ((get_or after i q).answer ≡ read_back (done tt)) × ((get_or after i q).message ≡ slice_index_or (messages_sent (take i after)) k []) × ((get_or after i q).run ≡ block_in code (slice_index_or (messages_sent (take i after)) k []) q.run)
