-- What the book gives for a list of calls.
use Rattle.std.specs.Prelude.{ℕ, List, [], ◌∷◌, length, Some, None, Option, vec_items}
use Rattle.refusal.specs.Outcome.{Outcome, outcome}
use Rattle.element.specs.declared.bits.Bit.{Bit}
use Rattle.line.specs.declared.call.Ask.{Ask}
use Rattle.line.specs.declared.call.Ask.TheVariants as ask
use Rattle.line.specs.declared.call.Answer.{Answer}
use Rattle.line.specs.declared.call.Answer.TheVariants as answer
use Rattle.line.specs.declared.call.Call.{Call}
use Rattle.line.specs.Refusals.{send_fault, read_back_fault}
use Rattle.line.specs.Book.{Book, send_answer, send_run, send_book, read_back_answer, read_back_message, read_back_run}

-- an answer, with its refusal told by number; nothing before it is asked
pub data Told : Type 0 where
  nothing : Told
  sent : Outcome Unit → Told
  read_back : Outcome Unit → Told
  counts : ℕ → ℕ → Told

abbrev pub told : Option Answer → Told
told None = nothing
told (Some (answer.Sent r)) = sent (outcome send_fault r)
told (Some (answer.ReadBack r)) = read_back (outcome read_back_fault r)
told (Some (answer.Counts d r)) = counts d r

-- a call by what is asked, what its buffers hold, and what was answered
pub record Entry : Type 0 where
  pub ask : Ask
  pub message : List ℕ
  pub run : List Bit
  pub answer : Told

abbrev pub seen : Call → Entry
seen c = record { ask = c.ask; message = vec_items c.message; run = vec_items c.run; answer = told c.answer }

-- a call as the book gives it
abbrev pub served_as : Book → Entry → Ask → Entry
served_as b e ask.Send = record { ask = e.ask; message = e.message; run = send_run b e.message e.run; answer = sent (send_answer b e.message e.run) }
served_as b e (ask.ReadBack k) = record { ask = e.ask; message = read_back_message b k e.message e.run; run = read_back_run b k e.message e.run; answer = read_back (read_back_answer b k e.message e.run) }
served_as b e ask.Counts = record { ask = e.ask; message = e.message; run = e.run; answer = counts (length b.messages) b.refused }

abbrev pub served : Book → Entry → Entry
served b e = served_as b e e.ask

-- the book after a call: only a send changes it
abbrev pub turned_as : Book → Entry → Ask → Book
turned_as b e ask.Send = send_book b e.message e.run
turned_as b e (ask.ReadBack k) = b
turned_as b e ask.Counts = b

abbrev pub turned : Book → Entry → Book
turned b e = turned_as b e e.ask

-- all calls as the book gives them, one after the other, and the book after them
abbrev pub served_calls : Book → List Entry → List Entry
served_calls b [] = []
served_calls b (e ∷ es) = served b e ∷ served_calls (turned b e) es

abbrev pub book_after : Book → List Entry → Book
book_after b [] = b
book_after b (e ∷ es) = book_after (turned b e) es
