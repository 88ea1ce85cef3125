-- A sheet that is being worked: what its opening and its next line answer and print, and how it stands then.
use Rattle.std.specs.Prelude.{ℕ, ◌+◌, Bool, true, false, cond, List, [], ◌∷◌, drop, Ok, Err, Result, nat_lt}
use Rattle.jobsheet.specs.declared.names.Order.{Order}
use Rattle.jobsheet.specs.declared.names.Order.TheVariants.{CodeCoderMessage}
use Rattle.jobsheet.specs.declared.faults.SheetFault.{SheetFault}
use Rattle.jobsheet.specs.declared.faults.SheetFault.TheVariants.{Buffer, NoLine}
use Rattle.jobsheet.specs.declared.sheet.Sheet.{Sheet}
use Rattle.jobsheet.specs.Text.{lines}
use Rattle.jobsheet.specs.Jobs.{Asked}
use Rattle.jobsheet.specs.Printing.{ended}
use Rattle.jobsheet.specs.Printout.{answer_text, line_answer, opening, opening_text, others}

-- how a sheet stands: the order of its names, the number of its next line, and the lines that are left
pub record Standing : Type 0 where
  pub order : Order
  pub number : ℕ
  pub left : List (List ℕ)

abbrev pub standing : Sheet → Standing
standing s = record { order = s.order; number = s.line; left = lines (drop s.at s.text.now) }

abbrev pub some_left : List (List ℕ) → Bool
some_left [] = false
some_left (l ∷ ls) = true

-- a refused sheet has no line left; its order and number are of no account
abbrev pub closed : Standing
closed = record { order = CodeCoderMessage; number = 1; left = [] }

-- opening with a buffer of some room: nothing is written to less than 272 bytes
abbrev pub opened : Result Order SheetFault → List (List ℕ) → Standing
opened (Ok o) ls = record { order = o; number = 2; left = others ls }
opened (Err f) ls = closed

module _ (room : ℕ) (text : List ℕ) where
  abbrev pub open_answer : Result Order SheetFault
  open_answer = cond (nat_lt room 272) (Err Buffer) (opening text)

  abbrev pub open_printed : List ℕ
  open_printed = cond (nat_lt room 272) [] (opening_text (opening text))

  abbrev pub open_standing : Standing
  open_standing = opened open_answer (lines text)

-- a job line with a buffer of some room: the next line is taken unless the room is short
abbrev pub next_answer : Order → ℕ → List (List ℕ) → Result Asked SheetFault
next_answer o n [] = Err NoLine
next_answer o n (l ∷ ls) = line_answer o n l

abbrev pub next_printed : Order → ℕ → List (List ℕ) → List ℕ
next_printed o n [] = []
next_printed o n (l ∷ ls) = ended (answer_text n (line_answer o n l))

abbrev pub next_standing : Order → ℕ → List (List ℕ) → Standing
next_standing o n [] = record { order = o; number = n; left = [] }
next_standing o n (l ∷ ls) = record { order = o; number = n + 1; left = ls }

module _ (room : ℕ) (s : Standing) where
  abbrev pub job_answer : Result Asked SheetFault
  job_answer = cond (nat_lt room 272) (Err Buffer) (next_answer s.order s.number s.left)

  abbrev pub job_printed : List ℕ
  job_printed = cond (nat_lt room 272) [] (next_printed s.order s.number s.left)

  abbrev pub job_standing : Standing
  job_standing = cond (nat_lt room 272) s (next_standing s.order s.number s.left)
