-- What a line of a sheet says and prints, and what is printed for a whole sheet.
use Rattle.std.specs.Prelude.{ℕ, ◌+◌, cond, List, [], ◌∷◌, ◌++◌, length, Some, None, Ok, Err, Option, Result, nat_lt}
use Rattle.std.specs.Option.{ok_or}
use Rattle.refusal.specs.Outcome.{Numbered}
use Rattle.jobsheet.specs.declared.names.Order.{Order}
use Rattle.jobsheet.specs.declared.faults.LineFault.{LineFault}
use Rattle.jobsheet.specs.declared.faults.SheetFault.{SheetFault}
use Rattle.jobsheet.specs.declared.faults.SheetFault.TheVariants.{TooLong, Names, Line}
use Rattle.jobsheet.specs.Text.{lines, words}
use Rattle.jobsheet.specs.Names.{sheet_order}
use Rattle.jobsheet.specs.Jobs.{Asked, line_job}
use Rattle.jobsheet.specs.Refusals.{sheet_fault}
use Rattle.jobsheet.specs.Printing.{heading, job_text, refusal_text, ended}

-- what an answer prints, at a line's number, and the refusal that it tells
abbrev pub answer_text : ℕ → Result Asked SheetFault → List ℕ
answer_text n (Ok a) = job_text n a
answer_text n (Err f) = refusal_text (sheet_fault f)

abbrev pub refusal_of : {X : Type 0} → Result X SheetFault → Option Numbered
refusal_of (Ok x) = None
refusal_of (Err f) = Some (sheet_fault f)

-- a line's fault with its number in the sheet
abbrev pub at_line : ℕ → Result Asked LineFault → Result Asked SheetFault
at_line n (Ok a) = Ok a
at_line n (Err f) = Err (Line n f)

-- what a line of the sheet says, by itself, its number and the order of the names
abbrev pub line_answer : Order → ℕ → List ℕ → Result Asked SheetFault
line_answer o n line = at_line n (line_job o (words line))

-- the order of a sheet, or why it is turned down: over 65,536 bytes, or no names line
abbrev pub by_names : Option Order → Result Order SheetFault
by_names o = ok_or o Names

abbrev pub opening : List ℕ → Result Order SheetFault
opening text = cond (nat_lt 65536 (length text)) (Err TooLong) (by_names (sheet_order (lines text)))

-- what the opening prints: the heading, and then the refusal if there is one
abbrev pub opening_text : Result Order SheetFault → List ℕ
opening_text (Ok o) = ended heading
opening_text (Err f) = ended heading ++ ended (refusal_text (sheet_fault f))

-- the lines from number n on, printed: one for each, in order
unfoldable pub printed_lines : Order → ℕ → List (List ℕ) → List ℕ
printed_lines o n [] = []
printed_lines o n (l ∷ ls) = ended (answer_text n (line_answer o n l)) ++ printed_lines o (n + 1) ls

abbrev pub others : List (List ℕ) → List (List ℕ)
others [] = []
others (l ∷ ls) = ls

-- the whole sheet printed; the names are its line 1
abbrev pub body : Result Order SheetFault → List (List ℕ) → List ℕ
body (Ok o) ls = printed_lines o 2 (others ls)
body (Err f) ls = []

unfoldable pub printed_sheet : List ℕ → List ℕ
printed_sheet text = opening_text (opening text) ++ body (opening text) (lines text)
