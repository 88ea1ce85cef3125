-- The law of a whole sheet: what is printed is one line for each line of the sheet, in order, each by that
-- line alone.
use Rattle.std.specs.Prelude.{◌≡◌, ℕ, ◌+◌, ◌<◌, List, [], ◌∷◌, length, get_or, Ok, Err, slice_index_or}
use Rattle.jobsheet.specs.declared.names.Order.{Order}
use Rattle.jobsheet.specs.declared.faults.SheetFault.{SheetFault}
use Rattle.jobsheet.specs.Text.{lines}
use Rattle.jobsheet.specs.Refusals.{sheet_fault}
use Rattle.jobsheet.specs.Printing.{heading, refusal_text}
use Rattle.jobsheet.specs.Printout.{opening, answer_text, line_answer}

-- of a sheet whose names stand in an order: line k, counted from 1, is answered in printed line k, and the
-- names by the heading
pub record Answered (o : Order) (text out : List ℕ) : Type 0 where
  pub count : length (lines out) ≡ length (lines text)
  pub names : get_or (lines out) 0 [] ≡ heading
  pub each : (i : ℕ) → 0 < i → i < length (lines text) → slice_index_or (lines out) i [] ≡ answer_text (i + 1) (line_answer o (i + 1) (slice_index_or (lines text) i []))

pub record LineForLine (text out : List ℕ) : Type 0 where
  pub worked : (o : Order) → opening text ≡ Ok o → Answered o text out
  pub refused : (f : SheetFault) → opening text ≡ Err f → lines out ≡ heading ∷ refusal_text (sheet_fault f) ∷ []
