-- The number of each refusal, and the values that it carries: of a value none, of a line the column, of a
-- sheet the line and the column. A column is a value's number in its line, from 1, or 0 for the whole line.
use Rattle.std.specs.Prelude.{ℕ, [], ◌∷◌, Some, None, Option, slice_index}
use Rattle.refusal.specs.Outcome.{Numbered}
use Rattle.ar4ja.specs.Refusals.{code_fault}
use Rattle.jobsheet.specs.declared.faults.ValueFault.{ValueFault}
use Rattle.jobsheet.specs.declared.faults.ValueFault.TheVariants.{NoCode, Unreadable, WrongLength}
use Rattle.jobsheet.specs.declared.faults.LineFault.{LineFault}
use Rattle.jobsheet.specs.declared.faults.LineFault.TheVariants.{Count, Value}
use Rattle.jobsheet.specs.declared.faults.SheetFault.{SheetFault}
use Rattle.jobsheet.specs.declared.faults.SheetFault.TheVariants.{Buffer, TooLong, Names, NoLine, Line}

abbrev pub value_fault : ValueFault → Numbered
value_fault (NoCode fault) = code_fault fault
value_fault Unreadable = record { number = 22; values = [] }
value_fault WrongLength = record { number = 23; values = [] }

abbrev pub line_fault : LineFault → Numbered
line_fault Count = record { number = 21; values = 0 ∷ [] }
line_fault (Value column fault) = record { number = (value_fault fault).number; values = column ∷ (value_fault fault).values }

abbrev pub sheet_fault : SheetFault → Numbered
sheet_fault Buffer = record { number = 25; values = [] }
sheet_fault TooLong = record { number = 24; values = 0 ∷ 0 ∷ [] }
sheet_fault Names = record { number = 20; values = 1 ∷ 0 ∷ [] }
sheet_fault NoLine = record { number = 26; values = [] }
sheet_fault (Line line fault) = record { number = (line_fault fault).number; values = line ∷ (line_fault fault).values }

-- the line and the column that a sheet's fault carries
abbrev pub fault_line : SheetFault → ℕ
fault_line f = slice_index (sheet_fault f).values 0

abbrev pub fault_column : SheetFault → ℕ
fault_column f = slice_index (sheet_fault f).values 1

-- the fault of an answer by its number, if there is one
abbrev pub told : Option SheetFault → Option Numbered
told None = None
told (Some f) = Some (sheet_fault f)
