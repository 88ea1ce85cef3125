-- Inner contracts: how the code goes through a sheet, the place where a line ends, and where the next one begins.
use Rattle.std.specs.Prelude.{◌≡◌, ℕ, ◌-◌, ◌<◌, ◌≤◌, List, ◌∷◌, length, take, drop, Ok, Err, Result}
use Rattle.jobsheet.specs.declared.line.Line.{Line}
use Rattle.jobsheet.specs.declared.names.Order.{Order}
use Rattle.jobsheet.specs.declared.faults.SheetFault.{SheetFault}
use Rattle.jobsheet.specs.Text.{lines}
use Rattle.jobsheet.specs.Printout.{opening, others}

-- the line at a place of the sheet, and the next begins at `next`
pub record LineAt (text : List ℕ) (at : ℕ) (line : Line) (next : ℕ) : Type 0 where
  pub whole : line.text.now ≡ text
  pub begins : line.from ≡ at
  pub starts : at ≤ line.end
  pub within : next ≤ length text
  pub rest : lines (drop next text) ≡ others (lines (drop at text))
  pub there : at < length text → lines (drop at text) ≡ take (line.end - at) (drop at text) ∷ lines (drop next text)
  pub goes : at < length text → at < next

-- the order of a sheet with the place of its second line, or its fault
pub record Begun (text : List ℕ) (o : Order) (next : ℕ) : Type 0 where
  pub order : opening text ≡ Ok o
  pub rest : lines (drop next text) ≡ others (lines text)
  pub goes : 0 < next
  pub within : next ≤ length text
  pub short : length text ≤ 65536

abbrev pub Opened : List ℕ → Result (Order × ℕ) SheetFault → Type 0
Opened text (Ok r) = Begun text r.0 r.1
Opened text (Err f) = opening text ≡ Err f
