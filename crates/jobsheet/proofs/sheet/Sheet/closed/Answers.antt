use Rattle.std.proofs.Common.{ℕ, List, length, ap, arith}
use Rattle.jobsheet.specs.declared.names.Order.TheVariants.{CodeCoderMessage}
use Rattle.jobsheet.specs.Sheets.{Standing}
use Rattle.jobsheet.proofs.Stepping.{none_left}
use Rattle.jobsheet.proofs.sheet.Sheet.closed.Goals as goal

with_left : List (List ℕ) → Standing
with_left ls = record { order = CodeCoderMessage; number = 1; left = ls }

pub returns : goal.returns
unfolding with_left
returns c = ap with_left (none_left c.args.text.now (length c.args.text.now) (omega arith))
