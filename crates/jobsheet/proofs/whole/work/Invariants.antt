use Rattle.std.proofs.Common.{◌++◌, length, vec_items, vec_capacity}
use Rattle.jobsheet.specs.Sheets.{standing}
use Rattle.jobsheet.proofs.Sheets.{Underway, ahead}
use Rattle.jobsheet.proofs.whole.work.Given as goal

abbrev pub invariant-loop-sheet : goal.invariant-loop-sheet
invariant-loop-sheet l =
    Underway (vec_items l.initial.all ++ ahead (standing l.initial.sheet)) (vec_capacity l.initial.all)
    l.out (vec_items l.all) (vec_capacity l.all) (standing l.sheet)

abbrev pub decreases-loop-sheet : goal.decreases-loop-sheet
decreases-loop-sheet l = length (standing l.sheet).left
