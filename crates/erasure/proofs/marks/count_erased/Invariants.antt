use Rattle.std.proofs.Common.{◌≡◌, ◌≤◌}
use Rattle.erasure.specs.Marks.{rank}
use Rattle.erasure.proofs.marks.count_erased.Given as goal

abbrev pub invariant-loop-mark : goal.invariant-loop-mark
invariant-loop-mark l = (l.n ≡ rank l.marks l.mark-index) × (l.n ≤ l.mark-index)
