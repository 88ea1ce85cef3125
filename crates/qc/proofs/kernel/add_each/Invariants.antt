use Rattle.std.proofs.Common.{get_or}
use Rattle.qc.specs.Segments.{Written}
use Rattle.qc.proofs.kernel.add_each.Given as goal

abbrev pub invariant-loop-i : goal.invariant-loop-i
invariant-loop-i g l =
    let e = g.E.Element in
    Written e.zero (λ s. e.plus (get_or l.initial.sums s e.zero) (get_or l.more s e.zero)) 0 l.initial.sums l.sums l.i
