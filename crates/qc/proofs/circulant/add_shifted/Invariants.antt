use Rattle.std.proofs.Common.{◌+◌, ◌*◌, get_or}
use Rattle.qc.specs.Segments.{total, Written}
use Rattle.qc.proofs.circulant.add_shifted.Given as goal

abbrev pub invariant-loop-b : goal.invariant-loop-b
invariant-loop-b g l =
    let e = g.E.Element in
    Written e.zero (λ p. e.plus (get_or l.initial.sums p e.zero) (total e.zero e.plus (λ k. get_or l.wide (k + p) e.zero) l.places)) 0 l.initial.sums l.sums (16 * l.b)
