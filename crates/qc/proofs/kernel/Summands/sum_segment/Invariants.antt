use Rattle.std.proofs.Common.{◌≡◌, ℕ, ◌<◌, length, get_or, take}
use Rattle.qc.specs.Segments.{segments, segment_sum}
use Rattle.qc.proofs.kernel.Summands.sum_segment.Given as goal

abbrev pub invariant-loop-t : goal.invariant-loop-t
invariant-loop-t g l =
    let e = g.E.Element in
    (s : ℕ) → s < length l.sums → get_or l.sums s e.zero ≡ segment_sum e.zero e.plus (length l.sums) l.self.table.now (take l.t-index l.self.terms.now) (segments e.zero (length l.sums) l.run) l.j s
