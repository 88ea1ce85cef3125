use Rattle.std.proofs.Common.{◌+◌, ◌-◌, ◌*◌, ◌/◌, ◌%◌}
use Rattle.qc.specs.Segments.{summed, Written}
use Rattle.qc.proofs.kernel.Summands.write_group.Given as goal

abbrev pub invariant-loop-j : goal.invariant-loop-j
invariant-loop-j g l =
    let e = g.E.Element in
    Written e.zero (λ p. summed e.zero e.plus l.m l.self l.initial.run ((p - l.from) / l.m) ((p - l.from) % l.m))
    l.from l.initial.run l.run (l.from + l.j * l.m)
