use Rattle.std.proofs.Common.{◌≡◌, ℕ, ◌*◌, ◌/◌, ◌%◌, ◌<◌, true}
use Rattle.qc.specs.Segments.{summed}
use Rattle.qc.proofs.kernel.Summands.lowest_row.Given as goal

abbrev pub invariant-loop-j : goal.invariant-loop-j
invariant-loop-j g l =
    let e = g.E.Element in
    (i : ℕ) → i < l.j * l.m → e.same (summed e.zero e.plus l.m l.self l.run (i / l.m) (i % l.m)) e.zero ≡ true
