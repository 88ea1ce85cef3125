use Rattle.std.proofs.Common.{◌≡◌, ◌≤◌, ◌++◌, length, take}
use Rattle.line.proofs.sending.put_bits.Given as goal

abbrev pub invariant-loop-b : goal.invariant-loop-b
invariant-loop-b g l =
    let o = g.O.Outlet in
    (o.bits l.out ≡ o.bits l.initial.out ++ take l.b-index l.run) × o.kept l.initial.out l.out × (l.b-index ≤ length l.run)
