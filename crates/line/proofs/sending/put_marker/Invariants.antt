use Rattle.std.proofs.Common.{◌≡◌, ◌++◌, map}
use Rattle.std.specs.List.{range_with_len}
use Rattle.frame.specs.Marker.{mark}
use Rattle.line.proofs.sending.put_marker.Given as goal

abbrev pub invariant-loop-i : goal.invariant-loop-i
invariant-loop-i g l =
    let o = g.O.Outlet in
    (o.bits l.out ≡ o.bits l.initial.out ++ map mark (range_with_len 0 l.i)) × o.kept l.initial.out l.out
