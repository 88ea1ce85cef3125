use Rattle.std.proofs.Common.{refl, arith}
use Rattle.frame.proofs.Marks.{distances, found_complemented, found_none}
use Rattle.frame.proofs.place.Frame.find_marker.Goals as goal

pub overflow_sub-other : goal.overflow_sub-other
overflow_sub-other g c = omega (arith, distances (g.O.Outlet.bits c.args.self.now.outlet.now) c.args.self.now.start, c.distance-differ.ensures)

pub returns-then-other-tolerance : goal.returns-then-other-tolerance
returns-then-other-tolerance g c = found_complemented _ _ _ _ c.distance-differ.ensures (omega (arith, c.if-differ-tolerance.false)) _ refl c.if-other-tolerance.true

pub returns : goal.returns
returns g c = found_none _ _ _ _ c.distance-differ.ensures (omega (arith, c.if-differ-tolerance.false)) (omega (arith, c.if-other-tolerance.false))
