use Rattle.std.proofs.Common.{◌≡◌, ◌+◌, ◌≤◌, get_or}
use Rattle.element.specs.declared.bits.Bit.TheVariants.{Zero}
use Rattle.element.specs.Bits.{bit_plus}
use Rattle.frame.specs.Marker.{mark, differing}
use Rattle.frame.proofs.place.Frame.distance.Given as goal

abbrev pub invariant-loop-i : goal.invariant-loop-i
invariant-loop-i g l =
    (l.differ ≡ differing (λ k. get_or (g.O.Outlet.bits l.self.outlet.now) (l.self.start + k) Zero) (λ k. bit_plus (mark k) Zero) l.i)
    × (l.differ ≤ l.i)
