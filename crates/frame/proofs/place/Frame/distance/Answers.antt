use Rattle.std.proofs.Common.{◌≡◌, ◌+◌, get_or, ap, ◌∙◌, arith}
use Rattle.element.specs.declared.bits.Bit.TheVariants.{Zero}
use Rattle.element.specs.Bits.{bit_plus}
use Rattle.frame.specs.Marker.{mark, differing, distance}
use Rattle.frame.proofs.place.Frame.distance.Goals as goal

pub returns : goal.returns
unfolding distance
returns g c =
    let p = c.args.self.now in
    c.loop-i.invariant.0 ∙ ap (differing (λ k. get_or (g.O.Outlet.bits p.outlet.now) (p.start + k) Zero) (λ k. bit_plus (mark k) Zero)) (let end : c.loop-i.i ≡ 64 = omega (arith, c.loop-i-test.false, c.loop-i.auto) in end)
