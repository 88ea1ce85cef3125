use Rattle.std.proofs.Common.{◌≡◌, ◌+◌, List, get_or, take, set, ap, ◌∙◌, ap₂, arith}
use Rattle.element.specs.declared.bits.Bit.{Bit}
use Rattle.element.specs.declared.bits.Bit.TheVariants.{Zero}
use Rattle.element.specs.Bits.{bit_plus}
use Rattle.frame.specs.Reading.{received_bit}
use Rattle.frame.proofs.Filling.{filled_more}
use Rattle.frame.proofs.place.Frame.fetch.Goals as goal

pub loop-i-preserved : goal.loop-i-preserved
loop-i-preserved g c =
    let p = c.args.self.now in
    let held = g.O.Outlet.bits p.outlet.now in
    let i = c.loop-i.i in
    let at : p.start + (64 + i) ≡ p.start + 64 + i = omega arith in
    ap (λ (z : List Bit). set z i c.plus-in-loop-i.result) c.loop-i.invariant
    ∙ filled_more (received_bit c.args.turn held p.start) (take c.block_len.result c.args.run.now) Zero i c.plus-in-loop-i.result c.loop-i-test.true
    (c.plus-in-loop-i.ensures ∙ ap (λ (b : Bit). bit_plus b c.args.turn) (c.plus.ensures ∙ ap₂ bit_plus (c.bit.ensures ∙ ap (λ k. get_or held k Zero) at) c.randomizing_bit.ensures))
