use Rattle.std.proofs.Common.{◌*◌, List, length, take, set, ap, ◌∙◌}
use Rattle.element.specs.declared.bits.Bit.{Bit}
use Rattle.element.specs.declared.bits.Bit.TheVariants.{Zero}
use Rattle.outlet.specs.Packing.{place_bit}
use Rattle.frame.proofs.Filling.{filled_more}
use Rattle.line.proofs.sending.spread.Goals as goal

pub loop-i-preserved : goal.loop-i-preserved
unfolding place_bit
loop-i-preserved c =
    let message = c.args.message.now in
    ap (λ (z : List Bit). set z c.loop-i.i c.byte_bit.result) c.loop-i.invariant
    ∙ filled_more (place_bit message) (take (8 * length message) c.args.run.now) Zero c.loop-i.i c.byte_bit.result c.loop-i-test.true c.byte_bit.ensures
