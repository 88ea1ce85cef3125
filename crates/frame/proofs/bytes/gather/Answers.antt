use Rattle.std.proofs.Common.{ℕ, List, set, ap, ◌∙◌}
use Rattle.frame.specs.Message.{message_byte}
use Rattle.frame.proofs.Filling.{filled_more}
use Rattle.frame.proofs.bytes.gather.Goals as goal

pub loop-k-preserved : goal.loop-k-preserved
unfolding message_byte
loop-k-preserved c =
    ap (λ (z : List ℕ). set z c.loop-k.k c.byte_from.result) c.loop-k.invariant
    ∙ filled_more (message_byte c.args.run.now) c.args.message.now 0 c.loop-k.k c.byte_from.result c.loop-k-test.true c.byte_from.ensures
