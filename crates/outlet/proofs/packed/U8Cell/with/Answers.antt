use Rattle.std.proofs.Common.{arith}
use Rattle.outlet.proofs.Digits.{byte_written}
use Rattle.outlet.proofs.packed.U8Cell.with.Goals as goal

pub returns : goal.returns
returns c = rw c.with_bit.ensures (byte_written c.args.self c.args.q c.args.b (omega (arith, c.ranges.self.fits)) c.requires)
