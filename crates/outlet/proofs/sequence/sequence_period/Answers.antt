use Rattle.std.proofs.Common.{refl}
use Rattle.outlet.specs.Sequence.{s, byte_from}
use Rattle.outlet.proofs.Recurrence.{again, eight_ones, rule}
use Rattle.outlet.proofs.sequence.sequence_period.Goals as goal

pub returns : goal.returns
unfolding s byte_from
returns c = record { count = refl; repeats = again; ones = eight_ones; rule = rule; worked = refl }
