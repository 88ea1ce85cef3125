use Rattle.std.proofs.Common.{◌≡◌, ◌++◌, drop}
use Rattle.frame.specs.Message.{message_bytes}
use Rattle.frame.proofs.bytes.gather.Given as goal

abbrev pub invariant-loop-k : goal.invariant-loop-k
invariant-loop-k l = l.message ≡ message_bytes l.run l.k ++ drop l.k l.initial.message
