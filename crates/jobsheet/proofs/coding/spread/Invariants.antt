use Rattle.std.proofs.Common.{◌≡◌, ◌++◌, map, drop}
use Rattle.std.specs.List.{range_with_len}
use Rattle.jobsheet.specs.Values.{message_bit}
use Rattle.jobsheet.proofs.coding.spread.Given as goal

abbrev pub invariant-loop-i : goal.invariant-loop-i
invariant-loop-i l = l.bit-items ≡ map (message_bit l.digits) (range_with_len 0 l.i) ++ drop l.i l.initial.bit-items
