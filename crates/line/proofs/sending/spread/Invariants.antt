use Rattle.std.proofs.Common.{◌≡◌, ◌++◌, drop}
use Rattle.outlet.specs.Packing.{packed_bits}
use Rattle.line.proofs.sending.spread.Given as goal

abbrev pub invariant-loop-i : goal.invariant-loop-i
invariant-loop-i l = l.front ≡ packed_bits l.message l.i ++ drop l.i l.initial.front
