use Rattle.std.proofs.Common.{◌≡◌, get_or}
use Rattle.element.specs.declared.bits.Bit.TheVariants.{Zero}
use Rattle.element.specs.Bits.{number_of}
use Rattle.element.proofs.numbers.number_of.Given as goal

abbrev pub invariant-loop-bit : goal.invariant-loop-bit
invariant-loop-bit l = l.number ≡ number_of (λ i. get_or l.bits i Zero) l.bit-index
