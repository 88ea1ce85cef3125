use Rattle.std.proofs.Common.{◌≡◌, ℕ, ◌<◌, eqb, ◌∙◌, eqb→eq}
use Rattle.element.specs.Bits.{weight}
use Rattle.outlet.specs.Sequence.{ones, from_register, s}
use Rattle.outlet.proofs.Tested.{from_all}
use Rattle.outlet.proofs.Recurrence.{table_bit, reads}
use Rattle.outlet.proofs.sequence.randomizing_bit.Goals as goal

-- one computed test of the whole stored table
entries : (k : ℕ) → k < 255 → table_bit k ≡ weight (s k)
unfolding s
entries k h = eqb→eq (table_bit k) (weight (from_register ones k)) (from_all (λ j. eqb (table_bit j) (weight (from_register ones j))) 255 k tt h)

pub returns : goal.returns
returns c = c.from.ensures ∙ reads entries c.args.i
