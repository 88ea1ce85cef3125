-- Sixty-four lanes: the sum of each lane modulo two, all at once.
use Rattle.std.proofs.Common.{ap}
use Rattle.std.specs.Prelude.{ℕ, Bool, ◌==◌, bit_xor, refl}
use Rattle.std.specs.Int.Bits.{xor_assoc, xor_self}
use Rattle.std.proofs.lemmas.Nat.{xor_comm}
use Rattle.std.proofs.lemmas.Bool.{eqb-true, eq-eqb}
use Rattle.element.specs.Laws.{Laws}
use Rattle.element.specs.declared.side_by_side.Lanes.{Lanes}

abbrev lanes : ℕ → Lanes
lanes n = record { bits = n }

abbrev pub lanes_zero : Lanes
lanes_zero = lanes 0

abbrev pub lanes_plus : Lanes → Lanes → Lanes
lanes_plus x y = lanes (bit_xor x.bits y.bits)

abbrev pub lanes_same : Lanes → Lanes → Bool
lanes_same x y = x.bits == y.bits

pub lanes_laws : Laws lanes_zero lanes_plus lanes_same
lanes_laws = record {
  assoc = λ x y z. ap lanes (xor_assoc x.bits y.bits z.bits);
  comm = λ x y. ap lanes (xor_comm x.bits y.bits);
  neutral = λ x. refl;
  cancels = λ x. ap lanes (xor_self x.bits);
  same_equal = λ x y e. ap lanes (eqb-true x.bits y.bits e);
  equal_same = λ x y e. eq-eqb x.bits y.bits (ap (λ (l : Lanes). l.bits) e);
}
