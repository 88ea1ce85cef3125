-- Affine forms: the sum of the bits, and the unknowns that are in one of the two sets and not in the other.
use Rattle.std.proofs.Common.{ap, ap₂}
use Rattle.std.specs.Prelude.{ℕ, Bool, ◌&&◌, ◌==◌, bit_xor, refl}
use Rattle.std.specs.Int.Bits.{xor_assoc, xor_self}
use Rattle.std.proofs.lemmas.Nat.{xor_comm}
use Rattle.std.proofs.lemmas.Bool.{eqb-true, eq-eqb, and_parts, and_from}
use Rattle.element.specs.Laws.{Laws}
use Rattle.element.specs.Bits.{bit_plus, bit_same, bit_laws}
use Rattle.element.specs.declared.bits.Bit.{Bit}
use Rattle.element.specs.declared.bits.Bit.TheVariants.{Zero}
use Rattle.element.specs.declared.forms.Form.{Form}

abbrev form : Bit → ℕ → Form
form b n = record { bit = b; unknowns = n }

abbrev pub form_zero : Form
form_zero = form Zero 0

abbrev pub form_plus : Form → Form → Form
form_plus x y = form (bit_plus x.bit y.bit) (bit_xor x.unknowns y.unknowns)

abbrev pub form_same : Form → Form → Bool
form_same x y = bit_same x.bit y.bit && x.unknowns == y.unknowns

pub form_laws : Laws form_zero form_plus form_same
form_laws = record {
  assoc = λ x y z. ap₂ form (bit_laws.assoc x.bit y.bit z.bit) (xor_assoc x.unknowns y.unknowns z.unknowns);
  comm = λ x y. ap₂ form (bit_laws.comm x.bit y.bit) (xor_comm x.unknowns y.unknowns);
  neutral = λ x. ap₂ form (bit_laws.neutral x.bit) refl;
  cancels = λ x. ap₂ form (bit_laws.cancels x.bit) (xor_self x.unknowns);
  same_equal = λ x y e.
      let both = and_parts (bit_same x.bit y.bit) (x.unknowns == y.unknowns) e in
      ap₂ form (bit_laws.same_equal x.bit y.bit both.0) (eqb-true x.unknowns y.unknowns both.1);
  equal_same = λ x y e.
      and_from _ _ (bit_laws.equal_same x.bit y.bit (ap (λ (f : Form). f.bit) e)) (eq-eqb x.unknowns y.unknowns (ap (λ (f : Form). f.unknowns) e));
}
