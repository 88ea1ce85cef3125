-- That a reference to a lawful outlet is lawful.
use Rattle.std.specs.Prelude.{◌≡◌, ℕ, List, refl}
use Rattle.std.proofs.Common.{◌∙◌}
use Rattle.std.specs.Borrow.{MutBor}
use Rattle.element.specs.declared.bits.Bit.{Bit}
use Rattle.outlet.specs.Meaning.{Lawful}

module _ {O : Type 0} {bits : O → List Bit} {room : O → ℕ} {kept : O → O → Type 0} (low : Lawful bits room kept) where
  pub reference_lawful : Lawful {S = MutBor O} (λ r. bits r.now) (λ r. room r.now) (λ r s. kept r.now s.now × (s.ghost_name ≡ r.ghost_name))
  reference_lawful = record {
    within = λ r. low.within r.now;
    reflexive = λ r. (low.reflexive r.now, refl);
    transitive = λ a b c h k. (low.transitive a.now b.now c.now h.0 k.0, k.1 ∙ h.1);
    steady = λ a b h. low.steady a.now b.now h.0;
  }
