-- That a layer is lawful where the outlet below is, whatever its mask adds, and so each layer.
use Rattle.std.specs.Prelude.{◌≡◌, ℕ, ◌≤◌, List, refl}
use Rattle.std.proofs.Common.{subst, sym, ap, ◌∙◌, ap₂}
use Rattle.element.specs.declared.bits.Bit.{Bit}
use Rattle.outlet.specs.Meaning.{Lawful, lawful_as}
use Rattle.outlet.specs.Masks.{masked, inverting, randomizing, length_masked}
use Rattle.outlet.specs.declared.layer.Masked.{Masked}
use Rattle.outlet.specs.declared.inverting.Inversion.{Inversion}
use Rattle.outlet.specs.declared.randomizing.Randomization.{Randomization}

module _ {M O : Type 0} (mask : M → ℕ → Bit) {bits : O → List Bit} {room : O → ℕ} {kept : O → O → Type 0} (low : Lawful bits room kept) where
  pub masked_lawful : Lawful {S = Masked M O} (λ w. masked (mask w.mask) (bits w.below)) (λ w. room w.below) (λ w v. (v.mask ≡ w.mask) × kept w.below v.below)
  masked_lawful = record {
    within = λ w. subst (λ n. n ≤ room w.below) (sym (length_masked (mask w.mask) (bits w.below))) (low.within w.below);
    reflexive = λ w. (refl, low.reflexive w.below);
    transitive = λ a b c h k. (k.0 ∙ h.0, low.transitive a.below b.below c.below h.1 k.1);
    steady = λ a b h. low.steady a.below b.below h.1;
  }

module _ {O : Type 0} {bits : O → List Bit} {room : O → ℕ} {kept : O → O → Type 0} (low : Lawful bits room kept) where
  pub inverter_lawful : Lawful {S = Masked Inversion O} (λ w. masked inverting (bits w.below)) (λ w. room w.below) (λ w v. kept w.below v.below)
  inverter_lawful = lawful_as (masked_lawful (λ m. inverting) low) (λ w. refl) (λ w. refl) (λ w v h. h.1) (λ w v h. (refl, h))

  pub randomizer_lawful : Lawful {S = Masked Randomization O} (λ w. masked (randomizing w.mask.start w.mask.code) (bits w.below)) (λ w. room w.below) (λ w v. (v.mask.start ≡ w.mask.start) × (v.mask.code ≡ w.mask.code) × kept w.below v.below)
  randomizer_lawful =
      lawful_as (masked_lawful (λ m. randomizing m.start m.code) low) (λ w. refl) (λ w. refl)
      (λ w v h. (ap (λ m. m.start) h.0, ap (λ m. m.code) h.0, h.1))
      (λ w v h. (ap₂ (λ start code. record { start = start; code = code }) h.0 h.1, h.2))
