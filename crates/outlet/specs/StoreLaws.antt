-- That a store is lawful, whatever its cells.
use Rattle.std.proofs.Common.{sym, ap, ◌∙◌, inl, inr, arith}
use Rattle.std.specs.Prelude.{◌≡◌, ℕ, ◌≤◌, List, length, refl}
use Rattle.std.proofs.lemmas.List.FromFn.{length-map-range_with_len}
use Rattle.outlet.specs.Meaning.{Lawful}
use Rattle.outlet.specs.Storing.{Form, stored_bit, stored_bits, store_room, Stores}

module _ {C : Type 0} (per : ℕ) (form : Form C) where
  pub unstored : (xs : List C) (n : ℕ) → Stores per form xs xs n n
  unstored xs n = record { long = refl; more = omega arith; others = λ k e. refl; opened = λ k made h. made h }

  onward : (xs ys zs : List C) (l m n : ℕ) → Stores per form xs ys l m → Stores per form ys zs m n → Stores per form xs zs l n
  onward xs ys zs l m n h k = record {
    long = k.long ∙ h.long;
    more = omega (arith, h.more, k.more);
    others = λ j e. elim e [
      | inl a ↦ k.others j (inl (omega (arith, h.more))) ∙ h.others j (inl a)
      | inr a ↦ k.others j (inr a) ∙ h.others j (inr (omega (arith, k.more)))
    ];
    opened = λ j made e. k.opened j (λ d. h.opened j made d) e;
  }

  -- of a type whose values have cells, so many of them, and a count of bits held that fits
  pub store_lawful : {S : Type 0} (cells : S → List C) (count held : S → ℕ) → ((o : S) → count o ≡ length (cells o)) → ((o : S) → held o ≤ store_room per (count o))
      → Lawful {S = S} (λ o. stored_bits per form (cells o) (held o)) (λ o. store_room per (count o)) (λ o p. Stores per form (cells o) (cells p) (held o) (held p))
  store_lawful cells count held counted fits = record {
    within = λ o. omega (arith, length-map-range_with_len (stored_bit per form (cells o)) 0 (held o), fits o);
    reflexive = λ o. unstored _ _;
    transitive = λ a b c h k. onward _ _ _ _ _ _ h k;
    steady = λ a b h. ap (store_room per) (counted b ∙ h.long ∙ sym (counted a));
  }
