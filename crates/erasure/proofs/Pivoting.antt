-- One more form: taken apart by the rows, then substituted into them.
use Rattle.std.proofs.Common.{◌≡◌, ℕ, ◌+◌, ◌<◌, ◌≢◌, ◌⊎◌, List, sym, refl, ap, ◌∙◌, ap₂, inl, inr, ⊎_elim, arith, below_more}
use Rattle.std.proofs.lemmas.Bool.{cases_eq}
use Rattle.element.specs.declared.bits.Bit.{Bit}
use Rattle.element.specs.declared.bits.Bit.TheVariants.{Zero, One}
use Rattle.element.specs.declared.forms.Form.{Form}
use Rattle.element.specs.Bits.{bit_plus, bit_laws}
use Rattle.element.specs.Forms.{form_zero, form_plus}
use Rattle.erasure.specs.Unknowns.{member, value, pivot, Solves, Reduced, Cleared, added}
use Rattle.erasure.proofs.Sets.{member_xor, member_zero}
use Rattle.qc.proofs.Sums.{right}
use Rattle.erasure.proofs.Values.{apart, value_plus, value_zero}

-- one of two bits whose sum is one
pub either : (a b : Bit) → bit_plus a b ≡ One → (a ≡ One) ⊎ (b ≡ One)
either Zero Zero h = inl h
either Zero One h = inr refl
either One b h = inl refl

module _ (u : ℕ) (t : List Form) (red : Reduced u t) (f g : Form) (p : ℕ) (hp : p < u) (so : Cleared u p t f g) where
  pub cleared_kept : member g.unknowns p ≡ Zero → Cleared u (p + 1) t f g
  cleared_kept e = record { same = so.same; clear = below_more _ _ so.clear (λ e'. absurd (apart (sym e ∙ e'))) }

  pub cleared_more : member g.unknowns p ≡ One → Cleared u (p + 1) t f (form_plus g (pivot t p))
  cleared_more e =
      record {
        same = λ s z. value_plus u s g (pivot t p) ∙ ap (bit_plus (value u s g)) (z p hp) ∙ right bit_laws (value u s g) ∙ so.same s z;
        clear = below_more _ _
            (λ q h o. ⊎_elim (so.clear q h) (red.apart p q hp (omega arith) (omega arith)) (either (member g.unknowns q) (member (pivot t p).unknowns q) (sym (member_xor g.unknowns (pivot t p).unknowns q) ∙ o)))
            (λ o. red.empty p hp (flip (member (pivot t p).unknowns p) (ap (λ b. bit_plus b (member (pivot t p).unknowns p)) (sym e) ∙ sym (member_xor g.unknowns (pivot t p).unknowns p) ∙ o)));
      }
    where
      flip : (b : Bit) → bit_plus One b ≡ One → b ≡ Zero
      flip Zero h = refl
      flip One h = sym h

-- the table with g in row k, and g added to each other row that has the unknown k
pub record Pivoted (u : ℕ) (t : List Form) (g : Form) (k : ℕ) (v : List Form) : Type 0 where
  pub here : pivot v k ≡ g
  pub there : (p : ℕ) → p < u → p ≢ k → pivot v p ≡ added (member (pivot t p).unknowns k) (pivot t p) g

zero_form_has : (f : Form) (k : ℕ) → f ≡ form_zero → member f.unknowns k ≡ One → ⊥
zero_form_has f k e o = apart (sym (member_zero k) ∙ ap (λ f. member f.unknowns k) (sym e) ∙ o)

value_added : (u : ℕ) (s : ℕ → Bit) (b : Bit) (f g : Form) → value u s g ≡ Zero → value u s (added b f g) ≡ value u s f
value_added u s Zero f g z = refl
value_added u s One f g z = value_plus u s f g ∙ ap (bit_plus (value u s f)) z ∙ right bit_laws (value u s f)

-- the added form takes the unknown k out
added_out : (f g : Form) (k : ℕ) → member g.unknowns k ≡ One → (b : Bit) → member f.unknowns k ≡ b → member (added b f g).unknowns k ≡ Zero
added_out f g k o Zero e = e
added_out f g k o One e = member_xor f.unknowns g.unknowns k ∙ ap₂ bit_plus e o

added_has : (f g : Form) (b : Bit) (q : ℕ) → member (added b f g).unknowns q ≡ One → (member f.unknowns q ≡ One) ⊎ (member g.unknowns q ≡ One)
added_has f g Zero q h = inl h
added_has f g One q h = either (member f.unknowns q) (member g.unknowns q) (sym (member_xor f.unknowns g.unknowns q) ∙ h)

added_zero : (f g : Form) (k : ℕ) → f ≡ form_zero → (b : Bit) → member f.unknowns k ≡ b → added b f g ≡ form_zero
added_zero f g k z Zero e = z
added_zero f g k z One e = absurd (zero_form_has f k z e)

module _ (u : ℕ) (t : List Form) (red : Reduced u t) (f g : Form) (so : Cleared u u t f g) (k : ℕ) (hk : k < u) (o : member g.unknowns k ≡ One)
    (v : List Form) (pv : Pivoted u t g k v) where
  abbrev m : ℕ → Bit
  m p = member (pivot t p).unknowns k

  pub solves_old : (s : ℕ → Bit) → Solves u v s → Solves u t s
  solves_old s z p hp = go (cases_eq p k)
    where
      gz : value u s g ≡ Zero
      gz = ap (value u s) (sym pv.here) ∙ z k hk

      go : ((p ≡ k) ⊎ (p ≢ k)) → value u s (pivot t p) ≡ Zero
      go (inl e) = ap (λ p. value u s (pivot t p)) e ∙ ap (value u s) (so.clear k hk o) ∙ value_zero u s
      go (inr ne) = sym (value_added u s (m p) (pivot t p) g gz) ∙ ap (value u s) (sym (pv.there p hp ne)) ∙ z p hp

  pub solves_form : (s : ℕ → Bit) → Solves u v s → value u s f ≡ Zero
  solves_form s z = sym (so.same s (solves_old s z)) ∙ ap (value u s) (sym pv.here) ∙ z k hk

  pub solves_new : (s : ℕ → Bit) → Solves u t s → value u s f ≡ Zero → Solves u v s
  solves_new s z fz p hp = go (cases_eq p k)
    where
      gz : value u s g ≡ Zero
      gz = so.same s z ∙ fz

      go : ((p ≡ k) ⊎ (p ≢ k)) → value u s (pivot v p) ≡ Zero
      go (inl e) = ap (λ p. value u s (pivot v p)) e ∙ ap (value u s) pv.here ∙ gz
      go (inr ne) = ap (value u s) (pv.there p hp ne) ∙ value_added u s (m p) (pivot t p) g gz ∙ z p hp

  -- which unknowns a row of the new table has
  has_old : (p q : ℕ) → p < u → q < u → p ≢ q → member (pivot v p).unknowns q ≡ One → pivot t q ≡ form_zero
  has_old p q hp hq ne h = go (cases_eq p k)
    where
      go : ((p ≡ k) ⊎ (p ≢ k)) → pivot t q ≡ form_zero
      go (inl e) = so.clear q hq (ap (λ f. member f.unknowns q) (sym (ap (pivot v) e ∙ pv.here)) ∙ h)
      go (inr other) =
          ⊎_elim (red.apart p q hp hq ne) (so.clear q hq)
          (added_has (pivot t p) g (m p) q (ap (λ f. member f.unknowns q) (sym (pv.there p hp other)) ∙ h))

  pub still_reduced : Reduced u v
  still_reduced = record { apart = sep; empty = emp }
    where
      sep : (p q : ℕ) → p < u → q < u → p ≢ q → member (pivot v p).unknowns q ≡ One → pivot v q ≡ form_zero
      sep p q hp hq ne h = go (cases_eq q k)
        where
          go : ((q ≡ k) ⊎ (q ≢ k)) → pivot v q ≡ form_zero
          go (inl e) =
              let other : p ≢ k = λ e'. ne (e' ∙ sym e) in
              absurd (apart (sym (added_out (pivot t p) g k o (m p) refl) ∙ ap (λ f. member f.unknowns k) (sym (pv.there p hp other)) ∙ ap (member (pivot v p).unknowns) (sym e) ∙ h))
          go (inr other) = pv.there q hq other ∙ added_zero (pivot t q) g k (has_old p q hp hq ne h) (m q) refl

      emp : (p : ℕ) → p < u → member (pivot v p).unknowns p ≡ Zero → pivot v p ≡ form_zero
      emp p hp h = go (cases_eq p k)
        where
          -- a row that had the unknown k is no zero form, so has its own unknown
          own : (b : Bit) → m p ≡ b → member (added b (pivot t p) g).unknowns p ≡ Zero → pivot t p ≡ form_zero
          own Zero e z = red.empty p hp z
          own One e z = cases (member (pivot t p).unknowns p) (member g.unknowns p) refl refl (sym (member_xor (pivot t p).unknowns g.unknowns p) ∙ z)
            where
              cases : (a b : Bit) → member (pivot t p).unknowns p ≡ a → member g.unknowns p ≡ b → bit_plus a b ≡ Zero → pivot t p ≡ form_zero
              cases Zero b ea eb h = red.empty p hp ea
              cases One Zero ea eb h = absurd (apart (sym h))
              cases One One ea eb h = so.clear p hp eb

          go : ((p ≡ k) ⊎ (p ≢ k)) → pivot v p ≡ form_zero
          go (inl e) = absurd (apart (sym h ∙ ap (λ p. member (pivot v p).unknowns p) e ∙ ap (λ f. member f.unknowns k) pv.here ∙ o))
          go (inr other) =
              pv.there p hp other
              ∙ added_zero (pivot t p) g k (own (m p) refl (ap (λ f. member f.unknowns p) (sym (pv.there p hp other)) ∙ h)) (m p) refl
