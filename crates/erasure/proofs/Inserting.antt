-- What inserting a form makes of the rows.
use Rattle.std.proofs.Common.{◌≡◌, ℕ, ◌+◌, ◌<◌, true, false, List, length, set, sym, ap, ◌∙◌, arith, below_more}
use Rattle.std.proofs.lemmas.List.{get_or-set_same, get_or-set_other}
use Rattle.element.specs.declared.bits.Bit.{Bit}
use Rattle.element.specs.declared.bits.Bit.TheVariants.{Zero, One}
use Rattle.element.specs.declared.forms.Form.{Form}
use Rattle.element.specs.Bits.{bit_plus, bit_laws}
use Rattle.element.specs.Forms.{form_zero}
use Rattle.erasure.specs.Unknowns.{member, both, value, pivot, Solves, Reduced, Cleared, added}
use Rattle.erasure.specs.Demands.{Same, Inserted, Zeros}
use Rattle.qc.proofs.Sums.{right}
use Rattle.erasure.proofs.Values.{dot_none}
use Rattle.erasure.proofs.Pivoting.{Pivoted, solves_old, solves_form, solves_new, still_reduced}

pub pivoted : (u : ℕ) (t : List Form) (g : Form) (k : ℕ) (v : List Form) → k < length v
    → ((p : ℕ) → p < u → pivot v p ≡ added (member (pivot t p).unknowns k) (pivot t p) g) → Pivoted u t g k (set v k g)
pivoted u t g k v hk h =
    record { here = get_or-set_same v k g form_zero hk; there = λ p hp ne. get_or-set_other v k p g form_zero ne ∙ h p hp }

pub inserted : (u : ℕ) (t : List Form) → Reduced u t → (f g : Form) → Cleared u u t f g → (k : ℕ) → k < u → member g.unknowns k ≡ One
    → (v : List Form) → Pivoted u t g k v → Inserted u t f v true
inserted u t red f g so k hk o v pv =
    record {
      to = λ s z. (solves_old u t red f g so k hk o v pv s z, solves_form u t red f g so k hk o v pv s z);
      from = λ s z. solves_new u t red f g so k hk o v pv s z.0 z.1;
    }

-- the form put in the row of its unknown k, after it was added to the rows that have k
module _ (u : ℕ) (t : List Form) (red : Reduced u t) (f g : Form) (so : Cleared u u t f g) (k : ℕ) (at : (k < u) × (member g.unknowns k ≡ One))
    (v : List Form) (room : k < length v) (made : (p : ℕ) → p < u → pivot v p ≡ added (member (pivot t p).unknowns k) (pivot t p) g) where
  pub placed_reduced : Reduced u (set v k g)
  placed_reduced = still_reduced u t red f g so k at.0 at.1 (set v k g) (pivoted u t g k v room made)

  pub placed_inserted : Inserted u t f (set v k g) true
  placed_inserted = inserted u t red f g so k at.0 at.1 (set v k g) (pivoted u t g k v room made)

-- a form with no unknowns left
module _ (u : ℕ) (t : List Form) (f g : Form) (so : Cleared u u t f g) (none : (k : ℕ) → k < u → member g.unknowns k ≡ Zero) where
  plain : (s : ℕ → Bit) → value u s g ≡ g.bit
  plain s = ap (bit_plus g.bit) (dot_none u (member g.unknowns) s (λ k h. ap (λ b. both b (s k)) (none k h))) ∙ right bit_laws g.bit

  pub spent : g.bit ≡ Zero → Inserted u t f t true
  spent e = record { to = λ s z. (z, sym (so.same s z) ∙ plain s ∙ e); from = λ s z. z.0 }

  pub unmet : (g.bit ≡ Zero → ⊥) → Inserted u t f t false
  unmet ne = λ s z fz. ne (sym (plain s) ∙ so.same s z ∙ fz)

-- one demand more than n
pub adds_more : (u : ℕ) (t v w : List Form) (R : ℕ → (ℕ → Bit) → Type 0) (Q : (ℕ → Bit) → Type 0) (n k : ℕ)
    → ((s : ℕ → Bit) → R n s → Q s → R k s) → ((s : ℕ → Bit) → R k s → R n s × Q s)
    → Same (Solves u v) (λ s. Solves u t s × R n s) → Same (Solves u w) (λ s. Solves u v s × Q s) → Same (Solves u w) (λ s. Solves u t s × R k s)
adds_more u t v w R Q n k join part a b =
    record {
      to = λ s z. let d = b.to s z in let e = a.to s d.0 in (e.0, join s e.1 d.1);
      from = λ s z. let d = part s z.1 in b.from s (a.from s (z.0, d.0), d.1);
    }

-- the forms in turn
pub zeros_more : (u : ℕ) (t v w fs : List Form) (n : ℕ) → Same (Solves u v) (λ s. Solves u t s × Zeros u fs n s) → Inserted u v (pivot fs n) w true
    → Same (Solves u w) (λ s. Solves u t s × Zeros u fs (n + 1) s)
zeros_more u t v w fs n a b =
    adds_more u t v w (Zeros u fs) (λ s. value u s (pivot fs n) ≡ Zero) n (n + 1)
    (λ s z e. below_more _ n z e) (λ s z. ((λ i h. z i (omega arith)), z n (omega arith))) a b
