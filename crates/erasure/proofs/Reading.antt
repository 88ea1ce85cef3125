-- The verdict from the rows.
use Rattle.std.proofs.Common.{◌≡◌, ℕ, zero, suc, ◌+◌, ◌^◌, ◌<◌, ◌≤◌, ◌≢◌, Result, Ok, Err, List, get_or, replicate, sym, refl, ap, ◌∙◌, arith, below_more}
use lib.Bits.{bit_or}
use Rattle.element.specs.declared.bits.Bit.{Bit}
use Rattle.element.specs.declared.bits.Bit.TheVariants.{Zero, One}
use Rattle.element.specs.declared.forms.Form.{Form}
use Rattle.element.specs.Bits.{bit_plus}
use Rattle.element.specs.Forms.{form_zero}
use Rattle.erasure.specs.declared.elimination.Contradiction.{Contradiction}
use Rattle.erasure.specs.declared.solutions.Solutions.{Solutions}
use Rattle.erasure.specs.declared.solutions.Solutions.TheVariants.{Single, Several}
use Rattle.erasure.specs.Unknowns.{member, both, value, pivot, Solves, Reduced}
use Rattle.erasure.specs.Solutions.{Only, Many, Differ, Settled, Means}
use Rattle.erasure.specs.Demands.{Same}
use Rattle.erasure.proofs.Sets.{either_of, member_or, member_own, member_other}
use Rattle.erasure.proofs.Values.{apart, dot_ext, value_zero}
use Rattle.erasure.proofs.Repairing.{repair, repaired}

-- the first k unknowns of a table, sorted into those in which solutions differ and the others
pub record Sorted (u : ℕ) (t : List Form) (k : ℕ) (set : ℕ) : Type 0 where
  pub inside : (j : ℕ) → j < k → member set j ≡ One → Differ (Solves u t) j
  pub outside : (j : ℕ) → j < k → member set j ≡ Zero → Settled (Solves u t) j (pivot t j).bit
  pub rest : (j : ℕ) → k ≤ j → member set j ≡ Zero

module _ (u : ℕ) (t : List Form) where
  pub sorted_closed : (k o : ℕ) → Sorted u t k o → Settled (Solves u t) k (pivot t k).bit → Sorted u t (k + 1) o
  sorted_closed k o so h =
      record {
        inside = below_more _ _ so.inside (λ e. absurd (apart (sym (so.rest k (omega arith)) ∙ e)));
        outside = below_more _ _ so.outside (λ e. h);
        rest = λ j l. so.rest j (omega arith);
      }

  either_right : (b : Bit) → either_of b Zero ≡ b
  either_right Zero = refl
  either_right One = refl

  either_one : (b : Bit) → either_of b One ≡ One
  either_one Zero = refl
  either_one One = refl

  pub sorted_open : (k o : ℕ) → Sorted u t k o → Differ (Solves u t) k → Sorted u t (k + 1) (bit_or o (2 ^ k))
  sorted_open k o so h =
      record {
        inside = below_more _ _ (λ j l e. so.inside j l (sym (as_was j (omega arith)) ∙ e)) (λ e. h);
        outside = below_more _ _ (λ j l e. so.outside j l (sym (as_was j (omega arith)) ∙ e))
            (λ e. absurd (apart (sym e ∙ member_or o (2 ^ k) k ∙ ap (either_of (member o k)) (member_own k) ∙ either_one (member o k))));
        rest = λ j l. as_was j (omega arith) ∙ so.rest j (omega arith);
      }
    where
      as_was : (j : ℕ) → j ≢ k → member (bit_or o (2 ^ k)) j ≡ member o j
      as_was j ne = member_or o (2 ^ k) j ∙ ap (either_of (member o j)) (member_other k j ne) ∙ either_right (member o j)

  pub several : (o : ℕ) → Sorted u t u o → (k : ℕ) → k < u → member o k ≡ One → Many u (Solves u t) o
  several o so k hk e =
      record {
        some = (k, (hk, e));
        within = so.rest;
        inside = so.inside;
        outside = λ j hj e s s' z z'. so.outside j hj e s z ∙ sym (so.outside j hj e s' z');
      }

  pub unique : Reduced u t → (bits : List Bit) → ((k : ℕ) → k < u → get_or bits k Zero ≡ (pivot t k).bit)
      → (o : ℕ) → Sorted u t u o → ((k : ℕ) → k < u → member o k ≡ Zero) → Only u (Solves u t) bits
  unique red bits copied o so none = record { fits = fit; only = one }
    where
      one : (s : ℕ → Bit) → Solves u t s → (k : ℕ) → k < u → s k ≡ get_or bits k Zero
      one s z k hk = so.outside k hk (none k hk) s z ∙ sym (copied k hk)

      base : ℕ → Bit
      base = repair u t (λ _. Zero)

      solves : Solves u t base
      solves = repaired u t red (λ _. Zero)

      fit : (s : ℕ → Bit) → ((k : ℕ) → k < u → s k ≡ get_or bits k Zero) → Solves u t s
      fit s agrees p hp =
          ap (bit_plus (pivot t p).bit)
          (dot_ext u (member (pivot t p).unknowns) (member (pivot t p).unknowns) s base (λ k hk. ap (both (member (pivot t p).unknowns k)) (agrees k hk ∙ sym (one base solves k hk))))
          ∙ solves p hp

pub all_blank : (f : Form) → f ≡ form_zero → (n p : ℕ) → pivot (replicate n f) p ≡ form_zero
all_blank f e zero p = refl
all_blank f e (suc n) zero = e
all_blank f e (suc n) (suc p) = all_blank f e n p

-- a table of zero forms demands nothing
pub blank_reduced : (u : ℕ) (t : List Form) → ((p : ℕ) → pivot t p ≡ form_zero) → Reduced u t
blank_reduced u t z = record { apart = λ p q hp hq ne o. z q; empty = λ p hp e. z p }

pub blank_solved : (u : ℕ) (t : List Form) (s : ℕ → Bit) → ((p : ℕ) → pivot t p ≡ form_zero) → Solves u t s
blank_solved u t s z p hp = ap (value u s) (z p) ∙ value_zero u s

-- what is true of some assignments is true of the same ones
pub means_same : (u : ℕ) (S R : (ℕ → Bit) → Type 0) → Same S R → (v : Result Solutions Contradiction) → Means u S v → Means u R v
means_same u S R e (Err x) h = λ s r. h s (e.from s r)
means_same u S R e (Ok (Single bits)) h = record { fits = λ s a. e.to s (h.fits s a); only = λ s r. h.only s (e.from s r) }
means_same u S R e (Ok (Several set)) h =
    record {
      some = h.some;
      within = h.within;
      inside = λ k hk o. let d = h.inside k hk o in (d.0, (d.1.0, (e.to d.0 d.1.1.0, (e.to d.1.0 d.1.1.1.0, d.1.1.1.1))));
      outside = λ k hk z s s' r r'. h.outside k hk z s s' (e.from s r) (e.from s' r');
    }
