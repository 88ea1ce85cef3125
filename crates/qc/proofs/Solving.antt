-- For each message there is one a, b and z with all rows zero. Here a block is its four kinds of segments.
use Rattle.std.proofs.Common.{◌≡◌, ℕ, ◌+◌, ◌*◌, ◌<◌, Bool, sym, refl, ap, ◌∙◌, ap₂}
use lib.Bits.{bit_xor}
use Rattle.element.specs.Laws.{Laws}
use Rattle.qc.specs.Equation.{Equation}
use Rattle.qc.specs.Shape.{Shape, permutations}
use Rattle.qc.specs.Terms.{terms, operator_terms}
use Rattle.qc.specs.Segments.{segment_sum}
use Rattle.qc.specs.Circulant.{sum, act, mul, unit}
use Rattle.qc.specs.Rules.{folded_firsts}
use Rattle.qc.specs.Coding.{Tables, first_row, wanted, rows_a, rows_b, rows_z}
use Rattle.qc.proofs.Sums.{equal, move, back, left_comm, sum_ext}
use Rattle.qc.proofs.FirstRows.{act_same}
use Rattle.qc.proofs.Firsts.{terms_plus, operator_alike}
use Rattle.qc.proofs.Inverse.{under, folded, undone, undoes}
use Rattle.qc.proofs.Soundness.{Sound}

-- the table v of 16 first rows is the inverse of I + P Q, from both sides
pub record Inverse (c : Shape) (v : ℕ → ℕ → ℕ) : Type 0 where
  pub after : (l n : ℕ) → l < 4 → n < 4 → folded_firsts c (v l) n ≡ unit c.m l n
  pub before : (l n : ℕ) → l < 4 → n < 4 → sum 0 bit_xor 4 (λ j. mul c.m (v j n) (folded_firsts c (unit c.m l) j)) ≡ unit c.m l n

abbrev pub of_message : {E : Type 0} → E → (E → E → E) → Shape → Equation → (ℕ → ℕ → E) → ℕ → ℕ → E
of_message none plus c q u = segment_sum none plus c.m (permutations c) (terms q) u

-- all rows are zero
pub record Zero {E : Type 0} (none : E) (plus : E → E → E) (c : Shape) (u a b z : ℕ → ℕ → E) : Type 0 where
  pub first : (j s : ℕ) → j < 4 → s < c.m → plus (a j s) (plus (z j s) (under none plus c c.Π1 z j s)) ≡ none
  pub second : (j s : ℕ) → j < 4 → s < c.m → plus (of_message none plus c c.u2 u j s) (plus (b j s) (under none plus c c.P z j s)) ≡ none
  pub third : (j s : ℕ) → j < 4 → s < c.m → plus (plus (of_message none plus c c.u3 u j s) (under none plus c c.Q b j s)) (z j s) ≡ none

module _ {E : Type 0} {none : E} {plus : E → E → E} {same : E → E → Bool} (laws : Laws none plus same) (c : Shape) (ok : Sound c) (t : Tables)
    (inverse : Inverse c (λ l n. first_row c.m t.inverse (4 * l + n))) (u : ℕ → ℕ → E) where
  v : ℕ → ℕ → ℕ
  v l n = first_row c.m t.inverse (4 * l + n)

  -- P (e + Q b), with b besides, is P e and (I + P Q) b
  apart : (b z : ℕ → ℕ → E) → ((j s : ℕ) → j < 4 → s < c.m → z j s ≡ plus (of_message none plus c c.u3 u j s) (under none plus c c.Q b j s))
      → (j s : ℕ) → s < c.m → plus (b j s) (under none plus c c.P z j s) ≡ plus (under none plus c c.P (of_message none plus c c.u3 u) j s) (folded none plus c b j s)
  apart b z is j s hs =
      ap (plus (b j s))
      (operator_alike laws c c.P z (λ n i. plus (of_message none plus c c.u3 u n i) (under none plus c c.Q b n i)) j s hs is
      ∙ terms_plus laws c (operator_terms c.P 0) (of_message none plus c c.u3 u) (under none plus c c.Q b) j s)
      ∙ left_comm laws (b j s) _ _

  -- what a, b and z are, where all rows are zero
  module _ (a b z : ℕ → ℕ → E) (zero : Zero none plus c u a b z) where
    z_is : (j s : ℕ) → j < 4 → s < c.m → z j s ≡ plus (of_message none plus c c.u3 u j s) (under none plus c c.Q b j s)
    z_is j s hj hs = sym (equal laws _ _ (zero.third j s hj hs))

    pub only_b : (j s : ℕ) → j < 4 → s < c.m → b j s ≡ rows_b none plus c t u j s
    unfolding v
    only_b j s hj hs =
        sym (undoes laws c ok v inverse.before b j s hj hs)
        ∙ sum_ext laws 4 (λ l. act none plus c.m (v l j) (folded none plus c b l) s) (λ l. act none plus c.m (v l j) (wanted none plus c t u l) s)
        (λ l h. act_same laws c.m (v l j) _ _ s (λ i hi. so l i h hi))
      where
        so : (l i : ℕ) → l < 4 → i < c.m → folded none plus c b l i ≡ wanted none plus c t u l i
        so l i hl hi = sym (move laws _ _ _ (ap (plus (of_message none plus c c.u2 u l i)) (sym (apart b z z_is l i hi)) ∙ zero.second l i hl hi))

    pub only_z : (j s : ℕ) → j < 4 → s < c.m → z j s ≡ rows_z none plus c t u j s
    only_z j s hj hs =
        z_is j s hj hs ∙ ap (plus (of_message none plus c c.u3 u j s)) (operator_alike laws c c.Q b (rows_b none plus c t u) j s hs (λ n i hn hi. only_b n i hn hi))

    pub only_a : (j s : ℕ) → j < 4 → s < c.m → a j s ≡ rows_a none plus c t u j s
    only_a j s hj hs =
        equal laws _ _ (zero.first j s hj hs)
        ∙ ap₂ plus (only_z j s hj hs) (operator_alike laws c c.Π1 z (rows_z none plus c t u) j s hs (λ n i hn hi. only_z n i hn hi))

  -- and those make all rows zero
  pub rows_zero : Zero none plus c u (rows_a none plus c t u) (rows_b none plus c t u) (rows_z none plus c t u)
  unfolding v
  rows_zero = record {
    first = λ j s hj hs. laws.cancels _;
    second = λ j s hj hs.
        ap (plus (of_message none plus c c.u2 u j s)) (apart (rows_b none plus c t u) (rows_z none plus c t u) (λ j s hj hs. refl) j s hs)
        ∙ back laws _ _ _ (sym (undone laws c ok v inverse.after (wanted none plus c t u) j s hj hs));
    third = λ j s hj hs. laws.cancels _;
  }
