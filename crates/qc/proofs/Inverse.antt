-- The inverse table undoes I + P Q, from both sides.
use Rattle.std.proofs.Common.{◌≡◌, ℕ, ◌<◌, Bool, sym, refl, ap, ◌∙◌, ap₂}
use lib.Bits.{bit_xor}
use Rattle.element.specs.Laws.{Laws}
use Rattle.qc.specs.Equation.{Operator}
use Rattle.qc.specs.Shape.{Shape, permutations}
use Rattle.qc.specs.Terms.{operator_terms}
use Rattle.qc.specs.Segments.{segment_sum}
use Rattle.qc.specs.Circulant.{sum, act, mul, unit}
use Rattle.qc.specs.Rules.{firsts, folded_firsts}
use Rattle.qc.proofs.Sums.{sum_ext, sum_plus, sum_swap}
use Rattle.qc.proofs.FirstRows.{act_xor, act_same, act_of_sum, act_xsum, act_mul, act_unit_at}
use Rattle.qc.proofs.Firsts.{terms_sum, terms_act, operator_alike}
use Rattle.qc.proofs.Soundness.{Sound}

-- four segments under a table of first rows: segment l of x adds v l n to segment n
abbrev pub spread : {E : Type 0} → E → (E → E → E) → ℕ → (ℕ → ℕ → ℕ) → (ℕ → ℕ → E) → ℕ → ℕ → E
spread none plus m v x n s = sum none plus 4 (λ l. act none plus m (v l n) (x l) s)

abbrev pub under : {E : Type 0} → E → (E → E → E) → Shape → Operator → (ℕ → ℕ → E) → ℕ → ℕ → E
under none plus c A x = segment_sum none plus c.m (permutations c) (operator_terms A 0) x

-- b + P Q b
abbrev pub folded : {E : Type 0} → E → (E → E → E) → Shape → (ℕ → ℕ → E) → ℕ → ℕ → E
folded none plus c b j s = plus (b j s) (under none plus c c.P (under none plus c c.Q b) j s)

module _ {E : Type 0} {none : E} {plus : E → E → E} {same : E → E → Bool} (laws : Laws none plus same) (c : Shape) (ok : Sound c) where
  spread_unit : (x : ℕ → ℕ → E) (n s : ℕ) → n < 4 → s < c.m → spread none plus c.m (unit c.m) x n s ≡ x n s
  spread_unit x n s hn hs = act_unit_at laws c.m n x s hs 4 hn

  -- an operator on segments that a table spreads, by first rows
  under_spread : (A : Operator) (v : ℕ → ℕ → ℕ) (x y : ℕ → ℕ → E)
      → ((n s : ℕ) → n < 4 → s < c.m → x n s ≡ spread none plus c.m v y n s)
      → (j s : ℕ) → s < c.m → under none plus c A x j s ≡ spread none plus c.m (λ l. firsts c (operator_terms A 0) (v l)) y j s
  under_spread A v x y is j s hs =
      operator_alike laws c A x (spread none plus c.m v y) j s hs is
      ∙ terms_sum laws c (operator_terms A 0) 4 (λ l n. act none plus c.m (v l n) (y l)) j s
      ∙ sum_ext laws 4 (λ l. under none plus c A (λ n. act none plus c.m (v l n) (y l)) j s) (λ l. act none plus c.m (firsts c (operator_terms A 0) (v l) j) (y l) s)
      (λ l h. terms_act laws c ok (operator_terms A 0) (v l) (y l) j s)

  folded_spread : (v : ℕ → ℕ → ℕ) (x y : ℕ → ℕ → E)
      → ((n s : ℕ) → n < 4 → s < c.m → x n s ≡ spread none plus c.m v y n s)
      → (j s : ℕ) → j < 4 → s < c.m → folded none plus c x j s ≡ spread none plus c.m (λ l. folded_firsts c (v l)) y j s
  folded_spread v x y is j s hj hs =
      ap₂ plus (is j s hj hs) (under_spread c.P (λ l. firsts c (operator_terms c.Q 0) (v l)) (under none plus c c.Q x) y (λ n s hn hs. under_spread c.Q v x y is n s hs) j s hs)
      ∙ sym (sum_plus laws 4 (λ l. act none plus c.m (v l j) (y l) s) (λ l. act none plus c.m (firsts c (operator_terms c.P 0) (firsts c (operator_terms c.Q 0) (v l)) j) (y l) s))
      ∙ sum_ext laws 4 (λ l. plus (act none plus c.m (v l j) (y l) s) (act none plus c.m (firsts c (operator_terms c.P 0) (firsts c (operator_terms c.Q 0) (v l)) j) (y l) s))
      (λ l. act none plus c.m (folded_firsts c (v l) j) (y l) s)
      (λ l h. sym (act_xor laws c.m (v l j) (firsts c (operator_terms c.P 0) (firsts c (operator_terms c.Q 0) (v l)) j) (y l) s))

  pub undone : (v : ℕ → ℕ → ℕ) → ((l n : ℕ) → l < 4 → n < 4 → folded_firsts c (v l) n ≡ unit c.m l n)
      → (y : ℕ → ℕ → E) (j s : ℕ) → j < 4 → s < c.m → folded none plus c (spread none plus c.m v y) j s ≡ y j s
  undone v test y j s hj hs =
      folded_spread v (spread none plus c.m v y) y (λ n s hn hs. refl) j s hj hs
      ∙ sum_ext laws 4 (λ l. act none plus c.m (folded_firsts c (v l) j) (y l) s) (λ l. act none plus c.m (unit c.m l j) (y l) s) (λ l h. ap (λ q. act none plus c.m q (y l) s) (test l j h hj))
      ∙ spread_unit y j s hj hs

  pub undoes : (v : ℕ → ℕ → ℕ) → ((l n : ℕ) → l < 4 → n < 4 → sum 0 bit_xor 4 (λ j. mul c.m (v j n) (folded_firsts c (unit c.m l) j)) ≡ unit c.m l n)
      → (b : ℕ → ℕ → E) (n s : ℕ) → n < 4 → s < c.m → spread none plus c.m v (folded none plus c b) n s ≡ b n s
  undoes v test b n s hn hs =
      sum_ext laws 4 (λ j. act none plus m (v j n) (folded none plus c b j) s) (λ j. sum none plus 4 (λ l. act none plus m (mul m (v j n) (a l j)) (b l) s)) (λ j h.
      act_same laws m (v j n) (folded none plus c b j) (λ i. sum none plus 4 (λ l. act none plus m (a l j) (b l) i)) s
      (λ i hi. folded_spread (unit m) b b (λ n s hn hs. sym (spread_unit b n s hn hs)) j i h hi)
      ∙ act_of_sum laws m (v j n) 4 (λ l. act none plus m (a l j) (b l)) s
      ∙ sum_ext laws 4 (λ l. act none plus m (v j n) (act none plus m (a l j) (b l)) s) (λ l. act none plus m (mul m (v j n) (a l j)) (b l) s) (λ l h. sym (act_mul laws m (v j n) (a l j) (b l) s)))
      ∙ sum_swap laws 4 4 (λ j l. act none plus m (mul m (v j n) (a l j)) (b l) s)
      ∙ sum_ext laws 4 (λ l. sum none plus 4 (λ j. act none plus m (mul m (v j n) (a l j)) (b l) s)) (λ l. act none plus m (unit m l n) (b l) s)
      (λ l h. sym (act_xsum laws m 4 (λ j. mul m (v j n) (a l j)) (b l) s) ∙ ap (λ q. act none plus m q (b l) s) (test l n h hn))
      ∙ spread_unit b n s hn hs
    where
      m : ℕ
      m = c.m

      a : ℕ → ℕ → ℕ
      a l j = folded_firsts c (unit c.m l) j
