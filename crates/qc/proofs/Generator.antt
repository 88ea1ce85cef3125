-- A generator table whose block passes for each message element r·m alone makes blocks that pass for every
-- message, of every kind.
use Rattle.std.proofs.Common.{◌≡◌, ℕ, ◌*◌, ◌<◌, Bool, true, List, length, sym, ap, ◌∙◌, ap₂}
use Rattle.std.specs.List.{list_all}
use lib.Bits.{bit_xor}
use Rattle.element.specs.Laws.{Laws}
use Rattle.qc.specs.declared.terms.Term.{Term}
use Rattle.qc.specs.Equation.{Equation}
use Rattle.qc.specs.Shape.{Shape, permutations}
use Rattle.qc.specs.Sound.{term_sound}
use Rattle.qc.specs.Terms.{terms, operator_terms}
use Rattle.qc.specs.Segments.{segment_sum}
use Rattle.qc.specs.Circulant.{sum, act, unit}
use Rattle.qc.specs.Rules.{firsts, table_z, table_first, table_second}
use Rattle.qc.proofs.Sums.{sum_ext, sum_none, sum_plus}
use Rattle.qc.proofs.FirstRows.{act_xor, act_none, act_unit_at}
use Rattle.qc.proofs.Firsts.{terms_sum, terms_act, terms_same}
use Rattle.qc.proofs.Solving.{Zero, of_message}
use Rattle.qc.proofs.Soundness.{Sound}

-- the segments that a table makes of a message of `count` segments
abbrev pub coded : {E : Type 0} → E → (E → E → E) → ℕ → ℕ → (ℕ → ℕ → ℕ) → (ℕ → ℕ → E) → ℕ → ℕ → E
coded none plus m count q u n s = sum none plus count (λ r. act none plus m (q r n) (u r) s)

pub record Generates (c : Shape) (a b : ℕ → ℕ → ℕ) : Type 0 where
  pub first : (r j : ℕ) → r < 4 * c.K → j < 4 → table_first c a b r j ≡ 0
  pub second : (r j : ℕ) → r < 4 * c.K → j < 4 → table_second c b r j ≡ 0

module _ {E : Type 0} {none : E} {plus : E → E → E} {same : E → E → Bool} (laws : Laws none plus same) (c : Shape) (ok : Sound c) (u : ℕ → ℕ → E) where
  C : (ℕ → ℕ → ℕ) → ℕ → ℕ → E
  C q = coded none plus c.m (4 * c.K) q u

  coded_xor : (p q : ℕ → ℕ → ℕ) (n s : ℕ) → plus (C p n s) (C q n s) ≡ C (λ r n. bit_xor (p r n) (q r n)) n s
  unfolding C
  coded_xor p q n s = sym (sum_ext laws (4 * c.K) _ _ (λ r h. act_xor laws c.m (p r n) (q r n) (u r) s) ∙ sum_plus laws (4 * c.K) _ _)

  coded_none : (q : ℕ → ℕ → ℕ) (n s : ℕ) → ((r : ℕ) → r < 4 * c.K → q r n ≡ 0) → C q n s ≡ none
  unfolding C
  coded_none q n s zeros =
      sum_ext laws (4 * c.K) _ (λ r. none) (λ r h. ap (λ p. act none plus c.m p (u r) s) (zeros r h) ∙ act_none laws c.m (u r) s) ∙ sum_none laws (4 * c.K)

  coded_terms : (ts : List Term) (q : ℕ → ℕ → ℕ) (j s : ℕ) → segment_sum none plus c.m (permutations c) ts (C q) j s ≡ C (λ r. firsts c ts (q r)) j s
  unfolding C
  coded_terms ts q j s =
      terms_sum laws c ts (4 * c.K) (λ r n. act none plus c.m (q r n) (u r)) j s
      ∙ sum_ext laws (4 * c.K) _ _ (λ r h. terms_act laws c ok ts (q r) (u r) j s)

  message : (q : Equation) → list_all (term_sound c.K (length (permutations c))) (terms q) ≡ true → (j s : ℕ) → s < c.m
      → of_message none plus c q u j s ≡ C (λ r. firsts c (terms q) (unit c.m r)) j s
  unfolding C
  message q good j s hs =
      sym (terms_same laws c c.K (length (permutations c)) (terms q) good (coded none plus c.m (4 * c.K) (unit c.m) u) u j s hs
      (λ n i hn hi. act_unit_at laws c.m n u i hi (4 * c.K) hn))
      ∙ coded_terms (terms q) (unit c.m) j s

  pub generated : (a b : ℕ → ℕ → ℕ) → Generates c a b
      → Zero none plus c u (coded none plus c.m (4 * c.K) a u) (coded none plus c.m (4 * c.K) b u) (coded none plus c.m (4 * c.K) (table_z c b) u)
  unfolding C
  generated a b rule = record {
    first = λ j s hj hs.
        ap (λ y. plus (C a j s) (plus (C (table_z c b) j s) y)) (coded_terms (operator_terms c.Π1 0) (table_z c b) j s)
        ∙ ap (plus (C a j s)) (coded_xor (table_z c b) (λ r. firsts c (operator_terms c.Π1 0) (table_z c b r)) j s)
        ∙ coded_xor a (λ r j. bit_xor (table_z c b r j) (firsts c (operator_terms c.Π1 0) (table_z c b r) j)) j s
        ∙ coded_none (table_first c a b) j s (λ r h. rule.first r j h hj);
    second = λ j s hj hs.
        ap₂ (λ x y. plus x (plus (C b j s) y)) (message c.u2 ok.u2_sound j s hs) (coded_terms (operator_terms c.P 0) (table_z c b) j s)
        ∙ ap (plus (C (λ r. firsts c (terms c.u2) (unit c.m r)) j s)) (coded_xor b (λ r. firsts c (operator_terms c.P 0) (table_z c b r)) j s)
        ∙ coded_xor (λ r. firsts c (terms c.u2) (unit c.m r)) (λ r j. bit_xor (b r j) (firsts c (operator_terms c.P 0) (table_z c b r) j)) j s
        ∙ coded_none (table_second c b) j s (λ r h. rule.second r j h hj);
    third = λ j s hj hs.
        ap₂ (λ x y. plus (plus x y) (C (table_z c b) j s)) (message c.u3 ok.u3_sound j s hs) (coded_terms (operator_terms c.Q 0) b j s)
        ∙ ap (λ y. plus y (C (table_z c b) j s)) (coded_xor (λ r. firsts c (terms c.u3) (unit c.m r)) (λ r. firsts c (operator_terms c.Q 0) (b r)) j s)
        ∙ laws.cancels _;
  }
