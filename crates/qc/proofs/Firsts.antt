-- Sums of terms are linear and turn as the block turns; on a block told by first rows they are first rows.
use Rattle.std.proofs.Common.{◌≡◌, ℕ, zero, suc, ◌+◌, ◌*◌, ◌%◌, ◌<◌, Bool, true, List, [], ◌∷◌, get_or, sym, refl, ap, ◌∙◌, ap₂, mod-lt, arith}
use Rattle.std.specs.List.{list_all}
use Rattle.std.proofs.lemmas.Bool.{and_parts, ltb-true}
use Rattle.element.specs.Laws.{Laws}
use Rattle.qc.specs.declared.terms.Term.{Term}
use Rattle.qc.specs.Permutation.{absent}
use Rattle.qc.specs.Equation.{Operator, Operator.Identity, Operator.Π, Operator.◌⊞◌}
use Rattle.qc.specs.Shape.{Shape, permutations}
use Rattle.qc.specs.Sound.{term_sound}
use Rattle.qc.specs.Terms.{operator_terms}
use Rattle.qc.specs.Segments.{term_at, segment_sum}
use Rattle.qc.specs.Circulant.{sum, act, shift}
use Rattle.qc.specs.Rules.{firsts}
use Rattle.qc.proofs.Sums.{swap, total_append}
use Rattle.qc.proofs.FirstRows.{act_xor, act_left, act_none, shift_comm}
use Rattle.qc.proofs.Soundness.{Sound, shift_most}

module _ {E : Type 0} {none : E} {plus : E → E → E} {same : E → E → Bool} (laws : Laws none plus same) (c : Shape) where
  pub terms_none : (ts : List Term) (j s : ℕ) → segment_sum none plus c.m (permutations c) ts (λ n i. none) j s ≡ none
  terms_none [] j s = refl
  terms_none (t ∷ ts) j s = laws.neutral _ ∙ terms_none ts j s

  pub terms_plus : (ts : List Term) (x y : ℕ → ℕ → E) (j s : ℕ)
      → segment_sum none plus c.m (permutations c) ts (λ n i. plus (x n i) (y n i)) j s ≡ plus (segment_sum none plus c.m (permutations c) ts x j s) (segment_sum none plus c.m (permutations c) ts y j s)
  terms_plus [] x y j s = sym (laws.neutral none)
  terms_plus (t ∷ ts) x y j s = ap (plus _) (terms_plus ts x y j s) ∙ swap laws _ _ _ _

  pub terms_sum : (ts : List Term) (count : ℕ) (x : ℕ → ℕ → ℕ → E) (j s : ℕ)
      → segment_sum none plus c.m (permutations c) ts (λ n i. sum none plus count (λ r. x r n i)) j s ≡ sum none plus count (λ r. segment_sum none plus c.m (permutations c) ts (x r) j s)
  terms_sum ts zero x j s = terms_none ts j s
  terms_sum ts (suc count) x j s =
      terms_plus ts (λ n i. sum none plus count (λ r. x r n i)) (x count) j s
      ∙ ap (λ y. plus y (segment_sum none plus c.m (permutations c) ts (x count) j s)) (terms_sum ts count x j s)

  pub terms_turn : (ts : List Term) (k : ℕ) (x : ℕ → ℕ → E) (j s : ℕ)
      → segment_sum none plus c.m (permutations c) ts (λ n. shift c.m k (x n)) j s ≡ shift c.m k (segment_sum none plus c.m (permutations c) ts x j) s
  terms_turn [] k x j s = refl
  terms_turn (t ∷ ts) k x j s = ap₂ plus (shift_comm c.m (get_or (get_or (permutations c) t.permutation absent).phi j 0) k (x _) s) (terms_turn ts k x j s)

  -- terms of the first few groups look at no more
  pub terms_same : (count known : ℕ) (ts : List Term) → list_all (term_sound count known) ts ≡ true
      → (x y : ℕ → ℕ → E) (j s : ℕ) → s < c.m → ((n i : ℕ) → n < 4 * count → i < c.m → x n i ≡ y n i)
      → segment_sum none plus c.m (permutations c) ts x j s ≡ segment_sum none plus c.m (permutations c) ts y j s
  terms_same count known [] ok x y j s h alike = refl
  terms_same count known (t ∷ ts) ok x y j s h alike =
      let parts = and_parts (term_sound count known t) (list_all (term_sound count known) ts) ok in
      let low : t.group < count = ltb-true _ _ (and_parts _ _ parts.0).0 in
      ap₂ plus (alike (4 * t.group + ((get_or (permutations c) t.permutation absent).theta + j) % 4) _ (omega arith) (mod-lt _ (omega arith)))
      (terms_same count known ts parts.1 x y j s h alike)

  -- an operator on one group looks at its four segments
  pub operator_alike : (A : Operator) (x y : ℕ → ℕ → E) (j s : ℕ) → s < c.m → ((n i : ℕ) → n < 4 → i < c.m → x n i ≡ y n i)
      → segment_sum none plus c.m (permutations c) (operator_terms A 0) x j s ≡ segment_sum none plus c.m (permutations c) (operator_terms A 0) y j s
  operator_alike Identity x y j s h alike = ap (λ w. plus w none) (alike _ _ (omega arith) (mod-lt _ (omega arith)))
  operator_alike (Π t) x y j s h alike = ap (λ w. plus w none) (alike (4 * 0 + ((get_or (permutations c) t absent).theta + j) % 4) _ (omega arith) (mod-lt _ (omega arith)))
  operator_alike (A ⊞ B) x y j s h alike =
      total_append laws _ (operator_terms A 0) (operator_terms B 0)
      ∙ ap₂ plus (operator_alike A x y j s h alike) (operator_alike B x y j s h alike)
      ∙ sym (total_append laws _ (operator_terms A 0) (operator_terms B 0))

  -- an operator on group g of a block is that on the group alone
  one_group : (t g : ℕ) (x : ℕ → ℕ → E) (j s : ℕ)
      → plus (term_at c.m (permutations c) x j s (record { permutation = t; group = g })) none ≡ plus (term_at c.m (permutations c) (λ n. x (4 * g + n)) j s (record { permutation = t; group = 0 })) none
  one_group t g x j s =
      let p = get_or (permutations c) t absent in
      let q : ℕ = (p.theta + j) % 4 in
      let at : 4 * g + q ≡ 4 * g + (4 * 0 + q) = omega arith in
      ap (λ n. plus (x n ((s + get_or p.phi j 0) % c.m)) none) at

  pub operator_group : (A : Operator) (g : ℕ) (x : ℕ → ℕ → E) (j s : ℕ)
      → segment_sum none plus c.m (permutations c) (operator_terms A g) x j s ≡ segment_sum none plus c.m (permutations c) (operator_terms A 0) (λ n. x (4 * g + n)) j s
  operator_group Identity g x j s = one_group 0 g x j s
  operator_group (Π t) g x j s = one_group t g x j s
  operator_group (A ⊞ B) g x j s =
      total_append laws _ (operator_terms A g) (operator_terms B g)
      ∙ ap₂ plus (operator_group A g x j s) (operator_group B g x j s)
      ∙ sym (total_append laws _ (operator_terms A 0) (operator_terms B 0))

  -- the terms of first rows are the first rows of the terms
  pub terms_act : Sound c → (ts : List Term) (q : ℕ → ℕ) (u : ℕ → E) (j s : ℕ)
      → segment_sum none plus c.m (permutations c) ts (λ n. act none plus c.m (q n) u) j s ≡ act none plus c.m (firsts c ts q j) u s
  terms_act ok [] q u j s = sym (act_none laws c.m u s)
  terms_act ok (t ∷ ts) q u j s =
      ap₂ plus (sym (act_left laws c.m (get_or (get_or (permutations c) t.permutation absent).phi j 0) (q _) u s (shift_most c ok t.permutation j)))
      (terms_act ok ts q u j s)
      ∙ sym (act_xor laws c.m _ _ u s)
