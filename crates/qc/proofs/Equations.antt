-- A block equation is the sum of its terms, segment by segment; and it looks at no more than its terms.
use Rattle.std.proofs.Common.{◌≡◌, ℕ, ◌+◌, ◌*◌, ◌%◌, ◌<◌, Bool, true, List, ◌++◌, get_or, sym, ap, ◌∙◌, ap₂, add-zero, mod-eq_of_lt, zero-add}
use Rattle.std.specs.List.{list_all}
use Rattle.std.proofs.lemmas.List.Folds.{list_all-append}
use Rattle.std.proofs.lemmas.Bool.{and_parts, ltb-true}
use Rattle.element.specs.Laws.{Laws}
use Rattle.qc.specs.Permutation.{absent}
use Rattle.qc.specs.Equation.{Operator, Equation, Operator.Identity, Operator.Π, Operator.◌⊞◌, Equation.◌of◌, Equation.◌⊕◌}
use Rattle.qc.specs.Shape.{Shape, M, permutations, apply, value}
use Rattle.qc.specs.Sound.{term_sound}
use Rattle.qc.specs.Terms.{operator_terms, terms}
use Rattle.qc.specs.Segments.{segments, segment_sum}
use Rattle.qc.specs.Codeblock.{groups}
use Rattle.qc.proofs.Sums.{right, total_append}
use Rattle.qc.proofs.Places.{π_place, π_below, in_group, zeros}

module _ {E : Type 0} {none : E} {plus : E → E → E} {same : E → E → Bool} (laws : Laws none plus same) (c : Shape) (xs : List E) (j s : ℕ) (hj : j < 4) (hs : s < c.m) where
  pub of_operator : (A : Operator) (g : ℕ) → apply plus c A (groups none (M c) xs g) (j * c.m + s) ≡ segment_sum none plus c.m (permutations c) (operator_terms A g) (segments none c.m xs) j s
  of_operator Identity g =
      ap (λ p. get_or xs p none) (in_group c.m g j s)
      ∙ sym (ap₂ (λ q r. segments none c.m xs (4 * g + q) r) (ap (λ n. n % 4) (zero-add j) ∙ mod-eq_of_lt hj) (ap (λ f. (s + f) % c.m) (zeros j) ∙ ap (λ n. n % c.m) (add-zero s) ∙ mod-eq_of_lt hs))
      ∙ sym (right laws _)
  of_operator (Π t) g =
      ap (λ p. get_or xs (g * (4 * c.m) + p) none) (π_place c.m (get_or (permutations c) t absent) j s hs)
      ∙ ap (λ p. get_or xs p none) (in_group c.m g _ _)
      ∙ sym (right laws _)
  of_operator (A ⊞ B) g = ap₂ plus (of_operator A g) (of_operator B g) ∙ sym (total_append laws _ (operator_terms A g) (operator_terms B g))

  -- place s of segment j of an equation
  pub by_terms : (q : Equation) → value plus c q (groups none (M c) xs) (j * c.m + s) ≡ segment_sum none plus c.m (permutations c) (terms q) (segments none c.m xs) j s
  by_terms (A of g) = of_operator A g
  by_terms (p ⊕ q) = ap₂ plus (by_terms p) (by_terms q) ∙ sym (total_append laws _ (terms p) (terms q))

pub all_append : {X : Type 0} (test : X → Bool) (xs ys : List X) → list_all test (xs ++ ys) ≡ true → (list_all test xs ≡ true) × (list_all test ys ≡ true)
all_append test xs ys e = and_parts _ _ (sym (list_all-append test xs ys) ∙ e)

-- an equation whose terms are of the first few groups is the same on blocks that agree in these
module _ {E : Type 0} (plus : E → E → E) (c : Shape) (count known : ℕ) (x y : ℕ → ℕ → E) (pos : 0 < c.m)
    (agree : (g i : ℕ) → g < count → i < M c → x g i ≡ y g i) where
  operator_same : (A : Operator) (g : ℕ) → list_all (term_sound count known) (operator_terms A g) ≡ true → (i : ℕ) → i < M c → apply plus c A (x g) i ≡ apply plus c A (y g) i
  operator_same Identity g ok i h = agree g i (ltb-true g count (and_parts _ _ (and_parts _ _ ok).0).0) h
  operator_same (Π t) g ok i h = agree g _ (ltb-true g count (and_parts _ _ (and_parts _ _ ok).0).0) (π_below c.m (get_or (permutations c) t absent) i pos)
  operator_same (A ⊞ B) g ok i h =
      let both = all_append (term_sound count known) (operator_terms A g) (operator_terms B g) ok in
      ap₂ plus (operator_same A g both.0 i h) (operator_same B g both.1 i h)

  pub value_same : (q : Equation) → list_all (term_sound count known) (terms q) ≡ true → (i : ℕ) → i < M c → value plus c q x i ≡ value plus c q y i
  value_same (A of g) ok i h = operator_same A g ok i h
  value_same (p ⊕ q) ok i h =
      let both = all_append (term_sound count known) (terms p) (terms q) ok in
      ap₂ plus (value_same p both.0 i h) (value_same q both.1 i h)
