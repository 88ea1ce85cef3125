-- Sums in a group where each element is its own inverse.
use Rattle.std.proofs.Common.{◌≡◌, ℕ, zero, suc, ◌+◌, ◌<◌, Bool, ◌≢◌, List, [], ◌∷◌, ◌++◌, length, get_or, take, sym, refl, ap, ◌∙◌, ap₂, arith}
use native.Mathlib.Decide.{ℕ_discrete}
use Rattle.std.proofs.lemmas.List.{take_more}
use Rattle.element.specs.Laws.{Laws}
use Rattle.qc.specs.Segments.{total}
use Rattle.qc.specs.Circulant.{sum}

module _ {E : Type 0} {none : E} {plus : E → E → E} {same : E → E → Bool} (laws : Laws none plus same) where
  pub right : (x : E) → plus x none ≡ x
  right x = laws.comm x none ∙ laws.neutral x

  -- a + b = 0 only if a = b
  pub equal : (x y : E) → plus x y ≡ none → x ≡ y
  equal x y h = sym (right x) ∙ ap (plus x) (sym (laws.cancels y)) ∙ sym (laws.assoc x y y) ∙ ap (λ w. plus w y) h ∙ laws.neutral y

  pub total_append : {X : Type 0} (f : X → E) (xs ys : List X) → total none plus f (xs ++ ys) ≡ plus (total none plus f xs) (total none plus f ys)
  total_append f [] ys = sym (laws.neutral _)
  total_append f (x ∷ xs) ys = ap (plus (f x)) (total_append f xs ys) ∙ sym (laws.assoc _ _ _)

  pub total_more : {X : Type 0} (f : X → E) (xs : List X) (i : ℕ) (d : X) → i < length xs → total none plus f (take (i + 1) xs) ≡ plus (total none plus f (take i xs)) (f (get_or xs i d))
  total_more f xs i d h =
      ap (total none plus f) (take_more xs i d h) ∙ total_append f (take i xs) (get_or xs i d ∷ [])
      ∙ ap (plus (total none plus f (take i xs))) (right _)

  pub swap : (a b c d : E) → plus (plus a b) (plus c d) ≡ plus (plus a c) (plus b d)
  swap a b c d =
      laws.assoc a b (plus c d)
      ∙ ap (plus a) (sym (laws.assoc b c d) ∙ ap (λ y. plus y d) (laws.comm b c) ∙ laws.assoc c b d)
      ∙ sym (laws.assoc a c (plus b d))

  pub cancel : (a b c : E) → plus a c ≡ plus b c → a ≡ b
  cancel a b c h =
      sym (right a) ∙ ap (plus a) (sym (laws.cancels c)) ∙ sym (laws.assoc a c c)
      ∙ ap (λ y. plus y c) h ∙ laws.assoc b c c ∙ ap (plus b) (laws.cancels c) ∙ right b

  -- x + (y + z) = 0 exactly if x + y = z
  pub move : (x y z : E) → plus x (plus y z) ≡ none → plus x y ≡ z
  move x y z h = equal (plus x y) z (laws.assoc x y z ∙ h)

  pub back : (x y z : E) → plus x y ≡ z → plus x (plus y z) ≡ none
  back x y z h = sym (laws.assoc x y z) ∙ ap (plus (plus x y)) (sym h) ∙ laws.cancels (plus x y)

  pub left_comm : (x y z : E) → plus x (plus y z) ≡ plus y (plus x z)
  left_comm x y z = sym (laws.assoc x y z) ∙ ap (λ w. plus w z) (laws.comm x y) ∙ laws.assoc y x z

  pub sum_ext : (n : ℕ) (f g : ℕ → E) → ((i : ℕ) → i < n → f i ≡ g i) → sum none plus n f ≡ sum none plus n g
  sum_ext zero f g h = refl
  sum_ext (suc n) f g h = ap₂ plus (sum_ext n f g (λ i l. h i (omega arith))) (h n (omega arith))

  pub sum_none : (n : ℕ) → sum none plus n (λ i. none) ≡ none
  sum_none zero = refl
  sum_none (suc n) = right _ ∙ sum_none n

  pub sum_plus : (n : ℕ) (f g : ℕ → E) → sum none plus n (λ i. plus (f i) (g i)) ≡ plus (sum none plus n f) (sum none plus n g)
  sum_plus zero f g = sym (laws.neutral none)
  sum_plus (suc n) f g = ap (λ y. plus y (plus (f n) (g n))) (sum_plus n f g) ∙ swap _ _ _ _

  pub sum_swap : (n k : ℕ) (f : ℕ → ℕ → E) → sum none plus n (λ i. sum none plus k (λ j. f i j)) ≡ sum none plus k (λ j. sum none plus n (λ i. f i j))
  sum_swap zero k f = sym (sum_none k)
  sum_swap (suc n) k f = ap (λ y. plus y (sum none plus k (f n))) (sum_swap n k f) ∙ sym (sum_plus k _ _)

  -- one place on: the first goes out, the next comes in
  sum_next : (n : ℕ) (f : ℕ → E) → plus (sum none plus n (λ i. f (suc i))) (f 0) ≡ sum none plus (suc n) f
  sum_next zero f = refl
  sum_next (suc n) f =
      laws.assoc _ _ _ ∙ ap (plus (sum none plus n (λ i. f (suc i)))) (laws.comm _ _) ∙ sym (laws.assoc _ _ _)
      ∙ ap (λ y. plus y (f (suc n))) (sum_next n f)

  -- round a segment, the sum is the same from each place
  pub sum_round : (m : ℕ) (f : ℕ → E) → ((i : ℕ) → f (i + m) ≡ f i) → (k : ℕ) → sum none plus m (λ i. f (i + k)) ≡ sum none plus m f
  sum_round m f period zero = sum_ext m _ _ (λ i h. ap f (omega arith))
  sum_round m f period (suc k) =
      cancel _ _ (f k)
      (ap₂ plus (sum_ext m (λ i. f (i + suc k)) (λ i. f (suc i + k)) (λ i h. ap f (omega arith))) (ap f (omega arith))
      ∙ sum_next m (λ i. f (i + k)) ∙ ap (plus (sum none plus m (λ i. f (i + k)))) (ap f (omega arith) ∙ period k))
      ∙ sum_round m f period k

  -- one summand alone
  pub sum_one : (n : ℕ) (f : ℕ → E) (k : ℕ) → k < n → ((i : ℕ) → i < n → i ≢ k → f i ≡ none) → sum none plus n f ≡ f k
  sum_one zero f k h others = absurd (omega arith)
  sum_one (suc n) f k h others = go (ℕ_discrete k n) (λ l. sum_one n f k l (λ i l d. others i (omega arith) d))
    where
      go : Dec (k ≡ n) → (k < n → sum none plus n f ≡ f k) → sum none plus (suc n) f ≡ f k
      go (yes e) less =
          ap (λ y. plus y (f n)) (sum_ext n f (λ i. none) (λ i l. others i (omega arith) (omega arith)) ∙ sum_none n)
          ∙ laws.neutral (f n) ∙ ap f (sym e)
      go (no ne) less =
          ap₂ plus (less (omega arith)) (others n (omega arith) (omega arith)) ∙ right (f k)

-- the same sum where each value is the same
pub total_same : {E X : Type 0} (none : E) (plus : E → E → E) (f g : X → E) → ((x : X) → f x ≡ g x) → (xs : List X) → total none plus f xs ≡ total none plus g xs
total_same none plus f g alike [] = refl
total_same none plus f g alike (x ∷ xs) = ap₂ plus (alike x) (total_same none plus f g alike xs)
