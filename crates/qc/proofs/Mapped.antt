-- A map between element kinds that keeps zero and sums takes rows to rows, punctured groups to punctured
-- groups, and codeblocks to codeblocks.
use Rattle.std.proofs.Common.{◌≡◌, ℕ, zero, suc, ◌+◌, ◌-◌, ◌*◌, ◌/◌, ◌%◌, ◌<◌, ◌≤◌, Bool, true, false, cond, ltb, List, [], ◌∷◌, ◌++◌, map, length, get_or, take, drop, sym, refl, ap, ◌∙◌, ap₂, arith}
use mathlib.Core.List.{map-map}
use native.Mathlib.Decide.{dec_lt}
use lib.ListN.{get_or-map}
use Rattle.std.specs.List.{range_with_len}
use Rattle.std.proofs.lemmas.List.{map-append, length-map}
use Rattle.std.proofs.lemmas.Bool.{le-ltb}
use Rattle.element.specs.Laws.{Laws}
use Rattle.qc.specs.Equation.{Operator, Equation, Operator.Identity, Operator.Π, Operator.◌⊞◌, Equation.◌of◌, Equation.◌⊕◌}
use Rattle.qc.specs.Shape.{Shape, M, z, sent, whole, known, apply, value}
use Rattle.qc.specs.Codeblock.{block_row, row, groups, AllZero, completed_by, Codeblock, punctured, completed}
use Rattle.qc.specs.Keeps.{Keeps}
use Rattle.qc.proofs.Soundness.{Sound}
use Rattle.qc.proofs.Codeblocks.{row_same, zero_codeblock, codeblock_zero, third_zero}

map_same : {A B : Type 0} (f g : A → B) → ((x : A) → f x ≡ g x) → (xs : List A) → map f xs ≡ map g xs
map_same f g e [] = refl
map_same f g e (x ∷ xs) = ap₂ ◌∷◌ (e x) (map_same f g e xs)

map_take : {A B : Type 0} (f : A → B) (n : ℕ) (xs : List A) → map f (take n xs) ≡ take n (map f xs)
map_take f zero xs = refl
map_take f (suc n) [] = refl
map_take f (suc n) (x ∷ xs) = ap (λ r. f x ∷ r) (map_take f n xs)

map_drop : {A B : Type 0} (f : A → B) (n : ℕ) (xs : List A) → map f (drop n xs) ≡ drop n (map f xs)
map_drop f zero xs = refl
map_drop f (suc n) [] = refl
map_drop f (suc n) (x ∷ xs) = map_drop f n xs

module _ {E F : Type 0} {none : E} {plus : E → E → E} {none' : F} {plus' : F → F → F} (h : E → F) (keeps : Keeps none plus none' plus' h) (c : Shape) where
  operator_map : (A : Operator) (x : ℕ → E) (i : ℕ) → h (apply plus c A x i) ≡ apply plus' c A (λ k. h (x k)) i
  operator_map Identity x i = refl
  operator_map (Π t) x i = refl
  operator_map (A ⊞ B) x i = keeps.keeps_sum _ _ ∙ ap₂ plus' (operator_map A x i) (operator_map B x i)

  pub value_map : (q : Equation) (x : ℕ → ℕ → E) (i : ℕ) → h (value plus c q x i) ≡ value plus' c q (λ g k. h (x g k)) i
  value_map (A of g) x i = operator_map A (x g) i
  value_map (p ⊕ q) x i = keeps.keeps_sum _ _ ∙ ap₂ plus' (value_map p x i) (value_map q x i)

  pub row_map : (x : ℕ → ℕ → E) (r : ℕ) → h (row none plus c x r) ≡ row none' plus' c (λ g i. h (x g i)) r
  row_map x r = value_map (block_row c (r / M c)) x (r % M c)

  pub all_zero_map : (x : ℕ → ℕ → E) → AllZero none plus c x → AllZero none' plus' c (λ g i. h (x g i))
  all_zero_map x zeros r l = sym (row_map x r) ∙ ap h (zeros r l) ∙ keeps.keeps_zero

  pub codeblock_map : (x : ℕ → ℕ → E) → Codeblock none plus c x → Codeblock none' plus' c (λ g i. h (x g i))
  codeblock_map x (w, zeros) =
      ((λ i. h (w i)), (λ r l. ap (λ (y : ℕ → ℕ → F). row none' plus' c y r) (λ t g i. taken (ltb g (z c)) (x g i) (w i) t) ∙ all_zero_map (completed_by none plus c x w) zeros r l))
    where
      taken : (b : Bool) (u v : E) → cond b (h u) (h v) ≡ h (cond b u v)
      taken true u v = refl
      taken false u v = refl

  pub groups_map : (xs : List E) (w : ℕ) → groups none' w (map h xs) ≡ (λ g i. h (groups none w xs g i))
  groups_map xs w = λ t g i. (ap (get_or (map h xs) (g * w + i)) (sym keeps.keeps_zero) ∙ get_or-map h xs (g * w + i) none) t

  pub completed_map : (xs : List E) → map h (completed none plus c xs) ≡ completed none' plus' c (map h xs)
  unfolding completed
  completed_map xs =
      map-append h (take (sent c) xs) _
      ∙ ap₂ ◌++◌ (map_take h (sent c) xs)
      (map-append h (map (punctured none plus c (groups none (M c) xs)) (range_with_len 0 (M c))) (drop (whole c) xs)
      ∙ ap₂ ◌++◌ (map-map h (punctured none plus c (groups none (M c) xs)) (range_with_len 0 (M c)) ∙ map_same _ _ one (range_with_len 0 (M c))) (map_drop h (whole c) xs))
    where
      one : (i : ℕ) → h (punctured none plus c (groups none (M c) xs) i) ≡ punctured none' plus' c (groups none' (M c) (map h xs)) i
      one i = value_map (known c) (groups none (M c) xs) i ∙ ap (λ (y : ℕ → ℕ → F). punctured none' plus' c y i) (sym (groups_map xs (M c)))

  -- the rows of a completed list, mapped
  pub completed_row_map : (xs : List E) (r : ℕ) → h (row none plus c (groups none (M c) (completed none plus c xs)) r) ≡ row none' plus' c (groups none' (M c) (completed none' plus' c (map h xs))) r
  completed_row_map xs r =
      row_map (groups none (M c) (completed none plus c xs)) r
      ∙ ap (λ (y : ℕ → ℕ → F). row none' plus' c y r) (sym (groups_map (completed none plus c xs) (M c)))
      ∙ ap (λ (l : List F). row none' plus' c (groups none' (M c) l) r) (completed_map xs)

  -- a block is mapped to a codeblock exactly when the rows of the first two block rows are mapped to zero
  module _ {same' : F → F → Bool} (laws : Laws none' plus' same') (ok : Sound c) (xs : List E) (fits : whole c ≤ length xs) where
    fits' : whole c ≤ length (map h xs)
    fits' = omega (arith, length-map xs h)

    pub mapped_codeblock : ((r : ℕ) → r < 2 * M c → h (row none plus c (groups none (M c) (completed none plus c xs)) r) ≡ none') → Codeblock none' plus' c (groups none' (M c) (map h xs))
    mapped_codeblock zeros = zero_codeblock laws c ok (map h xs) fits' (λ r l. go r l (dec_lt r (2 * M c)))
      where
        go : (r : ℕ) → r < 3 * M c → Dec (r < 2 * M c) → row none' plus' c (groups none' (M c) (completed none' plus' c (map h xs))) r ≡ none'
        go r l (yes low) = sym (completed_row_map xs r) ∙ zeros r low
        go r l (no high) =
            let on : r ≡ 2 * M c + (r - 2 * M c) = omega arith in
            ap (row none' plus' c (groups none' (M c) (completed none' plus' c (map h xs)))) on ∙ third_zero laws c ok (map h xs) fits' (r - 2 * M c) (omega arith)

    pub codeblock_mapped : Codeblock none' plus' c (groups none' (M c) (map h xs)) → (r : ℕ) → r < 2 * M c → h (row none plus c (groups none (M c) (completed none plus c xs)) r) ≡ none'
    codeblock_mapped b r l = completed_row_map xs r ∙ codeblock_zero laws c ok (map h xs) fits' b r (omega arith)

-- blocks that agree in the groups that are sent are codeblocks together
pub codeblock_same : {E : Type 0} {none : E} {plus : E → E → E} {same : E → E → Bool} → Laws none plus same → (c : Shape) → Sound c
    → (x y : ℕ → ℕ → E) → ((g i : ℕ) → g < c.K + 2 → i < M c → x g i ≡ y g i) → Codeblock none plus c x → Codeblock none plus c y
codeblock_same {none = none} {plus = plus} laws c ok x y agree (w, zeros) =
    (w, λ r l. sym (row_same laws c ok (completed_by none plus c x w) (completed_by none plus c y w) both r) ∙ zeros r l)
  where
    both : (g i : ℕ) → g < c.K + 3 → i < M c → completed_by none plus c x w g i ≡ completed_by none plus c y w g i
    both g i hg hi = go (dec_lt g (c.K + 2))
      where
        go : Dec (g < c.K + 2) → completed_by none plus c x w g i ≡ completed_by none plus c y w g i
        go (yes low) = ap (λ v. cond (ltb g (z c)) v (w i)) (agree g i low hi)
        go (no high) =
            ap (λ b. cond b (x g i) (w i)) (le-ltb g (z c) (omega arith)) ∙ sym (ap (λ b. cond b (y g i) (w i)) (le-ltb g (z c) (omega arith)))
