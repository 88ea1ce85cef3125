-- A list with the punctured group of its block written behind it, place by place and group by group.
use Rattle.std.proofs.Common.{◌≡◌, ℕ, ◌+◌, ◌-◌, ◌*◌, ◌<◌, ◌≤◌, List, ◌++◌, map, length, get_or, take, drop, sym, ap, ◌∙◌, mul_comm, add-mul, arith}
use native.Mathlib.Decide.{dec_lt}
use Rattle.std.specs.List.{range_with_len}
use Rattle.std.proofs.lemmas.Nat.{mul-add-lt}
use Rattle.std.proofs.lemmas.List.FromFn.{length-map-range_with_len, get_or-map-range_with_len}
use Rattle.std.proofs.lemmas.List.{length-append, length-take-le, length-drop, get_or_append_left, get_or-append-add, get_or-take, get_or-drop, ext_get_or}
use Rattle.qc.specs.Shape.{Shape, M, sent, whole}
use Rattle.qc.specs.Codeblock.{groups, punctured, completed}
use Rattle.qc.specs.Segments.{Written}

module _ {E : Type 0} (none : E) (plus : E → E → E) (c : Shape) (xs : List E) (fits : whole c ≤ length xs) where
  z : ℕ → E
  z = punctured none plus c (groups none (M c) xs)

  -- a whole block is the part that is sent, and one group more
  pub group_more : whole c ≡ sent c + M c
  group_more = omega (arith, add-mul c.K 2 (4 * c.m), add-mul c.K 3 (4 * c.m))

  front : length (take (sent c) xs) ≡ sent c
  front = length-take-le (sent c) xs (omega (arith, group_more))

  made : length (map z (range_with_len 0 (M c))) ≡ M c
  made = length-map-range_with_len z 0 (M c)

  pub completed_length : length (completed none plus c xs) ≡ length xs
  unfolding completed z
  completed_length =
      omega (arith, length-append (take (sent c) xs) (map z (range_with_len 0 (M c)) ++ drop (whole c) xs), length-append (map z (range_with_len 0 (M c))) (drop (whole c) xs), front, made, length-drop (whole c) xs, group_more)

  pub completed_front : (p : ℕ) → p < sent c → get_or (completed none plus c xs) p none ≡ get_or xs p none
  unfolding completed
  completed_front p h = get_or_append_left (take (sent c) xs) _ none p (omega (arith, front)) ∙ get_or-take (sent c) xs p none h

  pub completed_made : (i : ℕ) → i < M c → get_or (completed none plus c xs) (sent c + i) none ≡ punctured none plus c (groups none (M c) xs) i
  unfolding completed z
  completed_made i h =
      let at : sent c + i ≡ length (take (sent c) xs) + i = omega (arith, front) in
      ap (λ p. get_or (completed none plus c xs) p none) at
      ∙ get_or-append-add (take (sent c) xs) _ i none
      ∙ get_or_append_left (map z (range_with_len 0 (M c))) _ none i (omega (arith, made))
      ∙ get_or-map-range_with_len z 0 (M c) i i none h (omega arith)

  pub completed_rest : (p : ℕ) → whole c ≤ p → get_or (completed none plus c xs) p none ≡ get_or xs p none
  unfolding completed z
  completed_rest p h =
      let n : ℕ = p - whole c in
      let at : p ≡ length (take (sent c) xs) + (length (map z (range_with_len 0 (M c))) + n) = omega (arith, front, made, group_more) in
      let on : whole c + n ≡ p = omega arith in
      ap (λ q. get_or (completed none plus c xs) q none) at
      ∙ get_or-append-add (take (sent c) xs) _ _ none ∙ get_or-append-add (map z (range_with_len 0 (M c))) _ n none
      ∙ get_or-drop (whole c) xs n none ∙ ap (λ q. get_or xs q none) on

  -- a loop that wrote the punctured group made the completed list
  pub completed_by_writing : (ys : List E) → length ys ≡ length xs
      → Written none (λ p. punctured none plus c (groups none (M c) xs) (p - sent c)) (sent c) xs ys (whole c) → ys ≡ completed none plus c xs
  completed_by_writing ys long w = ext_get_or none ys (completed none plus c xs) (long ∙ sym completed_length) (λ p h. go p (dec_lt p (sent c)) (dec_lt p (whole c)))
    where
      go : (p : ℕ) → Dec (p < sent c) → Dec (p < whole c) → get_or ys p none ≡ get_or (completed none plus c xs) p none
      go p (yes low) d = w.before p low ∙ sym (completed_front p low)
      go p (no high) (yes low) =
          let at : sent c + (p - sent c) ≡ p = omega arith in
          w.made p low (omega arith) ∙ sym (ap (λ q. get_or (completed none plus c xs) q none) (sym at) ∙ completed_made (p - sent c) (omega (arith, group_more)))
      go p (no high) (no past) = w.after p (omega arith) ∙ sym (completed_rest p (omega arith))

  -- its groups are those of the list, and then the punctured one
  pub groups_front : (g i : ℕ) → g < c.K + 2 → i < M c → groups none (M c) (completed none plus c xs) g i ≡ groups none (M c) xs g i
  groups_front g i hg hi = completed_front (g * M c + i) (omega (arith, mul-add-lt g (M c) i (c.K + 2) hg hi, mul_comm (4 * c.m) (c.K + 2)))

  pub groups_made : (i : ℕ) → i < M c → groups none (M c) (completed none plus c xs) (c.K + 2) i ≡ punctured none plus c (groups none (M c) xs) i
  groups_made i hi = completed_made i hi
