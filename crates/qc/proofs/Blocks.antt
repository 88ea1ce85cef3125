-- The rows of a list's block, segment by segment.
use Rattle.std.proofs.Common.{◌≡◌, ℕ, zero, suc, ◌+◌, ◌*◌, ◌/◌, ◌%◌, ◌<◌, Bool, List, length, get_or, sym, ap, ◌∙◌, ap₂, mod-lt, arith}
use Rattle.std.proofs.lemmas.Nat.{mul-add-lt, div_below, div-add-mod'}
use Rattle.element.specs.Laws.{Laws}
use Rattle.qc.specs.Equation.{Operator, Equation}
use Rattle.qc.specs.Shape.{Shape, M, a, b, z, permutations, first, second, known, third, apply, value}
use Rattle.qc.specs.Segments.{segments}
use Rattle.qc.specs.Codeblock.{block_row, AllZero, groups}
use Rattle.qc.proofs.Places.{in_group}
use Rattle.qc.proofs.Equations.{by_terms, of_operator}
use Rattle.qc.proofs.Firsts.{operator_group, operator_alike, terms_same}
use Rattle.qc.proofs.Inverse.{under}
use Rattle.qc.proofs.Solving.{Zero, of_message}
use Rattle.qc.proofs.Soundness.{Sound}
use Rattle.qc.proofs.Codeblocks.{row_at}

-- segment j of group g of a list
abbrev pub group_segments : {E : Type 0} → E → Shape → List E → ℕ → ℕ → ℕ → E
group_segments none c xs g j s = segments none c.m xs (4 * g + j) s

module _ {E : Type 0} {none : E} {plus : E → E → E} {same : E → E → Bool} (laws : Laws none plus same) (c : Shape) (ok : Sound c) where
  pub in_segments : (xs : List E) (g j s : ℕ) → groups none (M c) xs g (j * c.m + s) ≡ group_segments none c xs g j s
  in_segments xs g j s = ap (λ p. get_or xs p none) (in_group c.m g j s)

  pub applied : (A : Operator) (xs : List E) (g j s : ℕ) → j < 4 → s < c.m → apply plus c A (groups none (M c) xs g) (j * c.m + s) ≡ under none plus c A (group_segments none c xs g) j s
  applied A xs g j s hj hs = of_operator laws c xs j s hj hs A g ∙ operator_group laws c A g (segments none c.m xs) j s

  first_is : (xs : List E) (j s : ℕ) → j < 4 → s < c.m → value plus c (first c) (groups none (M c) xs) (j * c.m + s)
      ≡ plus (group_segments none c xs (a c) j s) (plus (group_segments none c xs (z c) j s) (under none plus c c.Π1 (group_segments none c xs (z c)) j s))
  first_is xs j s hj hs = ap₂ plus (in_segments xs (a c) j s) (ap₂ plus (in_segments xs (z c) j s) (applied c.Π1 xs (z c) j s hj hs))

  second_is : (xs : List E) (j s : ℕ) → j < 4 → s < c.m → value plus c (second c) (groups none (M c) xs) (j * c.m + s)
      ≡ plus (of_message none plus c c.u2 (segments none c.m xs) j s) (plus (group_segments none c xs (b c) j s) (under none plus c c.P (group_segments none c xs (z c)) j s))
  second_is xs j s hj hs = ap₂ plus (by_terms laws c xs j s hj hs c.u2) (ap₂ plus (in_segments xs (b c) j s) (applied c.P xs (z c) j s hj hs))

  pub known_is : (xs : List E) (j s : ℕ) → j < 4 → s < c.m → value plus c (known c) (groups none (M c) xs) (j * c.m + s)
      ≡ plus (of_message none plus c c.u3 (segments none c.m xs) j s) (under none plus c c.Q (group_segments none c xs (b c)) j s)
  known_is xs j s hj hs = ap₂ plus (by_terms laws c xs j s hj hs c.u3) (applied c.Q xs (b c) j s hj hs)

  abbrev pub ZeroOf : List E → Type 0
  ZeroOf xs = Zero none plus c (segments none c.m xs) (group_segments none c xs (a c)) (group_segments none c xs (b c)) (group_segments none c xs (z c))

  place : (j s : ℕ) → j < 4 → s < c.m → j * c.m + s < M c
  place j s hj hs = omega (arith, mul-add-lt j c.m s 4 hj hs)

  pub rows_segments : (xs : List E) → AllZero none plus c (groups none (M c) xs) → ZeroOf xs
  rows_segments xs gone = record {
    first = λ j s hj hs. sym (first_is xs j s hj hs) ∙ at 0 j s hj hs (omega arith);
    second = λ j s hj hs. sym (second_is xs j s hj hs) ∙ at 1 j s hj hs (omega arith);
    third = λ j s hj hs. sym (ap₂ plus (known_is xs j s hj hs) (in_segments xs (z c) j s)) ∙ at 2 j s hj hs (omega arith);
  }
    where
      at : (k j s : ℕ) → j < 4 → s < c.m → k < 3 → value plus c (block_row c k) (groups none (M c) xs) (j * c.m + s) ≡ none
      at k j s hj hs hk =
          let low = place j s hj hs in
          sym (row_at none plus c (groups none (M c) xs) k (j * c.m + s) low)
          ∙ gone (k * M c + (j * c.m + s)) (omega (arith, mul-add-lt k (M c) (j * c.m + s) 3 hk low))

  pub segments_rows : (xs : List E) → ZeroOf xs → AllZero none plus c (groups none (M c) xs)
  segments_rows xs gone r h = go (r / M c) (r % M c) (mod-lt r (omega (arith, ok.some_long)))
    where
      split : (q : Equation) (i : ℕ) → i < M c → ((j s : ℕ) → j < 4 → s < c.m → value plus c q (groups none (M c) xs) (j * c.m + s) ≡ none) → value plus c q (groups none (M c) xs) i ≡ none
      split q i h each =
          ap (value plus c q (groups none (M c) xs)) (sym (div-add-mod' i c.m))
          ∙ each (i / c.m) (i % c.m) (div_below i c.m 4 ok.some_long h) (mod-lt i ok.some_long)

      go : (k i : ℕ) → i < M c → value plus c (block_row c k) (groups none (M c) xs) i ≡ none
      go zero i h = split (first c) i h (λ j s hj hs. first_is xs j s hj hs ∙ gone.first j s hj hs)
      go (suc zero) i h = split (second c) i h (λ j s hj hs. second_is xs j s hj hs ∙ gone.second j s hj hs)
      go (suc (suc k)) i h = split (third c) i h (λ j s hj hs. ap₂ plus (known_is xs j s hj hs) (in_segments xs (z c) j s) ∙ gone.third j s hj hs)

  -- rows look at the message and at each group alone
  pub zero_alike : (u u' a a' b b' z z' : ℕ → ℕ → E)
      → ((n s : ℕ) → n < 4 * c.K → s < c.m → u n s ≡ u' n s) → ((j s : ℕ) → j < 4 → s < c.m → a j s ≡ a' j s)
      → ((j s : ℕ) → j < 4 → s < c.m → b j s ≡ b' j s) → ((j s : ℕ) → j < 4 → s < c.m → z j s ≡ z' j s)
      → Zero none plus c u a b z → Zero none plus c u' a' b' z'
  zero_alike u u' a a' b b' z z' eu ea eb ez gone = record {
    first = λ j s hj hs. sym (ap₂ plus (ea j s hj hs) (ap₂ plus (ez j s hj hs) (operator_alike laws c c.Π1 z z' j s hs ez))) ∙ gone.first j s hj hs;
    second = λ j s hj hs.
        sym (ap₂ plus (terms_same laws c c.K (length (permutations c)) _ ok.u2_sound u u' j s hs eu) (ap₂ plus (eb j s hj hs) (operator_alike laws c c.P z z' j s hs ez))) ∙ gone.second j s hj hs;
    third = λ j s hj hs.
        sym (ap₂ plus (ap₂ plus (terms_same laws c c.K (length (permutations c)) _ ok.u3_sound u u' j s hs eu) (operator_alike laws c c.Q b b' j s hs eb)) (ez j s hj hs)) ∙ gone.third j s hj hs;
  }
