-- The laws of coding: a coded block has all rows zero and is the only one of its message that has; a block
-- passes exactly when both coders make its parity; coding is linear, and turns as the message turns.
use Rattle.std.proofs.Common.{◌≡◌, ℕ, ◌+◌, ◌-◌, ◌*◌, ◌/◌, ◌%◌, ◌<◌, ◌≤◌, Bool, List, length, get_or, sym, refl, ap, ◌∙◌, subst, ap₂, mod-lt, mul_comm, arith}
use native.Mathlib.Decide.{dec_lt}
use Rattle.std.proofs.lemmas.Nat.{mul-add-lt, div_below, div-add-mod'}
use Rattle.element.specs.Laws.{Laws}
use Rattle.qc.specs.Shape.{Shape, M, a, b, z, whole, permutations}
use Rattle.qc.specs.Terms.{operator_terms, terms}
use Rattle.qc.specs.Segments.{segments}
use Rattle.qc.specs.Circulant.{turn, shift}
use Rattle.qc.specs.Codeblock.{groups, AllZero, Codeblock, completed}
use Rattle.qc.specs.Rules.{table_z}
use Rattle.qc.specs.Coding.{Tables, first_row, parity, rows_a, rows_b, rows_z, with_parity, encoded, SameMessage, Coded, Linear, ZeroBlock, Turns, Reproduced}
use Rattle.qc.proofs.Sums.{equal, swap, sum_ext, sum_plus}
use Rattle.qc.proofs.FirstRows.{act_plus, act_shift}
use Rattle.qc.proofs.Firsts.{terms_same, terms_plus, terms_turn, operator_alike}
use Rattle.qc.proofs.Inverse.{under}
use Rattle.qc.proofs.Solving.{Zero, of_message, only_a, only_b, only_z}
use Rattle.qc.proofs.Generator.{coded, generated}
use Rattle.qc.proofs.Soundness.{Sound}
use Rattle.qc.proofs.Tabulated.{Tabulated}
use Rattle.qc.proofs.Codeblocks.{zero_codeblock, codeblock_zero}
use Rattle.qc.proofs.Blocks.{group_segments, ZeroOf, rows_segments, segments_rows, zero_alike}
use Rattle.qc.proofs.Encoded.{segment_start, parity_alike, parity_length, parity_message, parity_segments, completed_segments, completed_z, encoded_message, encoded_parity}

-- what a coder promises, whatever a call of it answers
pub record CodingLaws {E : Type 0} (none : E) (plus : E → E → E) (c : Shape) (t : Tables) : Type 0 where
  pub coded : (xs : List E) → whole c ≤ length xs → Coded none plus c t xs
  pub linear : Linear none plus c t
  pub zeros : ZeroBlock none plus c t
  pub turns : Turns none plus c t

module _ {E : Type 0} {none : E} {plus : E → E → E} {same : E → E → Bool} (laws : Laws none plus same) (c : Shape) (ok : Sound c) (t : Tables) (good : Tabulated c t) where
  -- the table's block of a message
  table_block : (u : ℕ → ℕ → E)
      → Zero none plus c u (parity none plus c t u) (λ j. parity none plus c t u (4 + j)) (coded none plus c.m (4 * c.K) (table_z c (λ r j. first_row c.m t.generator (8 * r + (4 + j)))) u)
  table_block u = generated laws c ok u (λ r j. first_row c.m t.generator (8 * r + j)) (λ r j. first_row c.m t.generator (8 * r + (4 + j))) good.generates

  -- a list whose parity is the table's has all rows zero once it is completed
  zero_by_table : (xs : List E) → whole c ≤ length xs → ((q s : ℕ) → q < 8 → s < c.m → segments none c.m xs (4 * c.K + q) s ≡ parity none plus c t (segments none c.m xs) q s)
      → ZeroOf laws c ok (completed none plus c xs)
  zero_by_table xs fits is =
      zero_alike laws c ok u (segments none c.m ys) (parity none plus c t u) (group_segments none c ys (a c)) (λ j. parity none plus c t u (4 + j)) (group_segments none c ys (b c)) w (group_segments none c ys (z c))
      (λ n s hn hs. sym (completed_segments laws c ok t xs fits n s (omega arith) hs))
      (λ j s hj hs. sym (completed_segments laws c ok t xs fits (4 * c.K + j) s (omega arith) hs ∙ is j s (omega arith) hs))
      (λ j s hj hs. sym (at j s ∙ completed_segments laws c ok t xs fits (4 * c.K + (4 + j)) s (omega arith) hs ∙ is (4 + j) s (omega arith) hs))
      (λ j s hj hs.
      sym (completed_z laws c ok t xs fits j s hj hs
      ∙ ap (plus (of_message none plus c c.u3 u j s)) (operator_alike laws c c.Q (group_segments none c xs (b c)) (λ j. parity none plus c t u (4 + j)) j s hs (λ n i hn hi. from n i ∙ is (4 + n) i (omega arith) hi))
      ∙ equal laws _ _ ((table_block u).third j s hj hs)))
      (table_block u)
    where
      u : ℕ → ℕ → E
      u = segments none c.m xs

      ys : List E
      ys = completed none plus c xs

      w : ℕ → ℕ → E
      w = coded none plus c.m (4 * c.K) (table_z c (λ r j. first_row c.m t.generator (8 * r + (4 + j)))) (segments none c.m xs)

      at : (j s : ℕ) → group_segments none c (completed none plus c xs) (b c) j s ≡ segments none c.m (completed none plus c xs) (4 * c.K + (4 + j)) s
      at j s = ap (λ n. segments none c.m (completed none plus c xs) n s) (omega arith)

      from : (j s : ℕ) → group_segments none c xs (b c) j s ≡ segments none c.m xs (4 * c.K + (4 + j)) s
      from j s = ap (λ n. segments none c.m xs n s) (omega arith)

  module _ (xs : List E) (fits : whole c ≤ length xs) where
    room : whole c ≤ length (with_parity none plus c t xs)
    room = omega (arith, parity_length laws c ok t xs fits, fits)

    pub encoded_zero : AllZero none plus c (groups none (M c) (encoded none plus c t xs))
    unfolding encoded
    encoded_zero =
        segments_rows laws c ok (completed none plus c (with_parity none plus c t xs))
        (zero_by_table (with_parity none plus c t xs) room
        (λ q s hq hs. parity_segments laws c ok t xs fits q s hq hs
        ∙ parity_alike laws c ok t (segments none c.m xs) (segments none c.m (with_parity none plus c t xs)) (λ r i hr hi. sym (parity_message laws c ok t xs fits r i hr hi)) q s))

    -- the punctured segments of a coded list
    encoded_z : (j s : ℕ) → j < 4 → s < c.m → segments none c.m (encoded none plus c t xs) (4 * (c.K + 2) + j) s
        ≡ plus (of_message none plus c c.u3 (segments none c.m xs) j s) (under none plus c c.Q (λ j. parity none plus c t (segments none c.m xs) (4 + j)) j s)
    unfolding encoded
    encoded_z j s hj hs =
        completed_z laws c ok t (with_parity none plus c t xs) room j s hj hs
        ∙ ap₂ plus
        (terms_same laws c c.K (length (permutations c)) (terms c.u3) ok.u3_sound (segments none c.m (with_parity none plus c t xs)) (segments none c.m xs) j s hs (λ n i hn hi. parity_message laws c ok t xs fits n i hn hi))
        (operator_alike laws c c.Q (group_segments none c (with_parity none plus c t xs) (b c)) (λ j. parity none plus c t (segments none c.m xs) (4 + j)) j s hs
        (λ n i hn hi. ap (λ k. segments none c.m (with_parity none plus c t xs) k i) (at n) ∙ parity_segments laws c ok t xs fits (4 + n) i (omega arith) hi))
      where
        at : (n : ℕ) → 4 * (c.K + 1) + n ≡ 4 * c.K + (4 + n)
        at n = omega arith

  -- a segment of a whole block is one of the message, of the parity, or of the punctured group
  by_parts : (P : ℕ → Type 0) → ((n : ℕ) → n < 4 * c.K → P n) → ((q : ℕ) → q < 8 → P (4 * c.K + q)) → ((j : ℕ) → j < 4 → P (4 * (c.K + 2) + j))
      → (n : ℕ) → n < 4 * (c.K + 3) → P n
  by_parts P message code rest n h = go (dec_lt n (4 * c.K)) (dec_lt n (4 * (c.K + 2)))
    where
      go : Dec (n < 4 * c.K) → Dec (n < 4 * (c.K + 2)) → P n
      go (yes low) d = message n low
      go (no high) (yes low) = let at : 4 * c.K + (n - 4 * c.K) ≡ n = omega arith in subst P at (code (n - 4 * c.K) (omega arith))
      go (no high) (no past) = let at : 4 * (c.K + 2) + (n - 4 * (c.K + 2)) ≡ n = omega arith in subst P at (rest (n - 4 * (c.K + 2)) (omega arith))

  -- place i of a whole block, as a place of a segment
  by_places : (xs ys : List E) → ((n s : ℕ) → n < 4 * (c.K + 3) → s < c.m → segments none c.m xs n s ≡ segments none c.m ys n s) → (i : ℕ) → i < whole c → get_or xs i none ≡ get_or ys i none
  by_places xs ys alike i h =
      let e = div-add-mod' i c.m in
      ap (λ p. get_or xs p none) (sym e)
      ∙ alike (i / c.m) (i % c.m) (div_below i c.m (4 * (c.K + 3)) ok.some_long (omega (arith, segment_start laws c ok t (c.K + 3)))) (mod-lt i ok.some_long)
      ∙ ap (λ p. get_or ys p none) e

  -- blocks of one message with all rows zero are the same
  alike_by_zero : (u : ℕ → ℕ → E) (xs ys : List E)
      → ((n s : ℕ) → n < 4 * c.K → s < c.m → segments none c.m xs n s ≡ u n s) → ((n s : ℕ) → n < 4 * c.K → s < c.m → segments none c.m ys n s ≡ u n s)
      → ZeroOf laws c ok xs → ZeroOf laws c ok ys → (n s : ℕ) → n < 4 * (c.K + 3) → s < c.m → segments none c.m xs n s ≡ segments none c.m ys n s
  alike_by_zero u xs ys ex ey zx zy n s hn hs =
      by_parts (λ n. segments none c.m xs n s ≡ segments none c.m ys n s)
      (λ n h. ex n s h hs ∙ sym (ey n s h hs))
      (λ q h. go q h (dec_lt q 4))
      (λ j h. is_z xs ex zx j h ∙ sym (is_z ys ey zy j h))
      n hn
    where
      at_u : (l : List E) → ((n s : ℕ) → n < 4 * c.K → s < c.m → segments none c.m l n s ≡ u n s) → ZeroOf laws c ok l
          → Zero none plus c u (group_segments none c l (a c)) (group_segments none c l (b c)) (group_segments none c l (z c))
      at_u l e gone =
          zero_alike laws c ok (segments none c.m l) u (group_segments none c l (a c)) (group_segments none c l (a c)) (group_segments none c l (b c)) (group_segments none c l (b c)) (group_segments none c l (z c)) (group_segments none c l (z c))
          e (λ j s hj hs. refl) (λ j s hj hs. refl) (λ j s hj hs. refl) gone

      is_a : (l : List E) → ((n s : ℕ) → n < 4 * c.K → s < c.m → segments none c.m l n s ≡ u n s) → ZeroOf laws c ok l → (j : ℕ) → j < 4 → segments none c.m l (4 * c.K + j) s ≡ rows_a none plus c t u j s
      is_a l e gone j hj = only_a laws c ok t good.inverse u (group_segments none c l (a c)) (group_segments none c l (b c)) (group_segments none c l (z c)) (at_u l e gone) j s hj hs

      is_b : (l : List E) → ((n s : ℕ) → n < 4 * c.K → s < c.m → segments none c.m l n s ≡ u n s) → ZeroOf laws c ok l → (j : ℕ) → j < 4 → segments none c.m l (4 * (c.K + 1) + j) s ≡ rows_b none plus c t u j s
      is_b l e gone j hj = only_b laws c ok t good.inverse u (group_segments none c l (a c)) (group_segments none c l (b c)) (group_segments none c l (z c)) (at_u l e gone) j s hj hs

      is_z : (l : List E) → ((n s : ℕ) → n < 4 * c.K → s < c.m → segments none c.m l n s ≡ u n s) → ZeroOf laws c ok l → (j : ℕ) → j < 4 → segments none c.m l (4 * (c.K + 2) + j) s ≡ rows_z none plus c t u j s
      is_z l e gone j hj = only_z laws c ok t good.inverse u (group_segments none c l (a c)) (group_segments none c l (b c)) (group_segments none c l (z c)) (at_u l e gone) j s hj hs

      go : (q : ℕ) → q < 8 → Dec (q < 4) → segments none c.m xs (4 * c.K + q) s ≡ segments none c.m ys (4 * c.K + q) s
      go q h (yes low) = is_a xs ex zx q low ∙ sym (is_a ys ey zy q low)
      go q h (no high) =
          let at : 4 * c.K + q ≡ 4 * (c.K + 1) + (q - 4) = omega arith in
          ap (λ n. segments none c.m xs n s) at ∙ is_b xs ex zx (q - 4) (omega arith) ∙ sym (ap (λ n. segments none c.m ys n s) at ∙ is_b ys ey zy (q - 4) (omega arith))

  message_places : (xs ys : List E) → SameMessage none plus c t xs ys → (r s : ℕ) → r < 4 * c.K → s < c.m → segments none c.m ys r s ≡ segments none c.m xs r s
  message_places xs ys alike r s hr hs = sym (alike (r * c.m + s) (omega (arith, mul-add-lt r c.m s (4 * c.K) hr hs, mul_comm c.m (4 * c.K), segment_start laws c ok t c.K)))

  pub is_coded : (xs : List E) → whole c ≤ length xs → Coded none plus c t xs
  is_coded xs fits = record {
    zero_rows = encoded_zero xs fits;
    only = λ ys alike zeros.
        by_places ys (encoded none plus c t xs)
        (alike_by_zero (segments none c.m xs) ys (encoded none plus c t xs) (message_places xs ys alike) (λ n s hn hs. encoded_message laws c ok t xs fits n s hn hs)
        (rows_segments laws c ok ys zeros) (rows_segments laws c ok (encoded none plus c t xs) (encoded_zero xs fits)));
  }

  -- a block passes exactly when both coders make its parity from its message
  module _ (xs : List E) (fits : whole c ≤ length xs) where
    pub codeblock_reproduced : Codeblock none plus c (groups none (M c) xs) → Reproduced none plus c t xs
    codeblock_reproduced block = record {
      by_table = λ q s hq hs. as_coded (4 * c.K + q) s (omega arith) hs ∙ encoded_parity laws c ok t xs fits q s hq hs;
      by_rows_a = λ j s hj hs. sym (inside (4 * c.K + j) s (omega arith) hs) ∙ only_a laws c ok t good.inverse u (group_segments none c ys (a c)) (group_segments none c ys (b c)) (group_segments none c ys (z c)) at_u j s hj hs;
      by_rows_b = λ j s hj hs.
          let on : 4 * c.K + (4 + j) ≡ 4 * (c.K + 1) + j = omega arith in
          sym (inside (4 * c.K + (4 + j)) s (omega arith) hs) ∙ ap (λ n. segments none c.m ys n s) on
          ∙ only_b laws c ok t good.inverse u (group_segments none c ys (a c)) (group_segments none c ys (b c)) (group_segments none c ys (z c)) at_u j s hj hs;
    }
      where
        u : ℕ → ℕ → E
        u = segments none c.m xs

        ys : List E
        ys = completed none plus c xs

        inside : (n s : ℕ) → n < 4 * (c.K + 2) → s < c.m → segments none c.m (completed none plus c xs) n s ≡ segments none c.m xs n s
        inside n s hn hs = completed_segments laws c ok t xs fits n s hn hs

        gone : ZeroOf laws c ok (completed none plus c xs)
        gone = rows_segments laws c ok (completed none plus c xs) (codeblock_zero laws c ok xs fits block)

        as_coded : (n s : ℕ) → n < 4 * (c.K + 2) → s < c.m → segments none c.m xs n s ≡ segments none c.m (encoded none plus c t xs) n s
        as_coded n s hn hs =
            sym (completed_segments laws c ok t xs fits n s hn hs)
            ∙ alike_by_zero (segments none c.m xs) (completed none plus c xs) (encoded none plus c t xs) (λ n s hn hs. completed_segments laws c ok t xs fits n s (omega arith) hs)
            (λ n s hn hs. encoded_message laws c ok t xs fits n s hn hs) (rows_segments laws c ok (completed none plus c xs) (codeblock_zero laws c ok xs fits block)) (rows_segments laws c ok (encoded none plus c t xs) (encoded_zero xs fits)) n s (omega arith) hs

        at_u : Zero none plus c (segments none c.m xs) (group_segments none c (completed none plus c xs) (a c)) (group_segments none c (completed none plus c xs) (b c)) (group_segments none c (completed none plus c xs) (z c))
        at_u =
            zero_alike laws c ok (segments none c.m (completed none plus c xs)) (segments none c.m xs)
            (group_segments none c (completed none plus c xs) (a c)) (group_segments none c (completed none plus c xs) (a c)) (group_segments none c (completed none plus c xs) (b c)) (group_segments none c (completed none plus c xs) (b c)) (group_segments none c (completed none plus c xs) (z c)) (group_segments none c (completed none plus c xs) (z c))
            (λ n s hn hs. completed_segments laws c ok t xs fits n s (omega arith) hs) (λ j s hj hs. refl) (λ j s hj hs. refl) (λ j s hj hs. refl)
            (rows_segments laws c ok (completed none plus c xs) (codeblock_zero laws c ok xs fits block))

    pub reproduced_codeblock : Reproduced none plus c t xs → Codeblock none plus c (groups none (M c) xs)
    reproduced_codeblock both =
        zero_codeblock laws c ok xs fits (segments_rows laws c ok (completed none plus c xs) (zero_by_table xs fits both.by_table))

  pub is_linear : Linear none plus c t
  is_linear xs ys zs fx fy fz sums i h =
      let e = div-add-mod' i c.m in
      ap (λ p. get_or (encoded none plus c t zs) p none) (sym e)
      ∙ by_parts (λ n. segments none c.m (encoded none plus c t zs) n (i % c.m) ≡ plus (segments none c.m (encoded none plus c t xs) n (i % c.m)) (segments none c.m (encoded none plus c t ys) n (i % c.m)))
      (λ n hn. message n (i % c.m) hn low) (λ q hq. code q (i % c.m) hq low) (λ j hj. rest j (i % c.m) hj low)
      (i / c.m) (div_below i c.m (4 * (c.K + 3)) ok.some_long (omega (arith, segment_start laws c ok t (c.K + 3))))
      ∙ ap (λ p. plus (get_or (encoded none plus c t xs) p none) (get_or (encoded none plus c t ys) p none)) e
    where
      low : i % c.m < c.m
      low = mod-lt i ok.some_long

      U : List E → ℕ → ℕ → E
      U l = segments none c.m l

      added : (r s : ℕ) → r < 4 * c.K → s < c.m → segments none c.m zs r s ≡ plus (segments none c.m xs r s) (segments none c.m ys r s)
      added r s hr hs = sums (r * c.m + s) (omega (arith, mul-add-lt r c.m s (4 * c.K) hr hs, mul_comm c.m (4 * c.K), segment_start laws c ok t c.K))

      parity_sum : (q s : ℕ) → parity none plus c t (segments none c.m zs) q s ≡ plus (parity none plus c t (segments none c.m xs) q s) (parity none plus c t (segments none c.m ys) q s)
      parity_sum q s =
          parity_alike laws c ok t (segments none c.m zs) (λ r i. plus (segments none c.m xs r i) (segments none c.m ys r i)) added q s
          ∙ sum_ext laws (4 * c.K) _ _ (λ r hr. act_plus laws c.m (first_row c.m t.generator (8 * r + q)) (segments none c.m xs r) (segments none c.m ys r) s)
          ∙ sum_plus laws (4 * c.K) _ _

      message : (n s : ℕ) → n < 4 * c.K → s < c.m → segments none c.m (encoded none plus c t zs) n s ≡ plus (segments none c.m (encoded none plus c t xs) n s) (segments none c.m (encoded none plus c t ys) n s)
      message n s hn hs = encoded_message laws c ok t zs fz n s hn hs ∙ added n s hn hs ∙ sym (ap₂ plus (encoded_message laws c ok t xs fx n s hn hs) (encoded_message laws c ok t ys fy n s hn hs))

      code : (q s : ℕ) → q < 8 → s < c.m → segments none c.m (encoded none plus c t zs) (4 * c.K + q) s ≡ plus (segments none c.m (encoded none plus c t xs) (4 * c.K + q) s) (segments none c.m (encoded none plus c t ys) (4 * c.K + q) s)
      code q s hq hs = encoded_parity laws c ok t zs fz q s hq hs ∙ parity_sum q s ∙ sym (ap₂ plus (encoded_parity laws c ok t xs fx q s hq hs) (encoded_parity laws c ok t ys fy q s hq hs))

      rest : (j s : ℕ) → j < 4 → s < c.m → segments none c.m (encoded none plus c t zs) (4 * (c.K + 2) + j) s ≡ plus (segments none c.m (encoded none plus c t xs) (4 * (c.K + 2) + j) s) (segments none c.m (encoded none plus c t ys) (4 * (c.K + 2) + j) s)
      rest j s hj hs =
          encoded_z zs fz j s hj hs
          ∙ ap₂ plus
          (terms_same laws c c.K (length (permutations c)) (terms c.u3) ok.u3_sound (segments none c.m zs) (λ r i. plus (segments none c.m xs r i) (segments none c.m ys r i)) j s hs added
          ∙ terms_plus laws c (terms c.u3) (segments none c.m xs) (segments none c.m ys) j s)
          (operator_alike laws c c.Q (λ j. parity none plus c t (segments none c.m zs) (4 + j)) (λ j i. plus (parity none plus c t (segments none c.m xs) (4 + j) i) (parity none plus c t (segments none c.m ys) (4 + j) i)) j s hs (λ n i hn hi. parity_sum (4 + n) i)
          ∙ terms_plus laws c (operator_terms c.Q 0) (λ j. parity none plus c t (segments none c.m xs) (4 + j)) (λ j. parity none plus c t (segments none c.m ys) (4 + j)) j s)
          ∙ swap laws _ _ _ _
          ∙ sym (ap₂ plus (encoded_z xs fx j s hj hs) (encoded_z ys fy j s hj hs))

  pub zero_block : ZeroBlock none plus c t
  zero_block xs fits zeros i h =
      is_linear xs xs xs fits fits fits (λ i l. zeros i l ∙ sym (laws.neutral none) ∙ sym (ap₂ plus (zeros i l) (zeros i l))) i h ∙ laws.cancels _

  pub is_turning : Turns none plus c t
  is_turning xs zs fx fz turned n s hn hs =
      by_parts (λ n. segments none c.m (encoded none plus c t zs) n s ≡ turn c.m (segments none c.m (encoded none plus c t xs) n) s)
      (λ r hr. encoded_message laws c ok t zs fz r s hr hs ∙ turned r s hr hs ∙ sym (encoded_message laws c ok t xs fx r _ hr low))
      (λ q hq. encoded_parity laws c ok t zs fz q s hq hs ∙ parity_turned q s ∙ sym (encoded_parity laws c ok t xs fx q _ hq low))
      (λ j hj.
      encoded_z zs fz j s hj hs
      ∙ ap₂ plus
      (terms_same laws c c.K (length (permutations c)) (terms c.u3) ok.u3_sound (segments none c.m zs) (λ r. shift c.m (c.m - 1) (segments none c.m xs r)) j s hs turned
      ∙ terms_turn laws c (terms c.u3) (c.m - 1) (segments none c.m xs) j s)
      (operator_alike laws c c.Q (λ j. parity none plus c t (segments none c.m zs) (4 + j)) (λ j. shift c.m (c.m - 1) (parity none plus c t (segments none c.m xs) (4 + j))) j s hs (λ n i hn hi. parity_turned (4 + n) i)
      ∙ terms_turn laws c (operator_terms c.Q 0) (c.m - 1) (λ j. parity none plus c t (segments none c.m xs) (4 + j)) j s)
      ∙ sym (encoded_z xs fx j _ hj low))
      n hn
    where
      low : (s + (c.m - 1)) % c.m < c.m
      low = mod-lt _ ok.some_long

      parity_turned : (q s : ℕ) → parity none plus c t (segments none c.m zs) q s ≡ shift c.m (c.m - 1) (parity none plus c t (segments none c.m xs) q) s
      parity_turned q s =
          parity_alike laws c ok t (segments none c.m zs) (λ r. shift c.m (c.m - 1) (segments none c.m xs r)) turned q s
          ∙ sum_ext laws (4 * c.K) _ _ (λ r hr. act_shift laws c.m (first_row c.m t.generator (8 * r + q)) (c.m - 1) (segments none c.m xs r) s)

  pub coding_laws : CodingLaws none plus c t
  coding_laws = record { coded = is_coded; linear = is_linear; zeros = zero_block; turns = is_turning }
