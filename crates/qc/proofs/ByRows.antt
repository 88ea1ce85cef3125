-- The check coder's five writes make the coded list.
use Rattle.std.proofs.Common.{◌≡◌, ℕ, ◌+◌, ◌*◌, ◌/◌, ◌%◌, ◌<◌, ◌≤◌, Bool, List, length, get_or, sym, ap, ◌∙◌, ap₂, mul-le-mul_right, mod-lt, arith}
use native.Mathlib.Decide.{dec_lt}
use Rattle.std.proofs.lemmas.Nat.{div_below, div-add-mod'}
use Rattle.std.proofs.lemmas.List.{ext_get_or}
use Rattle.element.specs.Laws.{Laws}
use Rattle.qc.specs.Shape.{Shape, M, a, b, z, whole, permutations, asked, closing}
use Rattle.qc.specs.Terms.{operator_terms, terms}
use Rattle.qc.specs.Segments.{segments, segment_sum}
use Rattle.qc.specs.Circulant.{sum, act}
use Rattle.qc.specs.Codeblock.{groups, AllZero, completed}
use Rattle.qc.specs.Coding.{Tables, first_row, wanted, rows_a, rows_b, rows_z, encoded}
use Rattle.qc.proofs.Sums.{sum_ext, total_append}
use Rattle.qc.proofs.FirstRows.{act_same}
use Rattle.qc.proofs.Firsts.{terms_same, operator_alike, operator_group}
use Rattle.qc.proofs.Equations.{by_terms}
use Rattle.qc.proofs.Solving.{of_message, rows_zero}
use Rattle.qc.proofs.Soundness.{Sound}
use Rattle.qc.proofs.Tabulated.{Tabulated}
use Rattle.qc.proofs.Blocks.{group_segments, in_segments, applied, segments_rows, zero_alike}
use Rattle.qc.proofs.Completion.{completed_length, completed_rest}
use Rattle.qc.proofs.Encoded.{segment_start, completed_segments, completed_z, encoded_length, encoded_rest}
use Rattle.qc.proofs.CodingLaws.{is_coded}
use Rattle.qc.proofs.SegmentWrites.{SegmentsWritten}

module _ {E : Type 0} {none : E} {plus : E → E → E} {same : E → E → Bool} (laws : Laws none plus same) (c : Shape) (ok : Sound c) (t : Tables) (good : Tabulated c t)
    (r0 r1 r2 r3 r5 : List E) (fits : whole c ≤ length r0)
    (l1 : length r1 ≡ length r0) (l2 : length r2 ≡ length r1) (l3 : length r3 ≡ length r2) (l5 : length r5 ≡ length (completed none plus c r3))
    (w1 : SegmentsWritten none c.m (of_message none plus c c.u3 (segments none c.m r0)) (4 * (c.K + 2)) r0 r1 4)
    (w2 : SegmentsWritten none c.m (segment_sum none plus c.m (permutations c) (terms (asked c)) (segments none c.m r1)) (4 * c.K) r1 r2 4)
    (w3 : SegmentsWritten none c.m (λ n s. sum none plus 4 (λ l. act none plus c.m (first_row c.m t.inverse (4 * l + n)) (segments none c.m r2 (4 * c.K + l)) s)) (4 * (c.K + 1)) r2 r3 4)
    (w5 : SegmentsWritten none c.m (segment_sum none plus c.m (permutations c) (terms (closing c)) (segments none c.m (completed none plus c r3))) (4 * c.K) (completed none plus c r3) r5 4) where
  u : ℕ → ℕ → E
  u = segments none c.m r0

  r4 : List E
  r4 = completed none plus c r3

  fits3 : whole c ≤ length r3
  fits3 = omega (arith, l1, l2, l3, fits)

  message1 : (n s : ℕ) → n < 4 * c.K → s < c.m → segments none c.m r1 n s ≡ segments none c.m r0 n s
  message1 n s hn hs = w1.before n s (omega arith) hs

  message3 : (n s : ℕ) → n < 4 * c.K → s < c.m → segments none c.m r3 n s ≡ segments none c.m r0 n s
  message3 n s hn hs = w3.before n s (omega arith) hs ∙ w2.before n s hn hs ∙ message1 n s hn hs

  -- the second write is what the message asks b for
  wanted_is : (j s : ℕ) → j < 4 → s < c.m → segments none c.m r2 (4 * c.K + j) s ≡ wanted none plus c t (segments none c.m r0) j s
  wanted_is j s hj hs =
      w2.made j s hj hs
      ∙ total_append laws _ (terms c.u2) (operator_terms c.P (z c))
      ∙ ap₂ plus
      (terms_same laws c c.K (length (permutations c)) (terms c.u2) ok.u2_sound (segments none c.m r1) (segments none c.m r0) j s hs message1)
      (operator_group laws c c.P (z c) (segments none c.m r1) j s
      ∙ operator_alike laws c c.P (group_segments none c r1 (z c)) (of_message none plus c c.u3 (segments none c.m r0)) j s hs (λ n i hn hi. w1.made n i hn hi))

  b_is : (j s : ℕ) → j < 4 → s < c.m → group_segments none c r3 (b c) j s ≡ rows_b none plus c t (segments none c.m r0) j s
  b_is j s hj hs =
      w3.made j s hj hs
      ∙ sum_ext laws 4 _ _ (λ l h. act_same laws c.m (first_row c.m t.inverse (4 * l + j)) (segments none c.m r2 (4 * c.K + l)) (wanted none plus c t (segments none c.m r0) l) s (λ i hi. wanted_is l i h hi))

  z_is : (j s : ℕ) → j < 4 → s < c.m → group_segments none c (completed none plus c r3) (z c) j s ≡ rows_z none plus c t (segments none c.m r0) j s
  z_is j s hj hs =
      completed_z laws c ok t r3 fits3 j s hj hs
      ∙ ap₂ plus
      (terms_same laws c c.K (length (permutations c)) (terms c.u3) ok.u3_sound (segments none c.m r3) (segments none c.m r0) j s hs message3)
      (operator_alike laws c c.Q (group_segments none c r3 (b c)) (rows_b none plus c t (segments none c.m r0)) j s hs (λ n i hn hi. b_is n i hn hi))

  a_is : (j s : ℕ) → j < 4 → s < c.m → segments none c.m r5 (4 * c.K + j) s ≡ rows_a none plus c t (segments none c.m r0) j s
  a_is j s hj hs =
      w5.made j s hj hs
      ∙ sym (by_terms laws c (completed none plus c r3) j s hj hs (closing c))
      ∙ ap₂ plus (in_segments laws c ok (completed none plus c r3) (z c) j s) (applied laws c ok c.Π1 (completed none plus c r3) (z c) j s hj hs)
      ∙ ap₂ plus (z_is j s hj hs) (operator_alike laws c c.Π1 (group_segments none c (completed none plus c r3) (z c)) (rows_z none plus c t (segments none c.m r0)) j s hs (λ n i hn hi. z_is n i hn hi))

  -- the groups of the last list
  message5 : (n s : ℕ) → n < 4 * c.K → s < c.m → segments none c.m r5 n s ≡ segments none c.m r0 n s
  message5 n s hn hs = w5.before n s hn hs ∙ completed_segments laws c ok t r3 fits3 n s (omega arith) hs ∙ message3 n s hn hs

  b5 : (j s : ℕ) → j < 4 → s < c.m → group_segments none c r5 (b c) j s ≡ rows_b none plus c t (segments none c.m r0) j s
  b5 j s hj hs = w5.after (4 * (c.K + 1) + j) s (omega arith) hs ∙ completed_segments laws c ok t r3 fits3 (4 * (c.K + 1) + j) s (omega arith) hs ∙ b_is j s hj hs

  z5 : (j s : ℕ) → j < 4 → s < c.m → group_segments none c r5 (z c) j s ≡ rows_z none plus c t (segments none c.m r0) j s
  z5 j s hj hs = w5.after (4 * (c.K + 2) + j) s (omega arith) hs ∙ z_is j s hj hs

  pub made_by_rows : r5 ≡ encoded none plus c t r0
  made_by_rows =
      ext_get_or none r5 (encoded none plus c t r0)
      (l5 ∙ completed_length none plus c r3 fits3 ∙ l3 ∙ l2 ∙ l1 ∙ sym (encoded_length laws c ok t r0 fits))
      (λ i h. go i (dec_lt i (whole c)))
    where
      zeros : AllZero none plus c (groups none (M c) r5)
      zeros =
          segments_rows laws c ok r5
          (zero_alike laws c ok (segments none c.m r0) (segments none c.m r5)
          (rows_a none plus c t (segments none c.m r0)) (group_segments none c r5 (a c)) (rows_b none plus c t (segments none c.m r0)) (group_segments none c r5 (b c)) (rows_z none plus c t (segments none c.m r0)) (group_segments none c r5 (z c))
          (λ n s hn hs. sym (message5 n s hn hs)) (λ j s hj hs. sym (a_is j s hj hs)) (λ j s hj hs. sym (b5 j s hj hs)) (λ j s hj hs. sym (z5 j s hj hs))
          (rows_zero laws c ok t good.inverse (segments none c.m r0)))

      message : (i : ℕ) → i < c.K * M c → get_or r0 i none ≡ get_or r5 i none
      message i h =
          let e = div-add-mod' i c.m in
          ap (λ p. get_or r0 p none) (sym e)
          ∙ sym (message5 (i / c.m) (i % c.m) (div_below i c.m (4 * c.K) ok.some_long (omega (arith, segment_start laws c ok t c.K))) (mod-lt i ok.some_long))
          ∙ ap (λ p. get_or r5 p none) e

      past : (i : ℕ) → whole c ≤ i → get_or r5 i none ≡ get_or r0 i none
      past i h =
          let s2 = segment_start laws c ok t (c.K + 2) in
          let s3 = segment_start laws c ok t (c.K + 3) in
          let n1 : 4 * c.K + 4 ≤ 4 * (c.K + 3) = omega arith in
          let n2 : 4 * (c.K + 1) + 4 ≤ 4 * (c.K + 3) = omega arith in
          let n3 : 4 * (c.K + 2) + 4 ≤ 4 * (c.K + 3) = omega arith in
          w5.rest i (omega (arith, s3, mul-le-mul_right c.m n1)) ∙ completed_rest none plus c r3 fits3 i h
          ∙ w3.rest i (omega (arith, s3, mul-le-mul_right c.m n2)) ∙ w2.rest i (omega (arith, s3, mul-le-mul_right c.m n1)) ∙ w1.rest i (omega (arith, s3, mul-le-mul_right c.m n3))

      go : (i : ℕ) → Dec (i < whole c) → get_or r5 i none ≡ get_or (encoded none plus c t r0) i none
      go i (yes low) = (is_coded laws c ok t good r0 fits).only r5 message zeros i low
      go i (no high) = past i (omega arith) ∙ sym (encoded_rest laws c ok t r0 fits i (omega arith))
