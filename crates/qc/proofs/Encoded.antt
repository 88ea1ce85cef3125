-- A coded list, segment by segment: the message, its parity by the generator table, its punctured group.
use Rattle.std.proofs.Common.{◌≡◌, ℕ, ◌+◌, ◌-◌, ◌*◌, ◌/◌, ◌%◌, ◌<◌, ◌≤◌, Bool, List, ◌++◌, map, length, get_or, take, drop, sym, ap, ◌∙◌, ap₂, mul_assoc, mul_comm, add-mul, arith}
use native.Mathlib.Decide.{dec_lt}
use Rattle.std.specs.List.{range_with_len}
use Rattle.std.proofs.lemmas.Nat.{mul-add-lt, div-mul-add, mod-mul-add}
use Rattle.std.proofs.lemmas.List.FromFn.{length-map-range_with_len, get_or-map-range_with_len}
use Rattle.std.proofs.lemmas.List.{length-append, length-take-le, length-drop, get_or_append_left, get_or-append-add, get_or-take, get_or-drop, ext_get_or}
use Rattle.element.specs.Laws.{Laws}
use Rattle.qc.specs.Shape.{Shape, M, b, sent, whole}
use Rattle.qc.specs.Segments.{segments, Written}
use Rattle.qc.specs.Circulant.{act}
use Rattle.qc.specs.Codeblock.{completed}
use Rattle.qc.specs.Coding.{Tables, first_row, parity, with_parity, encoded}
use Rattle.qc.proofs.Sums.{sum_ext}
use Rattle.qc.proofs.FirstRows.{act_same}
use Rattle.qc.proofs.Places.{in_group}
use Rattle.qc.proofs.Completion.{completed_length, completed_front, completed_made, completed_rest, group_more}
use Rattle.qc.proofs.Inverse.{under}
use Rattle.qc.proofs.Solving.{of_message}
use Rattle.qc.proofs.Soundness.{Sound}
use Rattle.qc.proofs.Blocks.{known_is, group_segments}

module _ {E : Type 0} {none : E} {plus : E → E → E} {same : E → E → Bool} (laws : Laws none plus same) (c : Shape) (ok : Sound c) (t : Tables) where
  pub parts : sent c ≡ c.K * M c + 2 * M c
  parts = omega (arith, add-mul c.K 2 (4 * c.m))

  -- n segments of four of K groups
  pub segment_start : (k : ℕ) → 4 * k * c.m ≡ k * M c
  segment_start k = ap (λ n. n * c.m) (mul_comm 4 k) ∙ mul_assoc k 4 c.m

  -- the parity of a message looks at the message alone
  pub parity_alike : (u w : ℕ → ℕ → E) → ((r s : ℕ) → r < 4 * c.K → s < c.m → u r s ≡ w r s) → (q s : ℕ) → parity none plus c t u q s ≡ parity none plus c t w q s
  parity_alike u w alike q s =
      sum_ext laws (4 * c.K) (λ r. act none plus c.m (first_row c.m t.generator (8 * r + q)) (u r) s) (λ r. act none plus c.m (first_row c.m t.generator (8 * r + q)) (w r) s)
      (λ r h. act_same laws c.m (first_row c.m t.generator (8 * r + q)) (u r) (w r) s (λ i hi. alike r i h hi))

  module _ (xs : List E) (fits : whole c ≤ length xs) where
    f : ℕ → E
    f i = parity none plus c t (segments none c.m xs) (i / c.m) (i % c.m)

    front : length (take (c.K * M c) xs) ≡ c.K * M c
    front = length-take-le (c.K * M c) xs (omega (arith, parts, group_more none plus c xs fits))

    made : length (map f (range_with_len 0 (2 * M c))) ≡ 2 * M c
    made = length-map-range_with_len f 0 (2 * M c)

    pub parity_length : length (with_parity none plus c t xs) ≡ length xs
    unfolding with_parity f
    parity_length =
        omega (arith, length-append (take (c.K * M c) xs) (map f (range_with_len 0 (2 * M c)) ++ drop (sent c) xs), length-append (map f (range_with_len 0 (2 * M c))) (drop (sent c) xs), front, made, length-drop (sent c) xs, parts, group_more none plus c xs fits)

    pub parity_front : (p : ℕ) → p < c.K * M c → get_or (with_parity none plus c t xs) p none ≡ get_or xs p none
    unfolding with_parity
    parity_front p h = get_or_append_left (take (c.K * M c) xs) _ none p (omega (arith, front)) ∙ get_or-take (c.K * M c) xs p none h

    parity_made : (i : ℕ) → i < 2 * M c → get_or (with_parity none plus c t xs) (c.K * M c + i) none ≡ parity none plus c t (segments none c.m xs) (i / c.m) (i % c.m)
    unfolding with_parity f
    parity_made i h =
        let at : c.K * M c + i ≡ length (take (c.K * M c) xs) + i = omega (arith, front) in
        ap (λ p. get_or (with_parity none plus c t xs) p none) at
        ∙ get_or-append-add (take (c.K * M c) xs) _ i none
        ∙ get_or_append_left (map f (range_with_len 0 (2 * M c))) _ none i (omega (arith, made))
        ∙ get_or-map-range_with_len f 0 (2 * M c) i i none h (omega arith)

    parity_rest : (p : ℕ) → sent c ≤ p → get_or (with_parity none plus c t xs) p none ≡ get_or xs p none
    unfolding with_parity f
    parity_rest p h =
        let n : ℕ = p - sent c in
        let at : p ≡ length (take (c.K * M c) xs) + (length (map f (range_with_len 0 (2 * M c))) + n) = omega (arith, front, made, parts) in
        let on : sent c + n ≡ p = omega arith in
        ap (λ q. get_or (with_parity none plus c t xs) q none) at
        ∙ get_or-append-add (take (c.K * M c) xs) _ _ none ∙ get_or-append-add (map f (range_with_len 0 (2 * M c))) _ n none
        ∙ get_or-drop (sent c) xs n none ∙ ap (λ q. get_or xs q none) on

    -- a loop that wrote the parity made that list
    pub parity_by_writing : (ys : List E) → length ys ≡ length xs
        → Written none (λ p. parity none plus c t (segments none c.m xs) ((p - c.K * M c) / c.m) ((p - c.K * M c) % c.m)) (c.K * M c) xs ys (sent c) → ys ≡ with_parity none plus c t xs
    parity_by_writing ys long w = ext_get_or none ys (with_parity none plus c t xs) (long ∙ sym parity_length) (λ p h. go p (dec_lt p (c.K * M c)) (dec_lt p (sent c)))
      where
        go : (p : ℕ) → Dec (p < c.K * M c) → Dec (p < sent c) → get_or ys p none ≡ get_or (with_parity none plus c t xs) p none
        go p (yes low) d = w.before p low ∙ sym (parity_front p low)
        go p (no high) (yes low) =
            let at : c.K * M c + (p - c.K * M c) ≡ p = omega arith in
            w.made p low (omega arith) ∙ sym (ap (λ q. get_or (with_parity none plus c t xs) q none) (sym at) ∙ parity_made (p - c.K * M c) (omega (arith, parts)))
        go p (no high) (no past) = w.after p (omega arith) ∙ sym (parity_rest p (omega arith))

    pub parity_message : (r s : ℕ) → r < 4 * c.K → s < c.m → segments none c.m (with_parity none plus c t xs) r s ≡ segments none c.m xs r s
    parity_message r s hr hs = parity_front (r * c.m + s) (omega (arith, mul-add-lt r c.m s (4 * c.K) hr hs, mul_comm c.m (4 * c.K), segment_start c.K))

    pub parity_segments : (q s : ℕ) → q < 8 → s < c.m → segments none c.m (with_parity none plus c t xs) (4 * c.K + q) s ≡ parity none plus c t (segments none c.m xs) q s
    parity_segments q s hq hs =
        let at : (4 * c.K + q) * c.m + s ≡ c.K * M c + (q * c.m + s) = omega (arith, add-mul (4 * c.K) q c.m, segment_start c.K) in
        ap (λ p. get_or (with_parity none plus c t xs) p none) at
        ∙ parity_made (q * c.m + s) (omega (arith, mul-add-lt q c.m s 8 hq hs))
        ∙ ap₂ (parity none plus c t (segments none c.m xs)) (div-mul-add q c.m s hs) (mod-mul-add q c.m s hs)

  -- a completed list, segment by segment
  module _ (xs : List E) (fits : whole c ≤ length xs) where
    pub completed_segments : (n s : ℕ) → n < 4 * (c.K + 2) → s < c.m → segments none c.m (completed none plus c xs) n s ≡ segments none c.m xs n s
    completed_segments n s hn hs =
        completed_front none plus c xs fits (n * c.m + s) (omega (arith, mul-add-lt n c.m s (4 * (c.K + 2)) hn hs, mul_comm c.m (4 * (c.K + 2)), segment_start (c.K + 2)))

    pub completed_z : (j s : ℕ) → j < 4 → s < c.m → segments none c.m (completed none plus c xs) (4 * (c.K + 2) + j) s
        ≡ plus (of_message none plus c c.u3 (segments none c.m xs) j s) (under none plus c c.Q (group_segments none c xs (b c)) j s)
    completed_z j s hj hs =
        let at = sym (in_group c.m (c.K + 2) j s) in
        ap (λ p. get_or (completed none plus c xs) p none) at
        ∙ completed_made none plus c xs fits (j * c.m + s) (omega (arith, mul-add-lt j c.m s 4 hj hs))
        ∙ known_is laws c ok xs j s hj hs

  -- a coded list
  module _ (xs : List E) (fits : whole c ≤ length xs) where
    more : whole c ≤ length (with_parity none plus c t xs)
    more = omega (arith, parity_length xs fits, fits)

    pub encoded_length : length (encoded none plus c t xs) ≡ length xs
    unfolding encoded
    encoded_length = completed_length none plus c (with_parity none plus c t xs) more ∙ parity_length xs fits

    pub encoded_rest : (p : ℕ) → whole c ≤ p → get_or (encoded none plus c t xs) p none ≡ get_or xs p none
    unfolding encoded
    encoded_rest p h = completed_rest none plus c (with_parity none plus c t xs) more p h ∙ parity_rest xs fits p (omega (arith, group_more none plus c xs fits))

    pub encoded_message : (r s : ℕ) → r < 4 * c.K → s < c.m → segments none c.m (encoded none plus c t xs) r s ≡ segments none c.m xs r s
    unfolding encoded
    encoded_message r s hr hs = completed_segments (with_parity none plus c t xs) more r s (omega arith) hs ∙ parity_message xs fits r s hr hs

    pub encoded_parity : (q s : ℕ) → q < 8 → s < c.m → segments none c.m (encoded none plus c t xs) (4 * c.K + q) s ≡ parity none plus c t (segments none c.m xs) q s
    unfolding encoded
    encoded_parity q s hq hs = completed_segments (with_parity none plus c t xs) more (4 * c.K + q) s (omega arith) hs ∙ parity_segments xs fits q s hq hs
