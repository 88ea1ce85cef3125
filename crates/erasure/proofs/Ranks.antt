-- How many marks before a place are erased.
use Rattle.std.proofs.Common.{◌≡◌, ℕ, zero, suc, ◌+◌, ◌-◌, ◌<◌, ◌≤◌, ◌≢◌, ◌⊎◌, true, false, Some, None, List, length, get_or, set, take, count_by, sym, refl, ap, ◌∙◌, subst, inl, inr, add-one, arith, below_more}
use Rattle.std.proofs.Math.Seq.{take-length}
use Rattle.std.specs.Option.{is_some, is_none}
use Rattle.std.proofs.lemmas.Bool.{false≢true, cases_eq}
use Rattle.std.proofs.lemmas.List.{get_or-set_same, get_or-set_other, get_or_default}
use Rattle.std.proofs.lemmas.List.Sums.{count_by_more_no, count_by_more_yes}
use Rattle.element.specs.declared.bits.Bit.TheVariants.{Zero}
use Rattle.erasure.specs.Places.{Places}
use Rattle.erasure.specs.Marks.{Mark, mark_at, gap, rank, erasures}

pub rank_step : (ms : List Mark) (i : ℕ) → rank ms (i + 1) ≡ rank ms i + gap (mark_at ms i)
rank_step ms i = ap (rank ms) (add-one i)

pub gap_le : (k : Mark) → gap k ≤ 1
gap_le None = omega arith
gap_le (Some x) = omega arith

pub rank_erased : (ms : List Mark) (i : ℕ) → mark_at ms i ≡ None → rank ms (i + 1) ≡ rank ms i + 1
rank_erased ms i e = ap (rank ms) (add-one i) ∙ ap (λ k. rank ms i + gap k) e

pub rank_more : (ms : List Mark) (i d : ℕ) → rank ms i ≤ rank ms (i + d)
rank_more ms i zero = let e : i + 0 ≡ i = omega arith in let f = ap (rank ms) e in omega arith
rank_more ms i (suc d) = let e : i + suc d ≡ suc (i + d) = omega arith in let f = ap (rank ms) e in let g = rank_more ms i d in omega arith

pub rank_le : (ms : List Mark) (i n : ℕ) → i ≤ n → rank ms i ≤ rank ms n
rank_le ms i n h = let d : i + (n - i) ≡ n = omega arith in omega (arith, rank_more ms i (n - i), ap (rank ms) d)

-- the unknown of an erased place is below their number
pub rank_lt : (ms : List Mark) (i n : ℕ) → i < n → mark_at ms i ≡ None → rank ms i < rank ms n
rank_lt ms i n h e = omega (arith, rank_erased ms i e, rank_le ms (i + 1) n (omega arith))

-- what a test of a mark says
pub erased : (m : Mark) → is_some m ≡ false → m ≡ None
erased None e = refl
erased (Some x) e = absurd (false≢true (sym e))

known : (m : Mark) → is_some m ≡ true → gap m ≡ 0
known None e = absurd (false≢true e)
known (Some x) e = refl

-- a mark that is read at the default that code has
pub mark_read : (ms : List Mark) (i : ℕ) → i < length ms → get_or ms i None ≡ mark_at ms i
mark_read ms i h = get_or_default ms i None (Some Zero) h

-- a loop that counts the erased marks in k, at the mark m
module _ (ms : List Mark) (i k : ℕ) (count : k ≡ rank ms i) (m : Mark) (read : m ≡ mark_at ms i) where
  pub count_lt : i < length ms → is_some m ≡ false → k < erasures ms
  count_lt h e = omega (arith, rank_lt ms i (length ms) h (sym read ∙ erased m e))

  pub count_erased : is_some m ≡ false → k + 1 ≡ rank ms (i + 1)
  count_erased e = omega (arith, rank_erased ms i (sym read ∙ erased m e))

  pub count_known : is_some m ≡ true → k ≡ rank ms (i + 1)
  count_known e = omega (arith, rank_step ms i, known m e, ap gap read)

pub count_few : (ms : List Mark) {i k : ℕ} → k ≡ rank ms i → i < length ms → is_some (get_or ms i None) ≡ false → erasures ms ≤ 64 → k < 64
count_few ms {i} {k} count h e few = omega (arith, count_lt ms i k count (get_or ms i None) (mark_read ms i h) h e)

-- the erased marks are counted
rank_count : (ms : List Mark) (n : ℕ) → n ≤ length ms → rank ms n ≡ count_by is_none (take n ms)
rank_count ms zero h = refl
rank_count ms (suc n) h =
    go (rank_count ms n (omega arith)) (mark_at ms n) refl ∙ ap (λ k. count_by is_none (take k ms)) (add-one n)
  where
    lt : n < length ms
    lt = omega arith

    go : rank ms n ≡ count_by is_none (take n ms) → (m : Mark) → mark_at ms n ≡ m → rank ms (suc n) ≡ count_by is_none (take (n + 1) ms)
    go less (Some x) e = omega (arith, ap gap e, count_by_more_no is_none ms n (Some Zero) lt (ap is_none e))
    go less None e = omega (arith, ap gap e, count_by_more_yes is_none ms n (Some Zero) lt (ap is_none e))

pub erasures_count : (ms : List Mark) → erasures ms ≡ count_by is_none ms
erasures_count ms = rank_count ms (length ms) (omega arith) ∙ ap (count_by is_none) (take-length ms)

-- places listed so far
module _ (P : ℕ → Type 0) (i n : ℕ) (ws vs : List ℕ) (so : Places P i n ws vs) where
  pub places_same : (P i → ⊥) → Places P (i + 1) n ws vs
  places_same not-here =
      record {
        sound = λ q h. (omega (arith, (so.sound q h).0), (so.sound q h).1);
        rising = so.rising;
        all = below_more _ i so.all (λ p. absurd (not-here p));
        rest = so.rest;
      }

  pub places_more : P i → n < length vs → Places P (i + 1) (n + 1) ws (set vs n i)
  places_more p hn =
      record {
        sound = below_more _ n
            (λ q h. (omega (arith, old q h, (so.sound q h).0), subst P (sym (old q h)) (so.sound q h).1))
            (omega (arith, new), subst P (sym new) p);
        rising = λ q r h l. go q r h l (cases_eq r n);
        all = below_more _ i (λ k h pk. let a = so.all k h pk in (a.0, (omega (arith, a.1.0), old a.0 a.1.0 ∙ a.1.1))) (λ _. (n, (omega arith, new)));
        rest = λ q h. get_or-set_other vs n q i 0 (omega arith) ∙ so.rest q (omega arith);
      }
    where
      new : get_or (set vs n i) n 0 ≡ i
      new = get_or-set_same vs n i 0 hn

      old : (q : ℕ) → q < n → get_or (set vs n i) q 0 ≡ get_or vs q 0
      old q h = get_or-set_other vs n q i 0 (omega arith)

      go : (q r : ℕ) → q < r → r < n + 1 → ((r ≡ n) ⊎ (r ≢ n)) → get_or (set vs n i) q 0 < get_or (set vs n i) r 0
      go q r h l (inl e) = omega (arith, old q (omega arith), (so.sound q (omega arith)).0, ap (λ r. get_or (set vs n i) r 0) e, new)
      go q r h l (inr ne) = omega (arith, old q (omega arith), old r (omega arith), so.rising q r h (omega arith))
