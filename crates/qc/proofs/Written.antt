-- Loops that write place after place.
use Rattle.std.proofs.Common.{◌≡◌, ℕ, ◌+◌, ◌-◌, ◌%◌, ◌<◌, ◌≤◌, ◌≢◌, List, ◌++◌, length, get_or, set, take, drop, sym, refl, ap, ◌∙◌, ap₂, mod-eq_of_lt, arith, get_or-set_other, get_or-set_same, below_more}
use native.Mathlib.Nat.{mod-eq-sub-mod}
use native.Mathlib.Decide.{dec_lt}
use borrow.Rule.Slice.PartMut.{put_mid}
use Rattle.std.proofs.lemmas.List.{length-append, length-take-le, length-drop, get_or_append_left, get_or-append_right, get_or-take, get_or-drop}
use Rattle.qc.specs.Segments.{Written}
use Rattle.qc.proofs.Reach.{mid_before, mid_made}

module _ {E : Type 0} {none : E} {f : ℕ → E} {lo : ℕ} {ys : List E} where
  pub written_none : Written none f lo ys ys lo
  written_none = record { before = λ p h. refl; made = λ p h g. absurd (apart p h g); after = λ p h. refl }
    where
      apart : (p : ℕ) → p < lo → lo ≤ p → ⊥
      apart p h g = omega arith

  pub written_more : (xs : List E) (n : ℕ) (v : E) → Written none f lo ys xs n → lo ≤ n → n < length xs → v ≡ f n → Written none f lo ys (set xs n v) (n + 1)
  written_more xs n v w le lt e =
      record {
        before = λ p h. let ne : p ≢ n = omega arith in get_or-set_other xs n p v none ne ∙ w.before p h;
        made = below_more _ _
            (λ p h g. let ne : p ≢ n = omega arith in get_or-set_other xs n p v none ne ∙ w.made p h g)
            (λ g. get_or-set_same xs n v none lt ∙ e);
        after = λ p h. let ne : p ≢ n = omega arith in get_or-set_other xs n p v none ne ∙ w.after p (omega arith);
      }

  -- k places at once
  pub written_block : (xs xs' : List E) (n k : ℕ) → Written none f lo ys xs n → lo ≤ n
      → ((p : ℕ) → p < n → get_or xs' p none ≡ get_or xs p none)
      → ((i : ℕ) → i < k → get_or xs' (n + i) none ≡ f (n + i))
      → ((p : ℕ) → n + k ≤ p → get_or xs' p none ≡ get_or xs p none)
      → Written none f lo ys xs' (n + k)
  written_block xs xs' n k w le below here beyond =
      record {
        before = λ p h. below p (omega arith) ∙ w.before p h;
        made = λ p h g. go p h g (dec_lt p n);
        after = λ p h. beyond p h ∙ w.after p (omega arith);
      }
    where
      go : (p : ℕ) → p < n + k → lo ≤ p → Dec (p < n) → get_or xs' p none ≡ f p
      go p h g (yes low) = below p low ∙ w.made p low g
      go p h g (no high) =
          let at : n + (p - n) ≡ p = omega arith in
          ap (λ q. get_or xs' q none) (sym at) ∙ here (p - n) (omega arith) ∙ ap f at

-- place i + k of a segment of m, round to its front
pub in_front : (m k i : ℕ) → k + i < m → k + i ≡ (i + k) % m
in_front m k i h = let e : k + i ≡ i + k = omega arith in e ∙ sym (mod-eq_of_lt (omega arith))

pub in_back : (m k i : ℕ) → k ≤ m → m - k ≤ i → i < m → i - (m - k) ≡ (i + k) % m
in_back m k i h a b =
    let e : i - (m - k) ≡ i + k - m = omega arith in
    let big : m ≤ i + k = omega arith in
    e ∙ sym (mod-eq-sub-mod big ∙ mod-eq_of_lt (omega arith))

-- the same of i < m + m
pub once_more : (m i : ℕ) → m ≤ i → i < m + m → i - m ≡ i % m
once_more m i a b = sym (mod-eq-sub-mod a ∙ mod-eq_of_lt (omega arith))

-- ys, read from its place k on and round to the one before, added to xs in two parts: `front` before the place
-- where it goes round, and `back` from there on
module _ {E : Type 0} (none : E) (plus : E → E → E) (k : ℕ) (xs ys front back : List E) (same : length xs ≡ length ys) (within : k < length ys) where
  abbrev cut : ℕ
  cut = length ys - k

  abbrev both : List E
  both = front ++ drop cut xs

  pub rotated : length front ≡ length (take cut xs) → length back ≡ length (take (length both - cut) (drop cut both))
      → ((s : ℕ) → s < length (take cut xs) → get_or front s none ≡ plus (get_or (take cut xs) s none) (get_or (take cut (drop k ys)) s none))
      → ((s : ℕ) → s < length (take (length both - cut) (drop cut both)) → get_or back s none ≡ plus (get_or (take (length both - cut) (drop cut both)) s none) (get_or (take k ys) s none))
      → (s : ℕ) → s < length xs → get_or (put_mid cut (length both - cut) both back) s none ≡ plus (get_or xs s none) (get_or ys ((s + k) % length ys) none)
  rotated long_front long_back made_front made_back s h = go (dec_lt s cut)
    where
      starts : length front ≡ cut
      starts = long_front ∙ length-take-le cut xs (omega arith)

      long : length both ≡ length xs
      long = omega (arith, length-append front (drop cut xs), length-drop cut xs, starts)

      ends : length back ≡ length both - cut
      ends = long_back ∙ length-take-le (length both - cut) (drop cut both) (omega (arith, length-drop cut both))

      go : Dec (s < cut) → get_or (put_mid cut (length both - cut) both back) s none ≡ plus (get_or xs s none) (get_or ys ((s + k) % length ys) none)
      go (yes low) =
          mid_before cut (length both - cut) both back (omega (arith, long)) ends s none low
          ∙ get_or_append_left front (drop cut xs) none s (omega (arith, starts))
          ∙ made_front s (omega (arith, starts, long_front))
          ∙ ap₂ plus (get_or-take cut xs s none low) (get_or-take cut (drop k ys) s none low ∙ get_or-drop k ys s none ∙ ap (λ p. get_or ys p none) (in_front (length ys) k s (omega arith)))
      go (no high) =
          let at : cut + (s - cut) ≡ s = omega arith in
          let low : s - cut < length both - cut = omega (arith, long) in
          ap (λ p. get_or (put_mid cut (length both - cut) both back) p none) (sym at)
          ∙ mid_made cut (length both - cut) both back (omega (arith, long)) ends (s - cut) none low
          ∙ made_back (s - cut) (omega (arith, ends, long_back))
          ∙ ap₂ plus
          (get_or-take (length both - cut) (drop cut both) (s - cut) none low ∙ get_or-drop cut both (s - cut) none ∙ ap (λ p. get_or both p none) at
          ∙ get_or-append_right front (drop cut xs) cut s none starts (omega arith) ∙ get_or-drop cut xs (s - cut) none ∙ ap (λ p. get_or xs p none) at)
          (get_or-take k ys (s - cut) none (omega (arith, same)) ∙ ap (λ p. get_or ys p none) (in_back (length ys) k s (omega arith) (omega arith) (omega arith)))
