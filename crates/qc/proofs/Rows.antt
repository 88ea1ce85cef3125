-- Steps of the loops over the four segments of a group.
use Rattle.std.proofs.Common.{◌≡◌, ℕ, suc, ◌+◌, ◌-◌, ◌*◌, ◌/◌, ◌%◌, ◌<◌, ◌≤◌, Bool, true, ◌⊎◌, List, [], ◌∷◌, length, get_or, Some, None, sym, refl, ap, ◌∙◌, subst, ap₂, inl, inr, mul-le-mul_right, mod-lt, add-mul, arith}
use Rattle.std.proofs.lemmas.Nat.{div-mul-add, mod-mul-add}
use Rattle.qc.specs.declared.terms.Permutation.{Permutation}
use Rattle.qc.specs.declared.terms.Term.{Term}
use Rattle.qc.specs.Permutation.{absent}
use Rattle.qc.specs.Segments.{segments, segment_sum, AllReadable, AllApart, Written}
use Rattle.qc.specs.Codeblock.{lowest}
use Rattle.qc.proofs.Reach.{inside}
use Rattle.qc.proofs.Written.{written_block}
use Rattle.qc.proofs.Lowest.{stretch_none, stretch_found}

-- segment j + 1 begins where segment j ends, and no later than the group
pub next_segment : (j m : ℕ) → (j + 1) * m ≡ j * m + m
next_segment j m = omega (arith, add-mul j 1 m)

pub within_group : (j m : ℕ) → j < 4 → j * m + m ≤ 4 * m
within_group j m h = let more : j + 1 ≤ 4 = omega arith in omega (arith, mul-le-mul_right m more, next_segment j m)

-- a search for the lowest row that fails, one segment more: `f j s` is place s of segment j
module _ {E : Type 0} (none : E) (same : E → E → Bool) (m : ℕ) (f : ℕ → ℕ → E) (j : ℕ) (sums : List E) (long : length sums ≡ m)
    (made : (s : ℕ) → s < m → get_or sums s none ≡ f j s)
    (passed : (i : ℕ) → i < j * m → same (f (i / m) (i % m)) none ≡ true) where
  agree : (s : ℕ) → s < length sums → same (get_or sums s none) none ≡ same (f ((j * m + s) / m) ((j * m + s) % m)) none
  agree s h =
      let low : s < m = omega (arith, long) in
      ap (λ x. same x none) (made s low ∙ sym (ap₂ f (div-mul-add j m s low) (mod-mul-add j m s low)))

  pub row_none : lowest (λ s. same (get_or sums s none) none) (length sums) ≡ None → (i : ℕ) → i < (j + 1) * m → same (f (i / m) (i % m)) none ≡ true
  row_none e i h =
      stretch_none (λ i. same (f (i / m) (i % m)) none) (λ s. same (get_or sums s none) none) (j * m) (length sums) passed agree e i (omega (arith, next_segment j m, long))

  pub row_found : (s : ℕ) → j < 4 → lowest (λ s. same (get_or sums s none) none) (length sums) ≡ Some s → lowest (λ i. same (f (i / m) (i % m)) none) (4 * m) ≡ Some (j * m + s)
  row_found s hj e =
      stretch_found (λ i. same (f (i / m) (i % m)) none) (λ s. same (get_or sums s none) none) (j * m) (length sums) passed agree (4 * m) s (omega (arith, within_group j m hj, long)) e

-- terms that lie apart from the group at `from` are the same in lists that agree outside it
pub sum_same : {E : Type 0} (none : E) (plus : E → E → E) (m from len : ℕ) (table : List Permutation) (ts : List Term) → AllReadable m len table ts → AllApart m from ts
    → (xs ys : List E) → ((p : ℕ) → (p < from) ⊎ (from + 4 * m ≤ p) → get_or xs p none ≡ get_or ys p none)
    → (j s : ℕ) → j < 4 → s < m → segment_sum none plus m table ts (segments none m xs) j s ≡ segment_sum none plus m table ts (segments none m ys) j s
sum_same none plus m from len table [] ok away xs ys alike j s hj hs = refl
sum_same none plus m from len table (t ∷ ts) ok away xs ys alike j s hj hs =
    let p = get_or table t.permutation absent in
    let q : ℕ = (p.theta + j) % 4 in
    let i : ℕ = (s + get_or p.phi j 0) % m in
    let low : i < m = mod-lt _ (omega arith) in
    ap₂ plus (alike ((4 * t.group + q) * m + i) (outside from m t.group q i (omega arith) low (away 0 t (omega arith))))
    (sum_same none plus m from len table ts (λ i d l. ok (suc i) d (omega arith)) (λ i d l. away (suc i) d (omega arith)) xs ys alike j s hj hs)
  where
    outside : (from m g q i : ℕ) → q < 4 → i < m → ((4 * g + 4) * m ≤ from) ⊎ (from + 4 * m ≤ 4 * g * m) → ((4 * g + q) * m + i < from) ⊎ (from + 4 * m ≤ (4 * g + q) * m + i)
    outside from m g q i hq hi (inl before) =
        let pos : 0 < m = omega arith in
        inl (omega (arith, (inside g q m from hq pos before).part))
    outside from m g q i hq hi (inr after) = inr (omega (arith, add-mul (4 * g) q m))

-- a group that is written segment by segment, one segment more
pub group_more : {E : Type 0} (none : E) (f : ℕ → ℕ → E) (m from j : ℕ) (ys xs xs' sums : List E) → length sums ≡ m
    → Written none (λ p. f ((p - from) / m) ((p - from) % m)) from ys xs (from + j * m)
    → ((s : ℕ) → s < m → get_or sums s none ≡ f j s)
    → ((p : ℕ) → p < from + j * m → get_or xs' p none ≡ get_or xs p none)
    → ((i : ℕ) → i < length sums → get_or xs' (from + j * m + i) none ≡ get_or sums i none)
    → ((p : ℕ) → from + j * m + length sums ≤ p → get_or xs' p none ≡ get_or xs p none)
    → Written none (λ p. f ((p - from) / m) ((p - from) % m)) from ys xs' (from + (j + 1) * m)
group_more none f m from j ys xs xs' sums long w made before here rest =
    let next : from + j * m + m ≡ from + (j + 1) * m = omega (arith, next_segment j m) in
    subst (Written none (λ p. f ((p - from) / m) ((p - from) % m)) from ys xs') next
    (written_block xs xs' (from + j * m) m w (omega arith) before
    (λ i h.
    let off : from + j * m + i - from ≡ j * m + i = omega arith in
    here i (omega (arith, long)) ∙ made i h
    ∙ sym (ap₂ f (ap (λ n. n / m) off ∙ div-mul-add j m i h) (ap (λ n. n % m) off ∙ mod-mul-add j m i h)))
    (λ p h. rest p (omega (arith, long))))
