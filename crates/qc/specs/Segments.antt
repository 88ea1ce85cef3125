-- The loops' view of a block equation: segment by segment, as a sum over terms.
use Rattle.std.specs.Prelude.{◌≡◌, ℕ, ◌+◌, ◌*◌, ◌%◌, ◌<◌, ◌≤◌, ◌⊎◌, List, [], ◌∷◌, length, get_or, slice_index, slice_index_or}
use Rattle.qc.specs.declared.terms.Permutation.{Permutation}
use Rattle.qc.specs.declared.terms.Term.{Term}
use Rattle.qc.specs.declared.kernel.Summands.{Summands}
use Rattle.qc.specs.Permutation.{absent}

-- what f gives for each of xs, added up
abbrev pub total : {E X : Type 0} → E → (E → E → E) → (X → E) → List X → E
total none plus f [] = none
total none plus f (x ∷ xs) = plus (f x) (total none plus f xs)

-- place s of segment n of a list, in segments of m elements
abbrev pub segments : {E : Type 0} → E → ℕ → List E → ℕ → ℕ → E
segments none m xs n s = slice_index_or xs (n * m + s) none

-- place s of segment j of a term, in a block given by its segments
abbrev pub term_at : {E : Type 0} → ℕ → List Permutation → (ℕ → ℕ → E) → ℕ → ℕ → Term → E
term_at m table x j s t =
    let p = get_or table t.permutation absent in
    x (4 * t.group + (p.theta + j) % 4) ((s + slice_index p.phi j) % m)

-- place s of segment j of a sum of terms
abbrev pub segment_sum : {E : Type 0} → E → (E → E → E) → ℕ → List Permutation → List Term → (ℕ → ℕ → E) → ℕ → ℕ → E
segment_sum none plus m table ts x j s = total none plus (term_at m table x j s) ts

-- the same of what a loop is given, in a list whose segments have m elements
abbrev pub summed : {E : Type 0} → E → (E → E → E) → ℕ → Summands → List E → ℕ → ℕ → E
summed none plus m given xs j s = segment_sum none plus m given.table.now given.terms.now (segments none m xs) j s

-- a term that can be read: its permutation is in the table and its group within the list
pub record Readable (m len : ℕ) (table : List Permutation) (t : Term) : Type 0 where
  pub listed : t.permutation < length table
  pub quarter : (get_or table t.permutation absent).theta < 4
  pub turned : (j : ℕ) → j < 4 → slice_index (get_or table t.permutation absent).phi j < m
  pub within : (4 * t.group + 4) * m ≤ len

abbrev pub AllReadable : ℕ → ℕ → List Permutation → List Term → Type 0
AllReadable m len table ts = (i : ℕ) (d : Term) → i < length ts → Readable m len table (slice_index_or ts i d)

-- a term whose group lies before the group that begins at `from`, or after it
abbrev pub Apart : ℕ → ℕ → Term → Type 0
Apart m from t = ((4 * t.group + 4) * m ≤ from) ⊎ (from + 4 * m ≤ 4 * t.group * m)

abbrev pub AllApart : ℕ → ℕ → List Term → Type 0
AllApart m from ts = (i : ℕ) (d : Term) → i < length ts → Apart m from (slice_index_or ts i d)

-- in xs the places from lo to n are f's, and all else is as in ys
pub record Written {E : Type 0} (none : E) (f : ℕ → E) (lo : ℕ) (ys xs : List E) (n : ℕ) : Type 0 where
  pub before : (p : ℕ) → p < lo → slice_index_or xs p none ≡ slice_index_or ys p none
  pub made : (p : ℕ) → p < n → lo ≤ p → slice_index_or xs p none ≡ f p
  pub after : (p : ℕ) → n ≤ p → slice_index_or xs p none ≡ slice_index_or ys p none
