-- What the coders write: by the generator table, and by the rows with the inverse table.
use Rattle.std.specs.Prelude.{◌≡◌, ℕ, ◌+◌, ◌*◌, ◌/◌, ◌%◌, ◌<◌, ◌≤◌, cond, List, ◌++◌, map, length, take, drop, nat_lt, slice_index_or}
use Rattle.std.specs.List.{range_with_len}
use Rattle.refusal.specs.Outcome.{Outcome, Outcome.done, Outcome.refused}
use Rattle.qc.specs.declared.faults.RunFault.TheVariants.{TooShort}
use Rattle.qc.specs.Refusals.{run_fault}
use Rattle.qc.specs.Equation.{Operator}
use Rattle.qc.specs.Shape.{Shape, M, sent, whole, permutations}
use Rattle.qc.specs.Terms.{operator_terms, terms}
use Rattle.qc.specs.Segments.{segments, segment_sum}
use Rattle.qc.specs.Circulant.{sum, act, number, turn}
use Rattle.qc.specs.Codeblock.{groups, AllZero, completed}

-- the tables of a code, in words of 32 bits, first rows one after the other: of the generator 8 for each
-- message segment, of the inverse of I + P Q 4 for each of 4 segments
pub record Tables : Type 0 where
  pub generator : List ℕ
  pub inverse : List ℕ

-- first row k of a table
abbrev pub first_row : ℕ → List ℕ → ℕ → ℕ
first_row m ws k = number ws (k * (m / 32)) (m / 32)

module _ {E : Type 0} (none : E) (plus : E → E → E) (c : Shape) (t : Tables) where
  -- by the generator table: place s of segment q of the parity, a then b, of the message u
  abbrev pub parity : (ℕ → ℕ → E) → ℕ → ℕ → E
  parity u q s = sum none plus (4 * c.K) (λ r. act none plus c.m (first_row c.m t.generator (8 * r + q)) (u r) s)

  -- an operator on a group, given by its four segments
  abbrev pub operated : Operator → (ℕ → ℕ → E) → ℕ → ℕ → E
  operated A x = segment_sum none plus c.m (permutations c) (operator_terms A 0) x

  -- by the rows: b is (I + P Q)⁻¹ applied to u2 + P u3, then z is u3 + Q b, and a is z + Π1 z
  abbrev pub wanted : (ℕ → ℕ → E) → ℕ → ℕ → E
  wanted u j s = plus (segment_sum none plus c.m (permutations c) (terms c.u2) u j s) (operated c.P (segment_sum none plus c.m (permutations c) (terms c.u3) u) j s)

  abbrev pub rows_b : (ℕ → ℕ → E) → ℕ → ℕ → E
  rows_b u n s = sum none plus 4 (λ l. act none plus c.m (first_row c.m t.inverse (4 * l + n)) (wanted u l) s)

  abbrev pub rows_z : (ℕ → ℕ → E) → ℕ → ℕ → E
  rows_z u j s = plus (segment_sum none plus c.m (permutations c) (terms c.u3) u j s) (operated c.Q (rows_b u) j s)

  abbrev pub rows_a : (ℕ → ℕ → E) → ℕ → ℕ → E
  rows_a u j s = plus (rows_z u j s) (operated c.Π1 (rows_z u) j s)

  -- a list whose front is a message, with its parity by the generator table, and then its punctured group
  unfoldable pub with_parity : List E → List E
  with_parity xs = take (c.K * M c) xs ++ (map (λ i. parity (segments none c.m xs) (i / c.m) (i % c.m)) (range_with_len 0 (2 * M c)) ++ drop (sent c) xs)

  unfoldable pub encoded : List E → List E
  encoded xs = completed none plus c (with_parity xs)

  -- the run after coding: refused, it is as it was
  abbrev pub encoded_run : List E → List E
  encoded_run xs = cond (nat_lt (length xs) (whole c)) xs (encoded xs)

  abbrev pub encode_answer : List E → Outcome Unit
  encode_answer xs = cond (nat_lt (length xs) (whole c)) (refused (run_fault TooShort)) (done tt)

  -- two lists with the same message
  abbrev pub SameMessage : List E → List E → Type 0
  SameMessage xs ys = (i : ℕ) → i < c.K * M c → slice_index_or xs i none ≡ slice_index_or ys i none

  -- all rows of a coded block are zero, and no other block with its message has that
  pub record Coded (xs : List E) : Type 0 where
    pub zero_rows : AllZero none plus c (groups none (M c) (encoded xs))
    pub only : (ys : List E) → SameMessage xs ys → AllZero none plus c (groups none (M c) ys) → (i : ℕ) → i < whole c → slice_index_or ys i none ≡ slice_index_or (encoded xs) i none

  -- the block of a sum of messages is the sum of their blocks
  abbrev pub Linear : Type 0
  Linear =
      (xs ys zs : List E) → whole c ≤ length xs → whole c ≤ length ys → whole c ≤ length zs
      → ((i : ℕ) → i < c.K * M c → slice_index_or zs i none ≡ plus (slice_index_or xs i none) (slice_index_or ys i none))
      → (i : ℕ) → i < whole c → slice_index_or (encoded zs) i none ≡ plus (slice_index_or (encoded xs) i none) (slice_index_or (encoded ys) i none)

  -- a message of zeros has a block of zeros
  abbrev pub ZeroBlock : Type 0
  ZeroBlock =
      (xs : List E) → whole c ≤ length xs → ((i : ℕ) → i < c.K * M c → slice_index_or xs i none ≡ none)
      → (i : ℕ) → i < whole c → slice_index_or (encoded xs) i none ≡ none

  -- a message with each segment turned one place has the block with each segment turned one place
  abbrev pub Turns : Type 0
  Turns =
      (xs zs : List E) → whole c ≤ length xs → whole c ≤ length zs
      → ((r s : ℕ) → r < 4 * c.K → s < c.m → segments none c.m zs r s ≡ turn c.m (segments none c.m xs r) s)
      → (n s : ℕ) → n < 4 * (c.K + 3) → s < c.m → segments none c.m (encoded zs) n s ≡ turn c.m (segments none c.m (encoded xs) n) s

  -- both coders make the block's parity from its message: place s of segment j of a and of b, by each
  pub record Reproduced (xs : List E) : Type 0 where
    pub by_table : (q s : ℕ) → q < 8 → s < c.m → segments none c.m xs (4 * c.K + q) s ≡ parity (segments none c.m xs) q s
    pub by_rows_a : (j s : ℕ) → j < 4 → s < c.m → segments none c.m xs (4 * c.K + j) s ≡ rows_a (segments none c.m xs) j s
    pub by_rows_b : (j s : ℕ) → j < 4 → s < c.m → segments none c.m xs (4 * c.K + (4 + j)) s ≡ rows_b (segments none c.m xs) j s
