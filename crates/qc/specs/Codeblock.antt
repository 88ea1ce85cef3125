-- Rows, and codeblocks.
use Rattle.std.specs.Prelude.{◌≡◌, ℕ, zero, suc, ◌+◌, ◌*◌, ◌/◌, ◌%◌, ◌<◌, Bool, cond, List, ◌++◌, map, take, drop, Some, None, Option, nat_lt, slice_index_or}
use Rattle.std.specs.List.{range_with_len}
use Rattle.qc.specs.Equation.{Equation}
use Rattle.qc.specs.Shape.{Shape, M, z, sent, whole, first, second, known, third, value}

-- the block rows by number
abbrev pub block_row : Shape → ℕ → Equation
block_row c zero = first c
block_row c (suc zero) = second c
block_row c (suc (suc n)) = third c

abbrev pub or_else : {A : Type 0} → Option A → Option A → Option A
or_else (Some r) other = Some r
or_else None other = other

-- the lowest number below n that does not pass the test
abbrev pub lowest : (ℕ → Bool) → ℕ → Option ℕ
lowest passes zero = None
lowest passes (suc n) = or_else (lowest passes n) (cond (passes n) None (Some n))

-- element i of group g of a list of groups of w elements
abbrev pub groups : {E : Type 0} → E → ℕ → List E → ℕ → ℕ → E
groups none w xs g i = slice_index_or xs (g * w + i) none

module _ {E : Type 0} (none : E) (plus : E → E → E) (c : Shape) where
  -- row r of a block, 0 to 3M - 1: rows 0 to M - 1 are the first block row, and so on
  abbrev pub row : (ℕ → ℕ → E) → ℕ → E
  row x r = value plus c (block_row c (r / M c)) x (r % M c)

  abbrev pub AllZero : (ℕ → ℕ → E) → Type 0
  AllZero x = (r : ℕ) → r < 3 * M c → row x r ≡ none

  -- the block x with w for its punctured group
  abbrev pub completed_by : (ℕ → ℕ → E) → (ℕ → E) → ℕ → ℕ → E
  completed_by x w g i = cond (nat_lt g (z c)) (x g i) (w i)

  -- a block is a codeblock where some punctured group makes all rows zero
  abbrev pub Codeblock : (ℕ → ℕ → E) → Type 0
  Codeblock x = (w : ℕ → E) × AllZero (completed_by x w)

  -- the punctured group that the third block row gives
  abbrev pub punctured : (ℕ → ℕ → E) → ℕ → E
  punctured x = value plus c (known c) x

  -- a list whose front is a block, with the punctured group written behind it and all else as it was
  unfoldable pub completed : List E → List E
  completed xs = take (sent c) xs ++ (map (punctured (groups none (M c) xs)) (range_with_len 0 (M c)) ++ drop (whole c) xs)
