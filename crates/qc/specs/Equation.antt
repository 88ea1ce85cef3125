-- Block equations: one block row of a parity-check matrix, as a sum of operators on the groups of a block.
use Rattle.std.specs.Prelude.{ℕ}

infixr 60 ◌⊕◌
infix 62 ◌of◌
infixr 64 ◌⊞◌
-- an M × M block of the matrix: the identity, the permutation matrix Π t, or a sum of such
pub data Operator : Type 0 where
  Identity : Operator
  Π : ℕ → Operator
  ◌⊞◌ : Operator → Operator → Operator

-- an operator applied to the group of that number, or a sum of such
pub data Equation : Type 0 where
  ◌of◌ : Operator → ℕ → Equation
  ◌⊕◌ : Equation → Equation → Equation
