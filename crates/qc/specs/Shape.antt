-- The shape of a code: its message groups u, parity groups a and b and punctured group z, each of M
-- elements, and the three block rows of its parity-check matrix.
use Rattle.std.specs.Prelude.{ℕ, ◌+◌, ◌*◌, List, ◌∷◌, slice_index_or}
use Rattle.qc.specs.declared.terms.Permutation.{Permutation}
use Rattle.qc.specs.Permutation.{π, identity, absent}
use Rattle.qc.specs.Equation.{Operator, Equation, Operator.Identity, Operator.Π, Operator.◌⊞◌, Equation.◌of◌, Equation.◌⊕◌}

-- `table` holds Π 1, Π 2 and so on; `u2` and `u3` are the message's part in the second and third block rows, `Π1` acts on z in the first,
-- `P` on z in the second, and `Q` on b in the third
pub record Shape : Type 0 where
  pub K : ℕ
  pub m : ℕ
  pub table : List Permutation
  pub u2 : Equation
  pub u3 : Equation
  pub Π1 : Operator
  pub P : Operator
  pub Q : Operator

-- a segment is m elements, a group four segments
abbrev pub M : Shape → ℕ
M c = 4 * c.m

-- the numbers of the groups after the K of the message
abbrev pub a : Shape → ℕ
a c = c.K

abbrev pub b : Shape → ℕ
b c = c.K + 1

abbrev pub z : Shape → ℕ
z c = c.K + 2

-- the elements that are sent, and those of a whole block
abbrev pub sent : Shape → ℕ
sent c = (c.K + 2) * M c

abbrev pub whole : Shape → ℕ
whole c = (c.K + 3) * M c

-- first block row: a + z + Π1 z; `closing` is what it gives a from
abbrev pub closing : Shape → Equation
closing c = Identity ⊞ c.Π1 of z c

abbrev pub first : Shape → Equation
first c = Identity of a c ⊕ closing c

-- second block row: u2 + b + P z; `asked` is all but b
abbrev pub asked : Shape → Equation
asked c = c.u2 ⊕ c.P of z c

abbrev pub second : Shape → Equation
second c = c.u2 ⊕ Identity of b c ⊕ c.P of z c

-- third block row: u3 + Q b + z; `known` is what it gives z from
abbrev pub known : Shape → Equation
known c = c.u3 ⊕ c.Q of b c

abbrev pub third : Shape → Equation
third c = known c ⊕ Identity of z c

-- the permutations by number: 0 is the identity
abbrev pub permutations : Shape → List Permutation
permutations c = identity ∷ c.table

-- what operators and equations mean: `x g i` is element i of group g
module _ {E : Type 0} (plus : E → E → E) (c : Shape) where
  -- element i of Π t x is element π(i) of x
  abbrev pub apply : Operator → (ℕ → E) → ℕ → E
  apply Identity x i = x i
  apply (Π t) x i = x (π (M c) (slice_index_or (permutations c) t absent) i)
  apply (A ⊞ B) x i = plus (apply A x i) (apply B x i)

  abbrev pub value : Equation → (ℕ → ℕ → E) → ℕ → E
  value (A of g) x i = apply A (x g) i
  value (p ⊕ q) x i = plus (value p x i) (value q x i)
