-- The message's part in the second and third block rows of the parity-check matrix of each rate, column by
-- column as the standard prints it. The first block row has none. The matrix of rate 4/5 is six columns
-- and then that of rate 1/2.
use Rattle.std.specs.Prelude.{ℕ, ◌-◌}
use Rattle.qc.specs.Equation.{Equation, Operator.Identity, Operator.Π, Operator.◌⊞◌, Equation.◌of◌, Equation.◌⊕◌}

-- the message groups u 1, u 2 and so on; groups are numbered from 0
abbrev u : ℕ → ℕ
u i = i - 1

-- rate 1/2: u1 + u2, and u1 + (Π5 + Π6) u2
unfoldable pub half_second : Equation
half_second = Identity of u 1 ⊕ Identity of u 2

unfoldable pub half_third : Equation
half_third = Identity of u 1 ⊕ Π 5 ⊞ Π 6 of u 2

-- rate 2/3
unfoldable pub two_thirds_second : Equation
two_thirds_second = Π 9 ⊞ Π 10 ⊞ Π 11 of u 1 ⊕ Identity of u 2 ⊕ Identity of u 3 ⊕ Identity of u 4

unfoldable pub two_thirds_third : Equation
two_thirds_third = Identity of u 1 ⊕ Π 12 ⊞ Π 13 ⊞ Π 14 of u 2 ⊕ Identity of u 3 ⊕ Π 5 ⊞ Π 6 of u 4

-- rate 4/5
unfoldable pub four_fifths_second : Equation
four_fifths_second =
    Π 21 ⊞ Π 22 ⊞ Π 23 of u 1 ⊕ Identity of u 2 ⊕ Π 15 ⊞ Π 16 ⊞ Π 17 of u 3 ⊕ Identity of u 4
    ⊕ Π 9 ⊞ Π 10 ⊞ Π 11 of u 5 ⊕ Identity of u 6 ⊕ Identity of u 7 ⊕ Identity of u 8

unfoldable pub four_fifths_third : Equation
four_fifths_third =
    Identity of u 1 ⊕ Π 24 ⊞ Π 25 ⊞ Π 26 of u 2 ⊕ Identity of u 3 ⊕ Π 18 ⊞ Π 19 ⊞ Π 20 of u 4
    ⊕ Identity of u 5 ⊕ Π 12 ⊞ Π 13 ⊞ Π 14 of u 6 ⊕ Identity of u 7 ⊕ Π 5 ⊞ Π 6 of u 8
