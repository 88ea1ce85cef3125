-- The permutations that a quasi-cyclic parity-check matrix is made of.
use Rattle.std.specs.Prelude.{ℕ, ◌+◌, ◌*◌, ◌/◌, ◌%◌, [], ◌∷◌, slice_index}
use Rattle.qc.specs.declared.terms.Permutation.{Permutation}

-- π(i) = M/4 · ((θ + j) mod 4) + ((φ(j) + i) mod M/4), with j = ⌊4i/M⌋
abbrev pub π : ℕ → Permutation → ℕ → ℕ
π M p i = M / 4 * ((p.theta + 4 * i / M) % 4) + (slice_index p.phi (4 * i / M) + i) % (M / 4)

-- the one that moves nothing
abbrev pub identity : Permutation
identity = record { theta = 0; phi = 0 ∷ 0 ∷ 0 ∷ 0 ∷ [] }

-- what a number that no table lists stands for
abbrev pub absent : Permutation
absent = record { theta = 0; phi = [] }
