-- The permutations of the codes with 1,024 information bits, as the standard tabulates them: θ, then φ for
-- each of the four segments, of Π 1, Π 2 and so on.
use Rattle.std.specs.Prelude.{List, [], ◌∷◌, ℕ}
use Rattle.qc.specs.declared.terms.Permutation.{Permutation}

abbrev Π : ℕ → ℕ → ℕ → ℕ → ℕ → Permutation
Π θ φ₀ φ₁ φ₂ φ₃ = record { theta = θ; phi = φ₀ ∷ φ₁ ∷ φ₂ ∷ φ₃ ∷ [] }

-- rate 1/2, M = 512
unfoldable pub half_1024 : List Permutation
half_1024 =
    Π 3 16 0 0 0
    ∷ Π 0 103 53 8 35
    ∷ Π 1 105 74 119 97
    ∷ Π 2 0 45 89 112
    ∷ Π 2 50 47 31 64
    ∷ Π 3 29 0 122 93
    ∷ Π 0 115 59 1 99
    ∷ Π 1 30 102 69 94
    ∷ []

-- rate 2/3, M = 256
unfoldable pub two_thirds_1024 : List Permutation
two_thirds_1024 =
    Π 3 59 0 0 0
    ∷ Π 0 18 32 46 44
    ∷ Π 1 52 21 45 51
    ∷ Π 2 23 36 27 12
    ∷ Π 2 11 30 48 15
    ∷ Π 3 7 29 37 12
    ∷ Π 0 22 44 41 4
    ∷ Π 1 25 29 13 7
    ∷ Π 0 27 39 9 2
    ∷ Π 1 30 14 49 30
    ∷ Π 2 43 22 36 53
    ∷ Π 0 14 15 10 23
    ∷ Π 2 46 48 11 29
    ∷ Π 3 62 55 18 37
    ∷ []

-- rate 4/5, M = 128
unfoldable pub four_fifths_1024 : List Permutation
four_fifths_1024 =
    Π 3 1 0 0 0
    ∷ Π 0 22 27 12 13
    ∷ Π 1 0 30 30 19
    ∷ Π 2 26 28 18 14
    ∷ Π 2 0 7 10 15
    ∷ Π 3 10 1 16 20
    ∷ Π 0 5 8 13 17
    ∷ Π 1 18 20 9 4
    ∷ Π 0 3 26 7 4
    ∷ Π 1 22 24 15 11
    ∷ Π 2 3 4 16 17
    ∷ Π 0 8 12 18 20
    ∷ Π 2 25 23 4 8
    ∷ Π 3 25 15 23 22
    ∷ Π 0 2 15 5 19
    ∷ Π 1 27 22 3 15
    ∷ Π 2 7 31 29 5
    ∷ Π 0 7 3 11 21
    ∷ Π 1 15 29 4 17
    ∷ Π 2 10 21 8 9
    ∷ Π 0 4 2 2 20
    ∷ Π 1 19 5 11 18
    ∷ Π 2 7 11 11 31
    ∷ Π 1 9 26 3 13
    ∷ Π 2 26 9 15 2
    ∷ Π 3 17 17 13 18
    ∷ []
