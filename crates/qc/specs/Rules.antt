-- The rules of a code's tables, as tests that compute on first rows. A block is told by first rows: segment
-- n of the block of the message with only element r·m set is a circulant's first row.
use Rattle.std.specs.Prelude.{ℕ, zero, suc, ◌+◌, ◌*◌, ◌/◌, ◌%◌, Bool, true, ◌&&◌, List, length, ◌==◌, nat_eq, nat_le, slice_index, slice_index_or}
use Rattle.std.specs.Int.Bits.{bit_xor}
use Rattle.qc.specs.declared.terms.Term.{Term}
use Rattle.qc.specs.Permutation.{absent}
use Rattle.qc.specs.Shape.{Shape, permutations}
use Rattle.qc.specs.Terms.{operator_terms, terms}
use Rattle.qc.specs.Segments.{total}
use Rattle.qc.specs.Circulant.{sum, left, mul, unit}
use Rattle.qc.specs.Coding.{Tables, first_row}

-- each number below n passes the test
abbrev pub each : ℕ → (ℕ → Bool) → Bool
each zero passes = true
each (suc n) passes = passes n && each n passes

-- segment j of a sum of terms, of a block told by first rows
abbrev pub firsts : Shape → List Term → (ℕ → ℕ) → ℕ → ℕ
firsts c ts q j =
    total 0 bit_xor (λ t. let p = slice_index_or (permutations c) t.permutation absent in left c.m (slice_index p.phi j) (q (4 * t.group + (p.theta + j) % 4))) ts

-- b + P Q b
abbrev pub folded_firsts : Shape → (ℕ → ℕ) → ℕ → ℕ
folded_firsts c b j = bit_xor (b j) (firsts c (operator_terms c.P 0) (firsts c (operator_terms c.Q 0) b) j)

-- the inverse table after I + P Q, and before it, is the identity
abbrev pub inverse_after : Shape → (ℕ → ℕ → ℕ) → Bool
inverse_after c v = each 4 (λ l. each 4 (λ n. nat_eq (folded_firsts c (v l) n) (unit c.m l n)))

abbrev pub inverse_before : Shape → (ℕ → ℕ → ℕ) → Bool
inverse_before c v = each 4 (λ l. each 4 (λ n. nat_eq (sum 0 bit_xor 4 (λ j. mul c.m (v j n) (folded_firsts c (unit c.m l) j))) (unit c.m l n)))

-- the punctured segments of the block of message segment r, and its first and second block rows
abbrev pub table_z : Shape → (ℕ → ℕ → ℕ) → ℕ → ℕ → ℕ
table_z c b r j = bit_xor (firsts c (terms c.u3) (unit c.m r) j) (firsts c (operator_terms c.Q 0) (b r) j)

abbrev pub table_first : Shape → (ℕ → ℕ → ℕ) → (ℕ → ℕ → ℕ) → ℕ → ℕ → ℕ
table_first c a b r j = bit_xor (a r j) (bit_xor (table_z c b r j) (firsts c (operator_terms c.Π1 0) (table_z c b r) j))

abbrev pub table_second : Shape → (ℕ → ℕ → ℕ) → ℕ → ℕ → ℕ
table_second c b r j = bit_xor (firsts c (terms c.u2) (unit c.m r) j) (bit_xor (b r j) (firsts c (operator_terms c.P 0) (table_z c b r) j))

-- the block of each message element r·m alone passes
abbrev pub generator_rows : Shape → (ℕ → ℕ → ℕ) → (ℕ → ℕ → ℕ) → Bool
generator_rows c a b = each (4 * c.K) (λ r. each 4 (λ j. (table_first c a b r j == 0) && table_second c b r j == 0))

-- the tables of a code keep their rules; they are as long as they have to be, and segments are whole words
unfoldable pub tabulated : Shape → Tables → Bool
tabulated c t =
    (c.m % 32 == 0)
    && nat_le (4 * c.K * 8 * (c.m / 32)) (length t.generator) && nat_le (4 * 4 * (c.m / 32)) (length t.inverse)
    && generator_rows c (λ r j. first_row c.m t.generator (8 * r + j)) (λ r j. first_row c.m t.generator (8 * r + (4 + j)))
    && inverse_after c (λ l n. first_row c.m t.inverse (4 * l + n))
    && inverse_before c (λ l n. first_row c.m t.inverse (4 * l + n))
