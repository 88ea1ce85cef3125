-- Circulants by their first rows: numbers of m bits, the most significant first.
use Rattle.std.specs.Prelude.{ℕ, zero, suc, ◌+◌, ◌-◌, ◌*◌, ◌/◌, ◌%◌, ◌^◌, cond, List, [], ◌∷◌, ◌++◌, ◌==◌, bit_xor, slice_index}

-- the first n values of f, added up
abbrev pub sum : {E : Type 0} → E → (E → E → E) → ℕ → (ℕ → E) → E
sum none plus zero f = none
sum none plus (suc n) f = plus (sum none plus n f) (f n)

-- x taken or not
abbrev pub times : {E : Type 0} → E → ℕ → E → E
times none zero x = none
times none (suc n) x = x

-- bit e of a number
abbrev pub bit : ℕ → ℕ → ℕ
bit q e = q / 2 ^ e % 2

-- a circulant applied to a segment x: element i of x adds the first row turned right by i places. Bit e of the
-- number is place m − 1 − e of the first row, so place s takes element (s + 1 + e) mod m for each bit e that is one
abbrev pub act : {E : Type 0} → E → (E → E → E) → ℕ → ℕ → (ℕ → E) → ℕ → E
act none plus m q x s = sum none plus m (λ e. times none (bit q e) (x ((s + (1 + e)) % m)))

-- x read from its place k on, round to the one before; and each element moved to the next place
abbrev pub shift : {E : Type 0} → ℕ → ℕ → (ℕ → E) → ℕ → E
shift m k x s = x ((s + k) % m)

abbrev pub turn : {E : Type 0} → ℕ → (ℕ → E) → ℕ → E
turn m x = shift m (m - 1) x

-- a first row turned left by k places
abbrev pub left : ℕ → ℕ → ℕ → ℕ
left m k q = (q % 2 ^ (m - k)) * 2 ^ k + q % 2 ^ m / 2 ^ (m - k)

-- the first row of one circulant after another
abbrev pub mul : ℕ → ℕ → ℕ → ℕ
mul m p q = sum 0 bit_xor m (λ e. times 0 (bit p e) (left m (1 + e) q))

-- the first rows of segment l alone: the identity at n = l, else zero
abbrev pub unit : ℕ → ℕ → ℕ → ℕ
unit m l n = cond (l == n) (2 ^ (m - 1)) 0

-- the number that n words of 32 bits make from `start` on, the most significant first
abbrev pub number : List ℕ → ℕ → ℕ → ℕ
number ws start zero = 0
number ws start (suc n) = number ws start n * 2 ^ 32 + slice_index ws (start + n) % 2 ^ 32

-- k alone, or nothing where the bit is zero
abbrev pub kept : ℕ → ℕ → List ℕ
kept zero k = []
kept (suc b) k = k ∷ []

-- one more than the number of each bit that is one, of the first n
abbrev pub ones_of : (ℕ → ℕ) → ℕ → List ℕ
ones_of bits zero = []
ones_of bits (suc e) = ones_of bits e ++ kept (bits e) (e + 1)
