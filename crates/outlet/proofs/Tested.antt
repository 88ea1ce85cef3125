-- A test of each number below a bound, computed at once.
use Rattle.std.proofs.Common.{ℕ, zero, suc, ◌<◌, Bool, true, false, ◌&&◌, T, sym, subst, inl, inr, not-suc-le-zero, arith}
use Rattle.std.proofs.lemmas.Bool.{cases_eq}

abbrev pub all_below : (ℕ → Bool) → ℕ → Bool
all_below f zero = true
all_below f (suc n) = f n && all_below f n

and_left : (a b : Bool) → T (a && b) → T a
and_left true b t = tt
and_left false b t = t

and_right : (a b : Bool) → T (a && b) → T b
and_right true b t = t
and_right false b t = absurd t

pub from_all : (f : ℕ → Bool) (n k : ℕ) → T (all_below f n) → k < n → T (f k)
from_all f zero k t h = absurd (not-suc-le-zero h)
from_all f (suc n) k t h = elim (cases_eq k n) [ inl e ↦ subst (λ (z : ℕ). T (f z)) (sym e) (and_left (f n) (all_below f n) t) | inr ne ↦ from_all f n k (and_right (f n) (all_below f n) t) (omega arith) ]
