-- What every element kind obeys.
use Rattle.std.specs.Prelude.{◌≡◌, Bool, true}

-- The sum is associative and commutative, zero changes nothing, an element plus itself is zero, and the
-- test says yes exactly for equal elements.
pub record Laws {E : Type 0} (zero : E) (plus : E → E → E) (same : E → E → Bool) : Type 0 where
  pub assoc : (x y z : E) → plus (plus x y) z ≡ plus x (plus y z)
  pub comm : (x y : E) → plus x y ≡ plus y x
  pub neutral : (x : E) → plus zero x ≡ x
  pub cancels : (x : E) → plus x x ≡ zero
  pub same_equal : (x y : E) → same x y ≡ true → x ≡ y
  pub equal_same : (x y : E) → x ≡ y → same x y ≡ true
