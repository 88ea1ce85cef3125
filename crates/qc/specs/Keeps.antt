-- Maps from one element kind to another that keep zero and sums: one lane of 64, or a form under an assignment
-- of its unknowns.
use Rattle.std.specs.Prelude.{◌≡◌}

pub record Keeps {E F : Type 0} (none : E) (plus : E → E → E) (none' : F) (plus' : F → F → F) (h : E → F) : Type 0 where
  pub keeps_zero : h none ≡ none'
  pub keeps_sum : (x y : E) → h (plus x y) ≡ plus' (h x) (h y)
