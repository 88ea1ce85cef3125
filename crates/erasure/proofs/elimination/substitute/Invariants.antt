use Rattle.std.proofs.Common.{◌≡◌, ℕ, ◌<◌, ◌≤◌}
use Rattle.erasure.specs.Unknowns.{member, pivot, added}
use Rattle.erasure.proofs.elimination.substitute.Given as goal

abbrev pub invariant-loop-row : goal.invariant-loop-row
invariant-loop-row l =
    ((p : ℕ) → p < l.row-index → pivot l.row-items p ≡ added (member (pivot l.initial.row-items p).unknowns l.k) (pivot l.initial.row-items p) l.form)
    × ((p : ℕ) → l.row-index ≤ p → pivot l.row-items p ≡ pivot l.initial.row-items p)
