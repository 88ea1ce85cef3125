use Rattle.std.proofs.Common.{◌≡◌, ◌≤◌}
use Rattle.erasure.specs.Marks.{rank, Marked}
use Rattle.erasure.specs.Places.{Places}
use Rattle.erasure.proofs.marks.list_places.Given as goal

abbrev pub invariant-loop-i : goal.invariant-loop-i
invariant-loop-i l =
    (l.k ≡ rank l.marks l.i) × (l.n ≤ l.k) × Places (Marked l.marks l.open) l.i l.n l.initial.places l.places
