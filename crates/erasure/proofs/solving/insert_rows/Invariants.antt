use Rattle.std.proofs.Common.{◌≡◌, ◌*◌}
use Rattle.ar4ja.specs.Codes.{shape_of}
use Rattle.erasure.specs.Unknowns.{Solves}
use Rattle.erasure.specs.Demands.{Same, RowsZero}
use Rattle.erasure.proofs.solving.insert_rows.Given as goal

abbrev pub invariant-loop-n : goal.invariant-loop-n
invariant-loop-n l =
    (l.pivots.count ≡ l.initial.pivots.count)
    × Same (Solves l.initial.pivots.count l.pivots.rows)
    (λ s. Solves l.initial.pivots.count l.initial.pivots.rows s × RowsZero l.initial.pivots.count (shape_of l.code) l.run (l.n * (shape_of l.code).m) s)
