use Rattle.line.proofs.Serving.{Served}
use Rattle.line.proofs.performing.perform.Given as goal

abbrev pub invariant-loop-call : goal.invariant-loop-call
invariant-loop-call g l =
    let o = g.O.Outlet in
    Served o.bits o.room o.kept l.initial.line l.initial.calls l.line l.calls l.call-index
