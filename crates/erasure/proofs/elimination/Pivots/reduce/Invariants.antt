use Rattle.erasure.specs.Unknowns.{Cleared}
use Rattle.erasure.proofs.elimination.Pivots.reduce.Given as goal

abbrev pub invariant-loop-p : goal.invariant-loop-p
invariant-loop-p l = Cleared l.self.count l.p l.self.rows l.initial.left l.left
