use Rattle.erasure.proofs.Reading.{Sorted}
use Rattle.erasure.proofs.elimination.Pivots.solutions.Given as goal

abbrev pub invariant-loop-k : goal.invariant-loop-k
invariant-loop-k l = Sorted l.self.count l.self.rows l.k l.open
