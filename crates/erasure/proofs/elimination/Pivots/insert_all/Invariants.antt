use Rattle.std.proofs.Common.{◌≡◌}
use Rattle.erasure.specs.Unknowns.{Solves}
use Rattle.erasure.specs.Demands.{Same, Zeros}
use Rattle.erasure.proofs.elimination.Pivots.insert_all.Given as goal

abbrev pub invariant-loop-form : goal.invariant-loop-form
invariant-loop-form l =
    (l.self.count ≡ l.initial.self.count)
    × Same (Solves l.initial.self.count l.self.rows) (λ s. Solves l.initial.self.count l.initial.self.rows s × Zeros l.initial.self.count l.forms l.form-index s)
