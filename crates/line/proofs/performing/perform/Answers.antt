use Rattle.std.proofs.Common.{arith}
use Rattle.line.proofs.Laws.{law_of}
use Rattle.line.proofs.Serving.{served_answers, served_outlet}
use Rattle.line.proofs.performing.perform.Goals as goal

pub returns-clause-law : goal.returns-clause-law
returns-clause-law g c = law_of _ _ _ _ _ _ (grind (arith, served_answers)) (grind (arith, served_outlet))
