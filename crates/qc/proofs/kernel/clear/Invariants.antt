use Rattle.std.proofs.Common.{◌≡◌, ℕ, ◌<◌, get_or}
use Rattle.qc.proofs.kernel.clear.Given as goal

abbrev pub invariant-loop-sum : goal.invariant-loop-sum
invariant-loop-sum g l = (s : ℕ) → s < l.sum-index → get_or l.sums s g.E.Element.zero ≡ g.E.Element.zero
