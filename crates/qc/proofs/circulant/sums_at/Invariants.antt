use Rattle.std.proofs.Common.{◌≡◌, ℕ, ◌+◌, ◌<◌, get_or, take}
use Rattle.qc.specs.Segments.{total}
use Rattle.qc.proofs.circulant.sums_at.Given as goal

abbrev pub invariant-loop-k : goal.invariant-loop-k
invariant-loop-k g l =
    let e = g.E.Element in
    (i : ℕ) → i < 16 → get_or l.sums i e.zero ≡ total e.zero e.plus (λ k. get_or l.wide (l.base + k + i) e.zero) (take l.k-index l.places)
