use Rattle.std.proofs.Common.{◌≡◌, ℕ, ◌+◌, ◌*◌, ◌<◌, length, get_or}
use Rattle.qc.specs.Segments.{segments}
use Rattle.qc.specs.Circulant.{sum, act}
use Rattle.qc.specs.Coding.{first_row}
use Rattle.qc.proofs.circulant.Product.sum_target.Given as goal

abbrev pub invariant-loop-r : goal.invariant-loop-r
invariant-loop-r g l =
    let e = g.E.Element in
    (length l.scratch.sums.now ≡ l.m)
    × ((s : ℕ) → s < l.m → get_or l.scratch.sums.now s e.zero ≡ sum e.zero e.plus l.r (λ r. act e.zero e.plus l.m (first_row l.m l.self.words.now (l.self.targets * r + l.q)) (segments e.zero l.m l.run (l.self.source + r)) s))
