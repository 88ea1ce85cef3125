use Rattle.std.proofs.Common.{◌≡◌, ◌+◌, ◌-◌, ◌*◌, ◌/◌, ◌%◌, length}
use Rattle.qc.specs.Segments.{segments, Written}
use Rattle.qc.specs.Product.{product_at}
use Rattle.qc.proofs.circulant.Product.write.Given as goal

abbrev pub invariant-loop-q : goal.invariant-loop-q
invariant-loop-q g l =
    let e = g.E.Element in
    (length l.scratch.sums.now ≡ l.m)
    × Written e.zero (λ p. product_at e.zero e.plus l.m l.self (segments e.zero l.m l.initial.run) ((p - l.self.target * l.m) / l.m) ((p - l.self.target * l.m) % l.m))
    (l.self.target * l.m) l.initial.run l.run (l.self.target * l.m + l.q * l.m)
