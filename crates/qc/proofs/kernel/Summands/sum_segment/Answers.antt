use Rattle.std.proofs.Common.{◌≡◌, ℕ, ◌+◌, ◌<◌, length, get_or, take, sym, ap, ◌∙◌, subst}
use Rattle.qc.specs.declared.terms.Term.{Term}
use Rattle.qc.specs.Segments.{segments, term_at, segment_sum}
use Rattle.qc.proofs.Sums.{total_more}
use Rattle.qc.proofs.kernel.Summands.sum_segment.Goals as goal

abbrev no_term : Term
no_term = record { permutation = 0; group = 0 }

pub loop-t-preserved : goal.loop-t-preserved
loop-t-preserved g c =
    let e = g.E.Element in
    let k = c.loop-t.t-index in
    let terms = c.args.self.terms.now in
    subst (λ m. (s : ℕ) → s < m → get_or c.add_term.new.sums s e.zero ≡ segment_sum e.zero e.plus m c.args.self.table.now (take (k + 1) terms) (segments e.zero m c.args.run.now) c.args.j s)
    (sym c.add_term.auto.sums)
    (λ s h.
    let m = length c.loop-t.sums in
    let f = term_at m c.args.self.table.now (segments e.zero m c.args.run.now) c.args.j s in
    c.add_term.ensures s h ∙ ap (λ x. e.plus x (f (get_or terms k no_term))) (c.loop-t.invariant s h) ∙ sym (total_more e.laws f terms k no_term c.loop-t-test.true))
