use Rattle.std.proofs.Common.{◌≡◌, ℕ, ◌<◌, length, get_or, ◌∙◌, subst, ⊎_elim, arith}
use Rattle.qc.specs.Segments.{summed}
use Rattle.qc.proofs.Rows.{sum_same, group_more, within_group}
use Rattle.qc.proofs.kernel.Summands.write_group.Goals as goal

pub loop-j-preserved : goal.loop-j-preserved
loop-j-preserved g c =
    let e = g.E.Element in
    let m = length c.args.sums.now in
    let j = c.loop-j.j in
    let made = subst (λ n. (s : ℕ) → s < n → get_or c.sum_segment.new.sums s e.zero ≡ summed e.zero e.plus n c.args.self c.loop-j.run j s) c.loop-j.auto.sums c.sum_segment.ensures in
    group_more e.zero (summed e.zero e.plus m c.args.self c.args.run.now) m c.args.from j
    c.args.run.now c.loop-j.run c.write_segment.new.run c.sum_segment.new.sums (c.sum_segment.auto.sums ∙ c.loop-j.auto.sums) c.loop-j.invariant
    (λ s h. made s h ∙ sum_same e.zero e.plus m c.args.from (length c.args.run.now) c.args.self.table.now c.args.self.terms.now c.requires.readable c.requires.apart c.loop-j.run c.args.run.now
    (λ p away. ⊎_elim (λ low. c.loop-j.invariant.before p low) (λ high. c.loop-j.invariant.after p (omega (arith, within_group j m c.loop-j-test.true))) away) j s c.loop-j-test.true h)
    c.write_segment.ensures.before c.write_segment.ensures.made c.write_segment.ensures.rest
