use Rattle.std.proofs.Common.{◌≡◌, ℕ, ◌*◌, ◌<◌, length, get_or, sym, ◌∙◌, subst, mul-le-mul_right, arith, rules}
use Rattle.qc.specs.Segments.{summed}
use Rattle.qc.proofs.Lowest.{all_none, found_at}
use Rattle.qc.proofs.Rows.{row_none, row_found, within_group}
use Rattle.qc.proofs.kernel.Summands.lowest_row.Goals as goal

pub overflow_add-result : goal.overflow_add-result
overflow_add-result g c =
    let m = length c.args.sums.now in
    let e = g.E.Element in
    let at = found_at (λ s. e.same (get_or c.sum_segment.new.sums s e.zero) e.zero) (length c.sum_segment.new.sums) c.in-Some.s (sym c.in-Some.ensures) in
    let low : c.in-Some.s < m = omega (arith, at.0, c.sum_segment.auto.sums, c.loop-j.auto.sums) in
    let top = within_group c.loop-j.j m c.loop-j-test.true in
    let few = c.requires.short in
    search rules

pub returns-in-Some : goal.returns-in-Some
returns-in-Some g c =
    let e = g.E.Element in
    let m = length c.args.sums.now in
    let made = subst (λ n. (s : ℕ) → s < n → get_or c.sum_segment.new.sums s e.zero ≡ summed e.zero e.plus n c.args.self c.args.run.now c.loop-j.j s) c.loop-j.auto.sums c.sum_segment.ensures in
    sym (row_found e.zero e.same m (summed e.zero e.plus m c.args.self c.args.run.now) c.loop-j.j
    c.sum_segment.new.sums (c.sum_segment.auto.sums ∙ c.loop-j.auto.sums) made c.loop-j.invariant c.in-Some.s c.loop-j-test.true (sym c.in-Some.ensures))

pub loop-j-preserved : goal.loop-j-preserved
loop-j-preserved g c =
    let e = g.E.Element in
    let m = length c.args.sums.now in
    let made = subst (λ n. (s : ℕ) → s < n → get_or c.sum_segment.new.sums s e.zero ≡ summed e.zero e.plus n c.args.self c.args.run.now c.loop-j.j s) c.loop-j.auto.sums c.sum_segment.ensures in
    row_none e.zero e.same m (summed e.zero e.plus m c.args.self c.args.run.now) c.loop-j.j
    c.sum_segment.new.sums (c.sum_segment.auto.sums ∙ c.loop-j.auto.sums) made c.loop-j.invariant (sym c.in_default.ensures)

pub returns : goal.returns
returns g c =
    let m = length c.args.sums.now in
    let far = mul-le-mul_right m c.loop-j-test.false in
    sym (all_none _ (4 * m) (λ i h. c.loop-j.invariant i (omega (arith, far))))
