use Rattle.std.proofs.Common.{◌+◌, get_or, sym, ap, ◌∙◌, rules}
use Rattle.qc.proofs.Sums.{total_more}
use Rattle.qc.proofs.Reach.{get_or_part}
use Rattle.qc.proofs.circulant.sums_at.Goals as goal

pub loop-k-preserved : goal.loop-k-preserved
loop-k-preserved g c i h =
    let e = g.E.Element in
    let wide = c.args.wide.now in
    let from = c.args.base + get_or c.args.places.now c.loop-k.k-index 0 in
    c.add_each.ensures i (search rules)
    ∙ ap (e.plus (get_or c.loop-k.sums i e.zero)) (get_or_part from 16 wide i e.zero h)
    ∙ ap (λ x. e.plus x (get_or wide (from + i) e.zero)) (c.loop-k.invariant i h)
    ∙ sym (total_more e.laws (λ k. get_or wide (c.args.base + k + i) e.zero) c.args.places.now c.loop-k.k-index 0 c.loop-k-test.true)
