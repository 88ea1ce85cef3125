use Rattle.std.proofs.Common.{◌≡◌, ℕ, ◌+◌, ◌*◌, ◌<◌, ◌≤◌, length, get_or, ◌∙◌, subst, add-mul, arith}
use Rattle.qc.specs.Segments.{segments}
use Rattle.qc.specs.Coding.{first_row}
use Rattle.qc.specs.Product.{product_at}
use Rattle.qc.proofs.Reach.{held}
use Rattle.qc.proofs.Rows.{group_more}
use Rattle.qc.proofs.Sums.{sum_ext}
use Rattle.qc.proofs.FirstRows.{act_same}
use Rattle.qc.proofs.circulant.Product.write.Goals as goal

pub loop-q-preserved : goal.loop-q-preserved
loop-q-preserved g c =
    let e = g.E.Element in
    let p = c.args.self in
    let m = length c.args.scratch.now.sums.now in
    let q = c.loop-q.q in
    let words = c.args.self.words.now in
    let sums = c.sum_target.new.scratch.sums.now in
    let at = add-mul p.target q m in
    let long = c.sum_target.ensures.kept ∙ c.loop-q.invariant.0 in
    let made = subst (λ n. (s : ℕ) → s < n → get_or sums s e.zero ≡ product_at e.zero e.plus n p (segments e.zero n c.loop-q.run) q s) c.loop-q.invariant.0 c.sum_target.ensures.made in
    let before = subst (λ n. (i : ℕ) → i < n → get_or c.write_segment.new.run i e.zero ≡ get_or c.loop-q.run i e.zero) at c.write_segment.ensures.before in
    let here = subst (λ n. (i : ℕ) → i < length sums → get_or c.write_segment.new.run (n + i) e.zero ≡ get_or sums i e.zero) at c.write_segment.ensures.made in
    let rest = subst (λ n. (i : ℕ) → n + length sums ≤ i → get_or c.write_segment.new.run i e.zero ≡ get_or c.loop-q.run i e.zero) at c.write_segment.ensures.rest in (
      long,
      group_more e.zero (product_at e.zero e.plus m p (segments e.zero m c.args.run.now)) m (p.target * m) q
          c.args.run.now c.loop-q.run c.write_segment.new.run sums long c.loop-q.invariant.1
          (λ s h. made s h ∙ sum_ext e.laws p.sources _ _ (λ r hr.
          act_same e.laws m (first_row m words (p.targets * r + q)) _ _ s (λ i hi.
          let lt : p.source + r < p.target = omega (arith, c.requires.apart) in
          let low = (held (p.source + r) p.target m (p.target * m) lt c.args.scratch.now.some (omega arith)).part in
          c.loop-q.invariant.1.before ((p.source + r) * m + i) (omega (arith, low)))))
          before here rest,
    )
