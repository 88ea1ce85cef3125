use Rattle.std.proofs.Common.{◌≡◌, ℕ, ◌+◌, ◌≤◌, true, false, ◌∙◌, subst, mul-le-mul_right, arith}
use Rattle.std.proofs.lemmas.Result.{err_from_is_err_and}
use Rattle.ar4ja.specs.Codes.{shape_of}
use Rattle.erasure.specs.Demands.{Demanded}
use Rattle.erasure.proofs.Solved.{rows_are, rows_part, segment_more, rows_eight}
use Rattle.erasure.proofs.solving.insert_rows.Goals as goal

pub loop-n-preserved : goal.loop-n-preserved
loop-n-preserved c =
    let me = c.args.pivots.now in
    let shape = shape_of c.args.code in
    let rows = c.rows_of_segment.new.rows in
    let i = c.in_ok-insert_all.ensures in
    let made =
    rows_are me.count shape c.args.run.now c.loop-n.n c.loop-n.rows rows
    c.requires.there c.loop-n-test.true (c.loop-n.auto.rows ∙ c.requires.segment) c.rows_of_segment.ensures.after in (
      i.count ∙ c.loop-n.invariant.0,
      segment_more me.count shape c.args.run.now c.loop-n.n rows made me.rows c.loop-n.pivots.rows c.insert_all.new.self.rows c.loop-n.invariant.1
          (subst (λ (u : ℕ). Demanded u c.loop-n.pivots.rows rows c.insert_all.new.self.rows true) c.loop-n.invariant.0 i.demanded),
    )

pub returns-in_err-insert_all-clause-demanded : goal.returns-in_err-insert_all-clause-demanded
returns-in_err-insert_all-clause-demanded c =
    let p = err_from_is_err_and c.from_residual.result c.from_residual.ensures.1 in
    let me = c.args.pivots.now in
    let shape = shape_of c.args.code in
    let rows = c.rows_of_segment.new.rows in
    let made =
    rows_are me.count shape c.args.run.now c.loop-n.n c.loop-n.rows rows
    c.requires.there c.loop-n-test.true (c.loop-n.auto.rows ∙ c.requires.segment) c.rows_of_segment.ensures.after in
    let never : Demanded me.count c.loop-n.pivots.rows rows c.insert_all.new.self.rows false =
    subst (λ (u : ℕ). Demanded u c.loop-n.pivots.rows rows c.insert_all.new.self.rows false) c.loop-n.invariant.0 c.in_err-insert_all.ensures.demanded in
    let far : c.loop-n.n + 1 ≤ 8 = omega (arith, c.loop-n-test.true) in
    let most = mul-le-mul_right shape.m far in
    rw p.1
    (λ s z all.
    let d = rows_part me.count shape c.args.run.now c.loop-n.n rows made s (λ r h. all r (omega (arith, most))) in
    never s (c.loop-n.invariant.1.from s (z, d.0)) d.1)

pub returns-clause-demanded : goal.returns-clause-demanded
returns-clause-demanded c =
    let me = c.args.pivots.now in
    let e : c.loop-n.n ≡ 8 = omega (arith, c.loop-n-test.false, c.loop-n.auto.n-end) in
    rows_eight me.count (shape_of c.args.code) c.args.run.now c.loop-n.n e me.rows c.loop-n.pivots.rows c.loop-n.invariant.1
