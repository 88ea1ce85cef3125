use Rattle.std.proofs.Common.{ℕ, true, false, ◌∙◌, subst, arith}
use Rattle.std.proofs.lemmas.Result.{err_from_is_err_and}
use Rattle.erasure.specs.Demands.{Inserted}
use Rattle.erasure.specs.Unknowns.{pivot}
use Rattle.erasure.proofs.Inserting.{zeros_more}
use Rattle.erasure.proofs.elimination.Pivots.insert_all.Goals as goal

pub loop-form-preserved : goal.loop-form-preserved
loop-form-preserved c =
    let me = c.args.self.now in
    let i = c.in_ok-insert.ensures in
    let at : Inserted me.count c.loop-form.self.rows (pivot c.args.forms.now c.loop-form.form-index) c.insert.new.self.rows true =
    subst (λ (u : ℕ). Inserted u c.loop-form.self.rows (pivot c.args.forms.now c.loop-form.form-index) c.insert.new.self.rows true) c.loop-form.invariant.0 i.inserted in
    (i.count ∙ c.loop-form.invariant.0, zeros_more me.count me.rows c.loop-form.self.rows c.insert.new.self.rows c.args.forms.now c.loop-form.form-index c.loop-form.invariant.1 at)

pub returns-in_err-insert-clause-demanded : goal.returns-in_err-insert-clause-demanded
returns-in_err-insert-clause-demanded c =
    let p = err_from_is_err_and c.from_residual.result c.from_residual.ensures.1 in
    let me = c.args.self.now in
    let never : Inserted me.count c.loop-form.self.rows (pivot c.args.forms.now c.loop-form.form-index) c.insert.new.self.rows false =
    subst (λ (u : ℕ). Inserted u c.loop-form.self.rows (pivot c.args.forms.now c.loop-form.form-index) c.insert.new.self.rows false) c.loop-form.invariant.0 c.in_err-insert.ensures.inserted in
    rw p.1 (λ s z all. never s (c.loop-form.invariant.1.from s (z, (λ j h. all j (omega arith)))) (all c.loop-form.form-index (omega arith)))
