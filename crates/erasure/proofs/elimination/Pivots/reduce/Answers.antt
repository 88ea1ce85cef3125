use Rattle.std.proofs.Common.{◌<◌, sym, ◌∙◌, subst, ap, arith}
use Rattle.std.proofs.lemmas.List.{get_or-take}
use Rattle.element.specs.Forms.{form_zero, form_plus}
use Rattle.erasure.specs.Unknowns.{Cleared}
use Rattle.erasure.proofs.elimination.Pivots.reduce.Goals as goal
use Rattle.erasure.proofs.elimination.Pivots.reduce.Goals.{then-holds, else-holds}
use Rattle.erasure.proofs.Pivoting.{cleared_kept, cleared_more}

pub loop-p-preserved : goal.loop-p-preserved
loop-p-preserved c =
    let me = c.args.self.now in
    let low : c.loop-p.p < me.count = omega arith in
    elim c.if-holds.branch [
      | then-holds w ↦
          subst (Cleared me.count _ me.rows c.args.form) (sym (w.left-is ∙ w.plus-left.ensures ∙ ap (form_plus c.loop-p.left) (get_or-take me.count me.rows c.loop-p.p form_zero low)))
          (cleared_more me.count me.rows me.reduced _ _ _ low c.loop-p.invariant (c.holds.ensures.in_set w.if-holds.true))
      | else-holds w ↦
          subst (Cleared me.count _ me.rows c.args.form) (sym w.left-is)
          (cleared_kept me.count me.rows me.reduced _ _ _ low c.loop-p.invariant (c.holds.ensures.not_in_set w.if-holds.false))
    ]
