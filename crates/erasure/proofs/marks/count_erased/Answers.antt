use Rattle.std.proofs.Common.{◌≡◌, ℕ, ◌+◌, Bool, true, false, not, Some, None, refl, sym, ap, ◌∙◌, arith}
use Rattle.std.specs.Option.{is_some}
use Rattle.std.proofs.lemmas.Bool.{false≢true}
use mir.Val.{bool_byte}
use Rattle.erasure.specs.Marks.{Mark, mark_at, rank, gap}
use Rattle.erasure.proofs.Ranks.{gap_le, rank_step, mark_read}
use Rattle.erasure.proofs.marks.count_erased.Goals as goal

-- one more where a mark is erased
told : (m : Mark) (b : Bool) → is_some m ≡ not b → bool_byte b ≡ gap m
told None true e = refl
told None false e = absurd (false≢true e)
told (Some x) true e = absurd (false≢true (sym e))
told (Some x) false e = refl

pub loop-mark-preserved : goal.loop-mark-preserved
loop-mark-preserved c =
    let ms = c.args.marks.now in
    let i = c.loop-mark.mark-index in
    let more = c.from-n.ensures ∙ told _ c.is_none.result c.is_none.ensures ∙ ap gap (mark_read ms i c.loop-mark-test.true) in
    (ap (λ (k : ℕ). k + c.from-n.result) c.loop-mark.invariant.0 ∙ ap (λ (k : ℕ). rank ms i + k) more ∙ sym (rank_step ms i), omega (arith, more, gap_le (mark_at ms i), c.loop-mark.invariant.1))
