use Rattle.std.proofs.Common.{◌≡◌, ◌<◌, length, ap, ◌∙◌, ap₂, arith}
use Rattle.std.specs.Option.{is_some}
use Rattle.qc.proofs.Written.{written_more}
use Rattle.erasure.specs.Marks.{form_of}
use Rattle.erasure.proofs.Laying.{laid_made}
use Rattle.erasure.proofs.Ranks.{mark_read, count_few, count_erased, count_known}
use Rattle.erasure.proofs.marks.write_forms.Goals as goal
use Rattle.erasure.proofs.marks.write_forms.Goals.{then-is_none, else-is_none}

pub form_of-requires : goal.form_of-requires
form_of-requires c = λ e. count_few c.args.marks.now c.loop-i.invariant.0 (omega arith) (ap is_some e) c.requires.few

pub overflow_add-k : goal.overflow_add-k
overflow_add-k c = omega (arith, count_few c.args.marks.now c.loop-i.invariant.0 (omega arith) c.if-is_none.ensures c.requires.few)

pub loop-i-preserved : goal.loop-i-preserved
loop-i-preserved c =
    let ms = c.args.marks.now in
    let i = c.loop-i.i in
    let k = c.loop-i.k in
    let low : i < length ms = omega arith in
    let read = mark_read ms i low in
    let so = c.loop-i.invariant in
    let room : i < length c.loop-i.forms = omega (arith, c.requires.room, c.loop-i.auto.forms) in
    let made = written_more c.loop-i.forms i c.form_of.result so.1 (omega arith) room (c.form_of.ensures ∙ ap₂ form_of read so.0) in
    elim c.if-is_none.branch [
      | then-is_none w ↦ rw w.k-is (count_erased ms i k so.0 _ read w.if-is_none.ensures, made)
      | else-is_none w ↦ rw w.k-is (count_known ms i k so.0 _ read w.if-is_none.ensures, made)
    ]

pub returns : goal.returns
returns c =
    let done : c.loop-i.i ≡ length c.args.marks.now = omega arith in
    laid_made c.args.marks.now c.args.forms.now c.requires.room c.loop-i.forms c.loop-i.auto.forms
    (λ i h. c.loop-i.invariant.1.made i (omega arith) (omega arith)) (λ i h. c.loop-i.invariant.1.after i (omega arith))
