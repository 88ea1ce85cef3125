use Rattle.std.proofs.Common.{◌<◌, length, arith}
use Rattle.erasure.proofs.Ranks.{count_erased, count_known}
use Rattle.erasure.proofs.Replacing.{mark_left, fill_few, fill_erased, fill_known}
use Rattle.erasure.proofs.marks.fill_marks.Goals as goal
use Rattle.erasure.proofs.marks.fill_marks.Goals.{then-is_none, else-is_none}

pub bounds-bits-k : goal.bounds-bits-k
bounds-bits-k c = omega (arith, fill_few c.args.marks.now c.args.bits.now c.loop-mark.marks c.loop-mark.mark-index (omega arith) c.loop-mark.invariant.1 c.loop-mark.invariant.0 c.if-is_none.ensures c.loop-mark.auto.marks c.requires.few)

pub overflow_add-k : goal.overflow_add-k
overflow_add-k c = omega (arith, fill_few c.args.marks.now c.args.bits.now c.loop-mark.marks c.loop-mark.mark-index (omega arith) c.loop-mark.invariant.1 c.loop-mark.invariant.0 c.if-is_none.ensures c.loop-mark.auto.marks c.requires.few)

pub loop-mark-preserved : goal.loop-mark-preserved
loop-mark-preserved c =
    let ms = c.args.marks.now in
    let vs = c.loop-mark.marks in
    let i = c.loop-mark.mark-index in
    let k = c.loop-mark.k in
    let low : i < length vs = omega arith in
    let so = c.loop-mark.invariant in
    let read = mark_left ms c.args.bits.now vs i low so.1 in
    elim c.if-is_none.branch [
      | then-is_none w ↦
          rw (w.k-is, w.marks-is) (count_erased ms i k so.0 _ read w.if-is_none.ensures, fill_erased ms c.args.bits.now vs i low so.1 k so.0 w.if-is_none.ensures)
      | else-is_none w ↦
          rw (w.k-is, w.marks-is) (count_known ms i k so.0 _ read w.if-is_none.ensures, fill_known ms c.args.bits.now vs i low so.1 w.if-is_none.ensures)
    ]
