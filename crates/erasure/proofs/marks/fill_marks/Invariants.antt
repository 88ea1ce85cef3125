use Rattle.std.proofs.Common.{◌≡◌, Some}
use Rattle.element.specs.declared.bits.Bit.TheVariants.{Zero}
use Rattle.qc.specs.Segments.{Written}
use Rattle.erasure.specs.Marks.{rank}
use Rattle.erasure.proofs.Replacing.{filled_at}
use Rattle.erasure.proofs.marks.fill_marks.Given as goal

abbrev pub invariant-loop-mark : goal.invariant-loop-mark
invariant-loop-mark l =
    (l.k ≡ rank l.initial.marks l.mark-index) × Written (Some Zero) (filled_at l.initial.marks l.bits) 0 l.initial.marks l.marks l.mark-index
