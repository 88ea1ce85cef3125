use Rattle.std.proofs.Common.{◌≡◌}
use Rattle.element.specs.Forms.{form_zero}
use Rattle.qc.specs.Segments.{Written}
use Rattle.erasure.specs.Marks.{rank, form_at}
use Rattle.erasure.proofs.marks.write_forms.Given as goal

abbrev pub invariant-loop-i : goal.invariant-loop-i
invariant-loop-i l =
    (l.k ≡ rank l.marks l.i) × Written form_zero (form_at l.marks) 0 l.initial.forms l.forms l.i
