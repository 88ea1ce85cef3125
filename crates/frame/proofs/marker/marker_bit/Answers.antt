use Rattle.std.proofs.Common.{◌-◌, ◌/◌, ◌%◌, ◌^◌, eqb, sym, ap, ◌∙◌}
use Rattle.std.proofs.lemmas.Bool.{cond-true, cond-false, lt-ltb, le-ltb}
use Rattle.element.specs.declared.bits.Bit.TheVariants.{Zero}
use Rattle.element.specs.Bits.{bit_if}
use Rattle.frame.specs.Marker.{mark, marker_word}
use Rattle.frame.proofs.Marks.{bit_unless}
use Rattle.frame.proofs.marker.marker_bit.Goals as goal
use Rattle.frame.proofs.marker.marker_bit.Goals.{then-i-lt-MARKER_LEN, else-i-lt-MARKER_LEN}

pub returns : goal.returns
unfolding mark marker_word
returns c =
    let i = c.args.i in
    c.from.ensures
    ∙ elim c.if-i-lt-MARKER_LEN.branch [
      | then-i-lt-MARKER_LEN w ↦ ap bit_if w.from-is ∙ bit_unless (eqb (marker_word / 2 ^ (63 - i) % 2) 0) ∙ sym (cond-true _ _ _ (lt-ltb i 64 w.if-i-lt-MARKER_LEN.true))
      | else-i-lt-MARKER_LEN w ↦ (
          let over = le-ltb i 64 w.if-i-lt-MARKER_LEN.false in
          ap bit_if (w.from-is ∙ over) ∙ sym (cond-false _ _ Zero over)
          )
    ]
