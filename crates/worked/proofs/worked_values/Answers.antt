use mathlib.Core.Path.{refl}
use Rattle.element.specs.Bits.{bit_laws}
use Rattle.qc.proofs.CodingLaws.{zero_block}
use Rattle.qc.proofs.Soundness.{sounds}
use Rattle.qc.proofs.Tabulated.{tables_hold}
use Rattle.ar4ja.specs.Codes.{shape_of, shapes_sound, tables_of, tables_ruled}
use Rattle.ar4ja.specs.Permutations.{half_1024, two_thirds_1024, four_fifths_1024}
use Rattle.ar4ja.specs.Worked.{worked as of_codes}
use Rattle.outlet.specs.Sequence.{s, byte_from}
use Rattle.frame.specs.Marker.{mark, marker_word}
use Rattle.worked.specs.Worked.{worked}
use Rattle.worked.proofs.worked_values.Goals as goal

pub returns : goal.returns
unfolding worked of_codes byte_from half_1024 two_thirds_1024 four_fifths_1024 s mark marker_word
returns c = record {
  count = refl;
  agree = refl;
  zeros = λ code. zero_block bit_laws (shape_of code) (sounds (shape_of code) (shapes_sound code)) (tables_of code) (tables_hold (shape_of code) (tables_of code) (tables_ruled code));
}
