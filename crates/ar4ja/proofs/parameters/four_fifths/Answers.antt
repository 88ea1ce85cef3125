use Rattle.std.proofs.Common.{refl}
use Rattle.ar4ja.specs.Permutations.{four_fifths_1024}
use Rattle.ar4ja.specs.Rates.{four_fifths_second, four_fifths_third}
use Rattle.ar4ja.specs.Tables.{four_fifths_generator, four_fifths_inverse}
use Rattle.ar4ja.proofs.parameters.four_fifths.Goals as goal

pub returns : goal.returns
unfolding four_fifths_1024 four_fifths_second four_fifths_third four_fifths_generator four_fifths_inverse
returns c = record {
  message_groups = refl;
  segment = refl;
  table = refl;
  first_terms = refl;
  second_terms = refl;
  known_terms = refl;
  message_terms = refl;
  asked_terms = refl;
  closing_terms = refl;
  generator = refl;
  inverse = refl;
}
