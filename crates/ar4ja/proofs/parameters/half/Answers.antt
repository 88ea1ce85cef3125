use Rattle.std.proofs.Common.{refl}
use Rattle.ar4ja.specs.Permutations.{half_1024}
use Rattle.ar4ja.specs.Rates.{half_second, half_third}
use Rattle.ar4ja.specs.Tables.{half_generator, half_inverse}
use Rattle.ar4ja.proofs.parameters.half.Goals as goal

pub returns : goal.returns
unfolding half_1024 half_second half_third half_generator half_inverse
returns c = record {
  message_groups = refl;
  segment = refl;
  table = refl;
  first_terms = refl;
  second_terms = refl;
  known_terms = refl;
  message_terms = refl;
  asked_terms = refl;
  closing_terms = refl;
  generator = refl;
  inverse = refl;
}
