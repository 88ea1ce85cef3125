use Rattle.std.proofs.Common.{refl}
use Rattle.ar4ja.specs.Permutations.{two_thirds_1024}
use Rattle.ar4ja.specs.Rates.{two_thirds_second, two_thirds_third}
use Rattle.ar4ja.specs.Tables.{two_thirds_generator, two_thirds_inverse}
use Rattle.ar4ja.proofs.parameters.two_thirds.Goals as goal

pub returns : goal.returns
unfolding two_thirds_1024 two_thirds_second two_thirds_third two_thirds_generator two_thirds_inverse
returns c = record {
  message_groups = refl;
  segment = refl;
  table = refl;
  first_terms = refl;
  second_terms = refl;
  known_terms = refl;
  message_terms = refl;
  asked_terms = refl;
  closing_terms = refl;
  generator = refl;
  inverse = refl;
}
