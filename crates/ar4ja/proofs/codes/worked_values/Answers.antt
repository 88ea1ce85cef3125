use mathlib.Core.Path.{refl}
use Rattle.ar4ja.specs.Permutations.{half_1024, two_thirds_1024, four_fifths_1024}
use Rattle.ar4ja.specs.Worked.{worked}
use Rattle.ar4ja.proofs.codes.worked_values.Goals as goal

pub returns : goal.returns
unfolding worked half_1024 two_thirds_1024 four_fifths_1024
returns c = record { count = refl; agree = refl }
