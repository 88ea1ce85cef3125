use Rattle.std.proofs.Common.{◌∙◌}
use Rattle.jobsheet.proofs.Recognised.{coder_told}
use Rattle.jobsheet.proofs.values.coder_value.Goals as goal

pub returns : goal.returns
returns c = c.ok_or.ensures.value ∙ coder_told _ _ c.of.ensures
