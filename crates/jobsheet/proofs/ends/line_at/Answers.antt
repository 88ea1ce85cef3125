use Rattle.std.proofs.Common.{refl}
use Rattle.jobsheet.proofs.Stepping.{line_stands}
use Rattle.jobsheet.proofs.ends.line_at.Goals as goal

pub returns : goal.returns
returns c = line_stands c.args.text.now c.args.at c.len_before.result c.requires c.len_before.ensures.count _ refl refl refl _ c.min.ensures
