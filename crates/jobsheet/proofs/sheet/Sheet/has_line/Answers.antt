use Rattle.jobsheet.proofs.Answering.{left_is}
use Rattle.jobsheet.proofs.sheet.Sheet.has_line.Goals as goal

pub returns : goal.returns
returns c = left_is c.args.self.now.text.now c.args.self.now.at
