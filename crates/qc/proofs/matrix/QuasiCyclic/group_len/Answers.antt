use Rattle.std.proofs.Common.{rules}
use Rattle.qc.proofs.Soundness.{sounds}
use Rattle.qc.proofs.matrix.QuasiCyclic.group_len.Goals as goal

pub overflow_mul-result : goal.overflow_mul-result
overflow_mul-result g c =
    let short = (sounds _ (g.Self.QuasiCyclic.lawful c.args.self)).short in
    search rules
