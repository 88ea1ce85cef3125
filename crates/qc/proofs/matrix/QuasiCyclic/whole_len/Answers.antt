use Rattle.std.proofs.Common.{◌+◌, ◌*◌, ap₂, arith, rules}
use Rattle.qc.proofs.Soundness.{sounds, groups_small}
use Rattle.qc.proofs.matrix.QuasiCyclic.whole_len.Goals as goal

pub overflow_add-result : goal.overflow_add-result
overflow_add-result g c =
    let few = (sounds _ (g.Self.QuasiCyclic.lawful c.args.self)).few in
    search rules

pub overflow_mul-result : goal.overflow_mul-result
overflow_mul-result g c =
    let small = groups_small _ (sounds _ (g.Self.QuasiCyclic.lawful c.args.self)) 3 (omega arith) in
    let is = ap₂ (λ k m. (k + 3) * m) c.message_groups.ensures c.group_len.ensures in
    search rules
