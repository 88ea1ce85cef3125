use Rattle.std.proofs.Common.{◌≡◌, ◌*◌, ◌/◌, length, ap, ◌∙◌, subst, ap₂, arith}
use Rattle.qc.specs.Coding.{encoded}
use Rattle.qc.specs.Codeblock.{completed}
use Rattle.qc.proofs.Soundness.{sounds}
use Rattle.qc.proofs.Tabulated.{tables_hold}
use Rattle.qc.proofs.ByTable.{given_as, Produced, made_by_table}
use Rattle.qc.proofs.coders.TableCoderEncoding.encode_block.Goals as goal

pub write-requires-clause-table : goal.write-requires-clause-table
write-requires-clause-table g c =
    let hold = tables_hold _ _ (g.C.QuasiCyclic.ruled c.args.code) in
    let is = ap₂ (λ k m. 4 * k * 8 * (m / 32)) c.message_groups-segments.ensures c.requires.room in
    omega (arith, is, hold.generator_long, ap length c.generator.ensures)

pub returns : goal.returns
unfolding encoded
returns g c =
    let e = g.E.Element in
    let shape = g.C.QuasiCyclic.shape c.args.code in
    let tables = g.C.QuasiCyclic.tables c.args.code in
    let ok = sounds shape (g.C.QuasiCyclic.lawful c.args.code) in
    let run = c.args.run.now in
    let is : given_as (length c.args.scratch.now.sums.now) c.generator.result.now (4 * c.message_groups-segments.result) ≡ given_as shape.m tables.generator (4 * shape.K) =
    λ i. given_as (c.requires.room i) (c.generator.ensures i) (4 * c.message_groups-segments.ensures i) in
    c.complete.ensures
    ∙ ap (completed e.zero e.plus shape)
    (made_by_table e.laws shape ok tables run c.write.new.run c.requires.there c.write.auto.run
    (subst (Produced e.zero e.plus run c.write.new.run) is c.write.ensures.made))
