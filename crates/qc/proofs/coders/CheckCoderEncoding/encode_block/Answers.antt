use Rattle.std.proofs.Common.{◌≡◌, ◌+◌, ◌*◌, List, length, ap, ◌∙◌, subst, ap₂, arith}
use Rattle.qc.specs.Shape.{permutations, asked, closing}
use Rattle.qc.specs.Terms.{terms}
use Rattle.qc.specs.Segments.{segments, segment_sum}
use Rattle.qc.proofs.Soundness.{sounds}
use Rattle.qc.proofs.Tabulated.{tables_hold}
use Rattle.qc.proofs.Apartness.{message_own, asked_own, closing_own, write_given}
use Rattle.qc.proofs.SegmentWrites.{SegmentsWritten, group_written, factors, Multiplied, product_written}
use Rattle.qc.proofs.ByRows.{made_by_rows}
use Rattle.qc.proofs.coders.CheckCoderEncoding.encode_block.Goals as goal

pub write_group-requires : goal.write_group-requires
write_group-requires g c =
    let ok = sounds _ (g.C.QuasiCyclic.lawful c.args.code) in
    write_given _ ok _ _ (message_own _ ok) _ _ _ _ _ c.requires.there c.requires.room (omega (arith, c.block_len.ensures)) c.of-message.ensures.table (c.of-message.ensures.listed ∙ c.message_terms.ensures)

pub write_group-requires-2 : goal.write_group-requires-2
write_group-requires-2 g c =
    let ok = sounds _ (g.C.QuasiCyclic.lawful c.args.code) in
    let parity = ap₂ (λ k m. k * m) c.message_groups-groups.ensures c.group_len.ensures in
    write_given _ ok _ _ (asked_own _ ok) _ _ _ _ _ (omega (arith, c.requires.there)) (omega (arith, c.requires.room)) (omega (arith, parity)) c.of-asked.ensures.table (c.of-asked.ensures.listed ∙ c.asked_terms.ensures)

pub write-requires-clause-table : goal.write-requires-clause-table
write-requires-clause-table g c =
    let hold = tables_hold _ _ (g.C.QuasiCyclic.ruled c.args.code) in
    omega (arith, hold.inverse_long, ap length c.inverse.ensures)

pub write_group-requires-3 : goal.write_group-requires-3
write_group-requires-3 g c =
    let ok = sounds _ (g.C.QuasiCyclic.lawful c.args.code) in
    let parity = ap₂ (λ k m. k * m) c.message_groups-groups.ensures c.group_len.ensures in
    write_given _ ok _ _ (closing_own _ ok) _ _ _ _ _ (omega (arith, c.requires.there)) (omega (arith, c.requires.room)) (omega (arith, parity)) c.of-closing.ensures.table (c.of-closing.ensures.listed ∙ c.closing_terms.ensures)

pub returns : goal.returns
returns g c =
    let e = g.E.Element in
    let shape = g.C.QuasiCyclic.shape c.args.code in
    let tables = g.C.QuasiCyclic.tables c.args.code in
    let ok = sounds shape (g.C.QuasiCyclic.lawful c.args.code) in
    let hold = tables_hold shape tables (g.C.QuasiCyclic.ruled c.args.code) in
    let r0 = c.args.run.now in
    let r1 = c.write_group.new.run in
    let r2 = c.write_group-2.new.run in
    let r3 = c.write.new.run in
    let r5 = c.write_group-3.new.run in
    let m1 = c.requires.room in
    let m2 = c.write_group.auto.sums ∙ m1 in
    let m3 = c.write_group-2.auto.sums ∙ m2 in
    let m5 = c.complete.auto.sums ∙ c.write.ensures.kept ∙ m3 in
    let k = c.message_groups-groups.ensures in
    let low = ap₂ (λ k m. k * m) k c.group_len.ensures in
    let next : 4 * c.message_groups-groups.result + 4 ≡ 4 * (shape.K + 1) = omega (arith, k) in
    let is : factors (length c.write_group-2.new.sums) c.inverse.result.now (4 * c.message_groups-groups.result) (4 * c.message_groups-groups.result + 4) ≡ factors shape.m tables.inverse (4 * shape.K) (4 * (shape.K + 1)) =
    λ i. factors (m3 i) (c.inverse.ensures i) (4 * k i) (next i) in
    made_by_rows e.laws shape ok tables hold r0 r1 r2 r3 r5 c.requires.there
    c.write_group.auto.run c.write_group-2.auto.run c.write.auto.run (c.write_group-3.auto.run ∙ ap length c.complete.ensures)
    (group_written e.zero e.plus shape shape.u3 (shape.K + 2) _ _ _ r0 r1 _ m1 c.of-message.ensures.table (c.of-message.ensures.listed ∙ c.message_terms.ensures) c.block_len.ensures c.write_group.ensures)
    (group_written e.zero e.plus shape (asked shape) shape.K _ _ _ r1 r2 _ m2 c.of-asked.ensures.table (c.of-asked.ensures.listed ∙ c.asked_terms.ensures) low c.write_group-2.ensures)
    (product_written e.zero e.plus (factors shape.m tables.inverse (4 * shape.K) (4 * (shape.K + 1))) r2 r3 (subst (Multiplied e.zero e.plus r2 r3) is c.write.ensures.made))
    (subst (λ (l : List g.row.E.Denot). SegmentsWritten e.zero shape.m (segment_sum e.zero e.plus shape.m (permutations shape) (terms (closing shape)) (segments e.zero shape.m l)) (4 * shape.K) l r5 4) c.complete.ensures
    (group_written e.zero e.plus shape (closing shape) shape.K _ _ _ c.complete.new.run r5 _ m5 c.of-closing.ensures.table (c.of-closing.ensures.listed ∙ c.closing_terms.ensures) low c.write_group-3.ensures))
