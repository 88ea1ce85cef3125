use Rattle.std.proofs.Common.{◌+◌, ◌-◌, ◌*◌, ◌∙◌, subst, arith}
use Rattle.qc.specs.Shape.{known}
use Rattle.qc.specs.Segments.{Written}
use Rattle.qc.proofs.Soundness.{sounds}
use Rattle.qc.proofs.Apartness.{known_own, write_given}
use Rattle.qc.proofs.Views.{View, view_is, viewed, made_completed}
use Rattle.qc.proofs.syndrome.complete.Goals as goal

pub write_group-requires : goal.write_group-requires
write_group-requires g c =
    let ok = sounds _ (g.C.QuasiCyclic.lawful c.args.code) in
    write_given _ ok _ _ (known_own _ ok) _ _ _ _ _ c.requires.there c.requires.segment (omega (arith, c.block_len.ensures)) c.of-known.ensures.table (c.of-known.ensures.listed ∙ c.known_terms.ensures)

pub returns : goal.returns
returns g c =
    let e = g.E.Element in
    let shape = g.C.QuasiCyclic.shape c.args.code in
    let ok = sounds shape (g.C.QuasiCyclic.lawful c.args.code) in
    let from = c.block_len.result in
    made_completed e.laws shape ok c.args.run.now c.write_group.new.run from c.requires.there c.write_group.auto.run c.block_len.ensures
    (subst (λ (v : View g.row.E.Denot). Written e.zero (λ p. viewed e.zero e.plus v (p - from)) from c.args.run.now c.write_group.new.run (from + 4 * v.m))
    (view_is shape (known shape) _ _ _ c.args.run.now c.requires.segment c.of-known.ensures.table (c.of-known.ensures.listed ∙ c.known_terms.ensures))
    c.write_group.ensures)
