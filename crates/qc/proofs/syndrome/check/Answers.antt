use Rattle.std.proofs.Common.{◌≤◌, length, refl, arith}
use Rattle.qc.specs.Shape.{M, whole}
use Rattle.qc.specs.Codeblock.{groups}
use Rattle.qc.proofs.Soundness.{sounds}
use Rattle.qc.proofs.Answered.{left, passes, fewer_fit, joined}
use Rattle.qc.proofs.Tabulated.{tables_hold}
use Rattle.qc.proofs.Codeblocks.{only}
use Rattle.qc.proofs.CodingLaws.{codeblock_reproduced, reproduced_codeblock}
use Rattle.qc.proofs.syndrome.check.Goals as goal

pub whole_as_front-sums : goal.whole_as_front-sums
whole_as_front-sums g c =
    let ok = sounds _ (g.C.QuasiCyclic.lawful c.args.code) in
    let long : 512 ≤ length c.args.run.now = omega (arith, c.if-run-whole_len.false, c.whole_len.ensures, ok.roomy) in
    (omega (arith, ok.short, c.segment.ensures), fewer_fit _ _ 512 _ long c.well_formed.1.0.1)

pub returns-then-run-whole_len-clause-only : goal.returns-then-run-whole_len-clause-only
returns-then-run-whole_len-clause-only g c =
    let shape = g.C.QuasiCyclic.shape c.args.code in
    only g.E.Element.laws shape (sounds shape (g.C.QuasiCyclic.lawful c.args.code)) (groups g.E.Element.zero (M shape) c.args.run.now)

pub returns-clause-after : goal.returns-clause-after
returns-clause-after g c =
    let e = g.E.Element in
    let shape = g.C.QuasiCyclic.shape c.args.code in
    let fits : whole shape ≤ length c.args.run.now = omega (arith, c.if-run-whole_len.false, c.whole_len.ensures) in
    left e.laws shape (sounds shape (g.C.QuasiCyclic.lawful c.args.code)) c.args.run.now fits c.complete.new.run c.complete.ensures _ refl

pub returns-clause-passes : goal.returns-clause-passes
returns-clause-passes g c fits =
    let shape = g.C.QuasiCyclic.shape c.args.code in
    passes g.E.Element.laws shape (sounds shape (g.C.QuasiCyclic.lawful c.args.code)) c.args.run.now fits c.complete.new.run c.complete.ensures _ (grind (arith, c.lowest_failing.ensures))

pub returns-clause-only : goal.returns-clause-only
returns-clause-only g c =
    let shape = g.C.QuasiCyclic.shape c.args.code in
    only g.E.Element.laws shape (sounds shape (g.C.QuasiCyclic.lawful c.args.code)) (groups g.E.Element.zero (M shape) c.args.run.now)

pub returns-clause-coders : goal.returns-clause-coders
returns-clause-coders g c fits =
    let e = g.E.Element in
    let shape = g.C.QuasiCyclic.shape c.args.code in
    let tables = g.C.QuasiCyclic.tables c.args.code in
    let ok = sounds shape (g.C.QuasiCyclic.lawful c.args.code) in
    let hold = tables_hold shape tables (g.C.QuasiCyclic.ruled c.args.code) in
    let run = c.args.run.now in
    joined (returns-clause-passes g c fits)
    (codeblock_reproduced e.laws shape ok tables hold run fits, reproduced_codeblock e.laws shape ok tables hold run fits)
