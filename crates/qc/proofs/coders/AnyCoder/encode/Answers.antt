use Rattle.std.proofs.Common.{◌%◌, ap, ◌∙◌, arith, rules}
use Rattle.qc.proofs.Tabulated.{tables_hold}
use Rattle.qc.proofs.CodingLaws.{CodingLaws, coding_laws}
use Rattle.qc.proofs.Soundness.{sounds}
use Rattle.qc.proofs.Answered.{fewer_fit}
use Rattle.qc.proofs.coders.AnyCoder.encode.Given as given
use Rattle.qc.proofs.coders.AnyCoder.encode.Goals as goal

laws : (g : given.Over) (code : g.row.C.Denot) → CodingLaws g.E.Element.zero g.E.Element.plus (g.C.QuasiCyclic.shape code) (g.C.QuasiCyclic.tables code)
laws g code = coding_laws g.E.Element.laws _ (sounds _ (g.C.QuasiCyclic.lawful code)) _ (tables_hold _ _ (g.C.QuasiCyclic.ruled code))

pub returns-then-run-whole_len : goal.returns-then-run-whole_len
returns-then-run-whole_len g c =
    let all = laws g c.args.code in
    record { answer = search rules; after = search rules; coded = λ fits. all.coded _ fits; linear = all.linear; zeros = all.zeros; turns = all.turns }

pub whole_as_slice-new : goal.whole_as_slice-new
whole_as_slice-new g c =
    let roomy = (sounds _ (g.C.QuasiCyclic.lawful c.args.code)).roomy in
    fewer_fit _ _ 512 _ (omega (arith, c.if-run-whole_len.false, c.whole_len.ensures, roomy)) c.well_formed.1.1.0.1

pub whole_as_slice-new-2 : goal.whole_as_slice-new-2
whole_as_slice-new-2 g c =
    let roomy = (sounds _ (g.C.QuasiCyclic.lawful c.args.code)).roomy in
    fewer_fit _ _ 1024 _ (omega (arith, c.if-run-whole_len.false, c.whole_len.ensures, roomy)) c.well_formed.1.1.0.1

pub new-scratch-requires-clause-segment : goal.new-scratch-requires-clause-segment
new-scratch-requires-clause-segment g c =
    let ok = sounds _ (g.C.QuasiCyclic.lawful c.args.code) in
    let hold = tables_hold _ _ (g.C.QuasiCyclic.ruled c.args.code) in
    (omega (arith, c.segment.ensures, ok.some_long), ap (λ m. m % 32) c.segment.ensures ∙ hold.words)

pub new-scratch-requires-clause-room : goal.new-scratch-requires-clause-room
new-scratch-requires-clause-room g c =
    let ok = sounds _ (g.C.QuasiCyclic.lawful c.args.code) in
    omega (arith, c.segment.ensures, ok.short)

pub returns : goal.returns
returns g c =
    let all = laws g c.args.code in
    record { answer = search rules; after = search rules; coded = λ fits. all.coded _ fits; linear = all.linear; zeros = all.zeros; turns = all.turns }
