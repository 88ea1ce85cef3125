use Rattle.std.proofs.Common.{◌≡◌, ℕ, ◌/◌, ◌%◌, ◌<◌, Bool, cond, length, get_or, sym, ap, ◌∙◌, subst}
use Rattle.qc.specs.Codeblock.{block_row}
use Rattle.qc.specs.SegmentRows.{segment_rows}
use Rattle.qc.proofs.Soundness.{sounds}
use Rattle.qc.proofs.RowSegments.{there, rows_made, viewed_segment, rows_sound}
use Rattle.qc.proofs.Views.{View, view_is, read_given}
use Rattle.qc.proofs.check_rows.rows_of_segment.Goals as goal

pub sum_segment-requires-clause-readable : goal.sum_segment-requires-clause-readable
sum_segment-requires-clause-readable g c =
    let shape = g.C.QuasiCyclic.shape c.args.code in
    let ok = sounds shape (g.C.QuasiCyclic.lawful c.args.code) in
    let is = there shape (length c.args.run.now) c.args.n (length c.args.rows.now) (sym c.if-not-has_rows.ensures) in
    (read_given shape ok (block_row shape (c.args.n / 4)) (rows_sound shape ok c.args.n is.below) _ _ _ _ is.fits is.segment c.of-block_row.ensures.table (c.of-block_row.ensures.listed ∙ c.row_terms.ensures)).readable

pub returns-clause-after : goal.returns-clause-after
returns-clause-after g c =
    let e = g.E.Element in
    let shape = g.C.QuasiCyclic.shape c.args.code in
    let run = c.args.run.now in
    let n = c.args.n in
    let rows = c.sum_segment.new.sums in
    let yes_there = sym c.if-not-has_rows.ensures in
    let is = there shape (length run) n (length c.args.rows.now) yes_there in
    rows_made e.laws shape run n rows (c.sum_segment.auto.sums ∙ is.segment)
    (subst (λ (v : View g.row.E.Denot). (s : ℕ) → s < v.m → get_or rows s e.zero ≡ viewed_segment e.zero e.plus v (n % 4) s)
    (view_is shape (block_row shape (n / 4)) _ _ _ run is.segment c.of-block_row.ensures.table (c.of-block_row.ensures.listed ∙ c.row_terms.ensures))
    c.sum_segment.ensures)
    ∙ sym (ap (λ (t : Bool). cond t (segment_rows e.zero e.plus shape run n) c.args.rows.now) yes_there)
