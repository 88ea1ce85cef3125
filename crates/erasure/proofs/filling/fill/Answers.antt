use Rattle.std.proofs.Common.{◌∙◌, arith}
use Rattle.std.proofs.lemmas.Result.{err_from_is_err_and}
use Rattle.qc.proofs.Soundness.{sounds}
use Rattle.ar4ja.specs.Codes.{shape_of, shapes_sound}
use Rattle.erasure.specs.Fill.{Fillable}
use Rattle.erasure.proofs.Outcomes.{absent, single, many}
use Rattle.erasure.proofs.filling.fill.Goals as goal

pub returns-in_err-solutions : goal.returns-in_err-solutions
returns-in_err-solutions c =
    let p = err_from_is_err_and c.from_residual.result c.from_residual.ensures.1 in
    let able : Fillable (shape_of c.args.code) c.args.marks.now c.args.forms.now c.args.places.now =
    record { sized = (c.if-marks-block_len.false ∙ c.block_len.ensures, omega arith); room = c.if-places-lt-MOST_UNKNOWNS.false; few = omega arith } in
    let d = absent (sounds _ (shapes_sound c.args.code)) able c.count_erased-erased.ensures c.write_forms.ensures c.check.ensures.after c.in_err-solutions.field-0.0 c.in_err-solutions.ensures in
    rw (p.1, p.2) (assumption d)

pub returns-in-Single : goal.returns-in-Single
returns-in-Single c =
    let able : Fillable (shape_of c.args.code) c.args.marks.now c.args.forms.now c.args.places.now =
    record { sized = (c.if-marks-block_len.false ∙ c.block_len.ensures, omega arith); room = c.if-places-lt-MOST_UNKNOWNS.false; few = omega arith } in
    assumption (single (sounds _ (shapes_sound c.args.code)) able c.count_erased-erased.ensures c.write_forms.ensures c.check.ensures.after c.in-Single.bits (rw c.in-Single.is at c.in_ok-solutions.ensures)
    c.fill_marks.new.marks c.fill_marks.auto.marks c.fill_marks.ensures)

pub returns-in-Several : goal.returns-in-Several
returns-in-Several c =
    let able : Fillable (shape_of c.args.code) c.args.marks.now c.args.forms.now c.args.places.now =
    record { sized = (c.if-marks-block_len.false ∙ c.block_len.ensures, omega arith); room = c.if-places-lt-MOST_UNKNOWNS.false; few = omega arith } in
    assumption (many (sounds _ (shapes_sound c.args.code)) able c.count_erased-erased.ensures c.write_forms.ensures c.check.ensures.after c.in-Several.open c.list_places.result (rw c.in-Several.is at c.in_ok-solutions.ensures)
    c.list_places.new.places c.list_places.auto.places c.list_places.ensures)
