use Rattle.std.proofs.Common.{◌≡◌, ℕ, ◌*◌, true, Ok, ◌∙◌, subst}
use Rattle.qc.specs.Shape.{M}
use Rattle.ar4ja.specs.Codes.{shape_of}
use Rattle.erasure.specs.Unknowns.{Solves}
use Rattle.erasure.specs.Demands.{Adds, RowsZero}
use Rattle.erasure.specs.Solutions.{Means}
use Rattle.erasure.proofs.Reading.{means_same}
use Rattle.erasure.proofs.solving.solve.Goals as goal

pub returns : goal.returns
returns c =
    let shape = shape_of c.args.code in
    let u = c.args.u in
    let made = c.new-pivots in
    let rows = c.insert_rows.new.pivots.rows in
    let all : c.insert_rows.new.pivots.count ≡ u = c.in_ok-insert_rows.ensures.count ∙ made.ensures.count in
    let d : Adds u made.result.rows (RowsZero u shape c.args.run.now (2 * M shape)) rows true =
    subst (λ (n : ℕ). Adds n made.result.rows (RowsZero n shape c.args.run.now (2 * M shape)) rows true) made.ensures.count c.in_ok-insert_rows.ensures.demanded in
    means_same u _ _ (record { to = λ s z. (d.to s z).1; from = λ s z. d.from s (made.ensures.free s, z) })
    (Ok c.solutions.result) (subst (λ (n : ℕ). Means n (Solves n rows) (Ok c.solutions.result)) all c.solutions.ensures)
