use Rattle.std.proofs.lemmas.Result.{err_from_is_err_and}
use Rattle.jobsheet.proofs.Stepping.{opening_by, begun}
use Rattle.jobsheet.proofs.opening.read_order.Goals as goal

pub returns-in_err-order : goal.returns-in_err-order
returns-in_err-order c =
    let p = err_from_is_err_and c.from_residual.result c.from_residual.ensures.1 in
    rw (p.1, p.2)
    (opening_by c.args.text.now c.line_at-next.result.0 c.line_at-next.result.1 c.line_at-next.ensures c.if-text-gt-LIMIT.false _ c.read_names.ensures _ c.in_err-order.ensures.value)

pub returns : goal.returns
returns c =
    begun c.args.text.now c.line_at-next.result.0 c.line_at-next.result.1 c.line_at-next.ensures c.if-text-gt-LIMIT.false c.in_ok-order.order
    (opening_by c.args.text.now c.line_at-next.result.0 c.line_at-next.result.1 c.line_at-next.ensures c.if-text-gt-LIMIT.false _ c.read_names.ensures _ c.in_ok-order.ensures.value)
