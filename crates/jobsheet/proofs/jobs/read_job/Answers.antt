use Rattle.std.proofs.Common.{◌∙◌, subst}
use Rattle.std.proofs.lemmas.Result.{err_from_is_err_and}
use Rattle.jobsheet.specs.Tokens.{left, Three}
use Rattle.jobsheet.proofs.Asking.{not_counted, three}
use Rattle.jobsheet.proofs.jobs.read_job.Goals as goal

pub returns-in_err-words : goal.returns-in_err-words
returns-in_err-words c =
    let p = err_from_is_err_and c.from_residual.result c.from_residual.ensures.1 in
    rw (p.1, p.2) (not_counted c.args.order _ _ c.in_err-words.field-0.0 c.words.ensures c.in_err-words.ensures.value)

pub returns : goal.returns
returns c =
    let ws = left c.args.line in
    c.read_values.ensures ∙ three c.args.order ws _ _ _ (subst (λ w. Three w ws) c.in_ok-words.ensures.ok_part c.words.ensures)
