use Rattle.std.proofs.Common.{ap, ◌∙◌}
use Rattle.std.proofs.lemmas.Result.{err_from_is_err_and}
use Rattle.jobsheet.specs.JobSteps.{asked, filled}
use Rattle.jobsheet.proofs.Asking.{second_fault, last}
use Rattle.jobsheet.proofs.jobs.read_values.Goals as goal

pub returns-in_err-job-2 : goal.returns-in_err-job-2
returns-in_err-job-2 c =
    let w = c.args.words in
    let a = asked c.blank-blank.result in
    let b = asked c.in_ok-job.job in
    let p = err_from_is_err_and c.from_residual-in_err-job-2.result c.from_residual-in_err-job-2.ensures.1 in
    rw (p.1, p.2)
    (second_fault c.args.order w.first.now w.second.now w.third.now a b
    (c.in_ok-job.ensures ∙ ap (λ n. filled 1 a n w.first.now) c.names-first.ensures.0)
    c.in_err-job-2.field-0.0
    (c.in_err-job-2.ensures ∙ ap (λ n. filled 2 b n w.second.now) c.names-first.ensures.1.0))

pub returns : goal.returns
returns c =
    let w = c.args.words in
    let a = asked c.blank-blank.result in
    let b = asked c.in_ok-job.job in
    let d = asked c.in_ok-job-2.job in
    last c.args.order w.first.now w.second.now w.third.now a b
    (c.in_ok-job.ensures ∙ ap (λ n. filled 1 a n w.first.now) c.names-first.ensures.0)
    d
    (c.in_ok-job-2.ensures ∙ ap (λ n. filled 2 b n w.second.now) c.names-first.ensures.1.0)
    _
    (c.fill-3.ensures ∙ ap (λ n. filled 3 d n w.third.now) c.names-first.ensures.1.1)
