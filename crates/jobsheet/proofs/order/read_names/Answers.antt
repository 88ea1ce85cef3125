use Rattle.std.proofs.Common.{length, sym, ap, ◌∙◌}
use Rattle.jobsheet.specs.Tokens.{rest}
use Rattle.jobsheet.proofs.Orders.{unread, not_three, first_unnamed, second_unnamed, third_unnamed, arranged}
use Rattle.jobsheet.proofs.order.read_names.Goals as goal

pub returns-in_err-words : goal.returns-in_err-words
returns-in_err-words c =
    let l = c.args.line in
    c.from_residual.ensures ∙ not_three (rest l) (λ e. c.in_err-words.ensures (ap length (unread l c.requires) ∙ e))

pub returns-in_err-first : goal.returns-in_err-first
returns-in_err-first c =
    let l = c.args.line in
    c.from_residual-in_err-first.ensures ∙ first_unnamed (rest l) _ _ _ (sym (unread l c.requires) ∙ c.in_ok-words.ensures) c.in_err-first.ensures

pub returns-in_err-second : goal.returns-in_err-second
returns-in_err-second c =
    let l = c.args.line in
    c.from_residual-in_err-second.ensures ∙ second_unnamed (rest l) _ _ _ (sym (unread l c.requires) ∙ c.in_ok-words.ensures) c.in_err-second.ensures

pub returns-in_err-third : goal.returns-in_err-third
returns-in_err-third c =
    let l = c.args.line in
    c.from_residual-in_err-third.ensures ∙ third_unnamed (rest l) _ _ _ (sym (unread l c.requires) ∙ c.in_ok-words.ensures) c.in_err-third.ensures

pub returns : goal.returns
returns c =
    let l = c.args.line in
    arranged (rest l) _ _ _ (sym (unread l c.requires) ∙ c.in_ok-words.ensures)
    c.in_ok-first.first c.in_ok-second.second c.in_ok-third.third
    c.in_ok-first.ensures c.in_ok-second.ensures c.in_ok-third.ensures c.of-4.result c.of-4.ensures
