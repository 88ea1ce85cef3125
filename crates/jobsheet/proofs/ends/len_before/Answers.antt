use Rattle.std.proofs.Common.{◌≡◌, ℕ, true, false, eqb, sym, refl, ◌∙◌, rules}
use borrow.Author.Tests.{tests}
use Rattle.std.specs.List.{prefix_len}
use Rattle.std.proofs.lemmas.Iterator.{YieldsList-from_slice, IsFirst-from_position, index_from_first}
use Rattle.jobsheet.specs.Splitting.{apart}
use Rattle.jobsheet.proofs.Splitting.{stops, goes_on}
use Rattle.jobsheet.proofs.ends.len_before.Goals as goal

pub returns-clause-count : goal.returns-clause-count
returns-clause-count c =
    let s = c.args.separator in
    let Yes : ℕ → Type 0 = λ b. eqb b s ≡ true in
    let No : ℕ → Type 0 = λ b. eqb b s ≡ false in
    c.unwrap_or.ensures
    ∙ sym (index_from_first (prefix_len (apart s)) Yes No refl (stops s) (goes_on s) c.args.bytes.now _
    (IsFirst-from_position _ _ _ Yes No c.position.ensures.ran (YieldsList-from_slice c.args.bytes.now cc) (λ x q k. search (rules, tests)) (λ x q k. search (rules, tests))))
