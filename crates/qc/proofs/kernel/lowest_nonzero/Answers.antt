use Rattle.std.proofs.Common.{◌≡◌, true, false, sym, rules}
use Rattle.std.proofs.lemmas.Iterator.{YieldsList-from_slice, IsFirst-from_position}
use Rattle.std.proofs.lemmas.List.Elements.{AllWithin-from_all}
use Rattle.std.proofs.lemmas.List.Sums.{AllPass-from_list_all}
use Rattle.qc.proofs.Lowest.{lowest_first}
use Rattle.qc.proofs.kernel.lowest_nonzero.Goals as goal

pub returns-then-all_zero : goal.returns-then-all_zero
returns-then-all_zero g c =
    let e = g.E.Element in
    let sums = c.args.sums.now in
    lowest_first (λ x. e.same x e.zero) e.zero sums _ (AllWithin-from_all (λ x. e.same x e.zero ≡ true) sums (AllPass-from_list_all (λ x. e.same x e.zero) sums (sym c.if-all_zero.ensures)))

pub returns : goal.returns
returns g c =
    let e = g.E.Element in
    lowest_first (λ x. e.same x e.zero) e.zero c.args.sums.now _
    (IsFirst-from_position _ _ c.position.result (λ x. e.same x e.zero ≡ false) (λ x. e.same x e.zero ≡ true) c.position.ensures.ran (YieldsList-from_slice c.args.sums.now cc)
    (λ x q k. let is = c.zero-zero.ensures in search rules)
    (λ x q k. let is = c.zero-zero.ensures in search rules))
