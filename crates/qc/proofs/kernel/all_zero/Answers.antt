use Rattle.std.proofs.Common.{◌≡◌, Bool, true, false, ◌&&◌, List, [], ◌∷◌, refl, ◌∙◌, rules}
use Rattle.std.specs.List.{fold, list_all}
use Rattle.std.proofs.lemmas.Iterator.{YieldsList-from_slice}
use Rattle.std.proofs.lemmas.Iterator.Consumers.{fold_from_yields_List}
use Rattle.qc.proofs.kernel.all_zero.Goals as goal

-- a fold that goes on past an element that fails
fold_all : {X : Type 0} (test : X → Bool) (b : Bool) (xs : List X) → fold (λ a x. a && test x) b xs ≡ (b && list_all test xs)
fold_all test true [] = refl
fold_all test false [] = refl
fold_all test true (x ∷ xs) = fold_all test (test x) xs
fold_all test false (x ∷ xs) = fold_all test false xs

pub returns : goal.returns
returns g c =
    let e = g.E.Element in
    fold_from_yields_List _ (λ clean x. clean && e.same x e.zero) true c.fold.result c.fold.ensures.ran (YieldsList-from_slice c.args.sums.now cc)
    (λ a x b q k. let is = c.zero-zero.ensures in search rules)
    ∙ fold_all (λ x. e.same x e.zero) true c.args.sums.now
