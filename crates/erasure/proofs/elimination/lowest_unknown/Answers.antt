use Rattle.std.proofs.Common.{◌≡◌, ℕ, ◌<◌, ◌≤◌, Option, Some, None, MatchOption, arith, rules}
use Rattle.std.proofs.lemmas.Iterator.{first_from_Range}
use Rattle.element.specs.declared.bits.Bit.TheVariants.{Zero, One}
use Rattle.erasure.specs.Unknowns.{member, Found}
use Rattle.erasure.proofs.elimination.lowest_unknown.Goals as goal

found : (u set : ℕ) (r : Option ℕ) → MatchOption r ((k : ℕ) → 0 ≤ k → k < u → member set k ≡ Zero)
    (λ i. (0 ≤ i) × (i < u) × (member set i ≡ One) × ((k : ℕ) → 0 ≤ k → k < i → member set k ≡ Zero)) → Found u set r
found u set None h = λ k l. h k (omega arith) l
found u set (Some i) h = (h.1, h.2)

pub returns : goal.returns
returns c =
    found c.args.u c.args.unknowns c.find.result
    (first_from_Range _ _ _ c.find.result (λ k. member c.args.unknowns k ≡ One) (λ k. member c.args.unknowns k ≡ Zero) c.find.ensures.ran (λ x q k. search rules) (λ x q k. search rules))
