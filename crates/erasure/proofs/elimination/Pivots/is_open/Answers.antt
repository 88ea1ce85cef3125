use Rattle.std.proofs.Common.{ℕ, ◌^◌, ◌<◌, Bool, MatchBool, List, Option, Some, None, sym, subst}
use Rattle.std.specs.Option.{is_some}
use lib.Bits.{bit_xor}
use Rattle.erasure.specs.Unknowns.{Found, Solves, Reduced, pivot}
use Rattle.element.specs.declared.forms.Form.{Form}
use Rattle.erasure.specs.Solutions.{Differ, Settled}
use Rattle.erasure.proofs.Repairing.{settled, undecided}
use Rattle.erasure.proofs.elimination.Pivots.is_open.Goals as goal

told : (u : ℕ) (t : List Form) → Reduced u t → (k : ℕ) → k < u → (r : Option ℕ) → Found u (bit_xor (pivot t k).unknowns (2 ^ k)) r
    → MatchBool (is_some r) (Differ (Solves u t) k) (Settled (Solves u t) k (pivot t k).bit)
told u t red k hk None none = settled u t k hk none
told u t red k hk (Some q) at = undecided u t red k q at.0 at.1

pub returns : goal.returns
returns c =
    let me = c.args.self.now in
    let t = me.rows in
    let k = c.args.k in
    let found : Found me.count (bit_xor (pivot t k).unknowns (2 ^ k)) c.lowest_unknown.result =
    subst (λ (w : ℕ). Found me.count (bit_xor (pivot t k).unknowns w) c.lowest_unknown.result) c.only_unknown.ensures c.lowest_unknown.ensures in
    subst (λ (b : Bool). MatchBool b (Differ (Solves me.count t) k) (Settled (Solves me.count t) k (pivot t k).bit)) (sym c.is_some.ensures) (told me.count t me.reduced k c.requires c.lowest_unknown.result found)
