use Rattle.std.proofs.Common.{◌≡◌, ℕ, ◌+◌, ◌<◌, Bool, true, false, MatchBool, Option, Some, None, sym, ap, ◌∙◌, subst, arith, rules}
use Rattle.std.specs.Option.{is_some}
use Rattle.std.proofs.lemmas.Bool.{false≢true}
use lib.Bits.{bit_or}
use Rattle.element.specs.Forms.{form_zero}
use Rattle.element.specs.declared.bits.Bit.TheVariants.{Zero, One}
use Rattle.erasure.specs.Unknowns.{member, pivot, Solves, Found}
use Rattle.erasure.specs.Solutions.{Differ, Settled}
use Rattle.erasure.proofs.Reading.{Sorted, sorted_closed, sorted_open, several, unique}
use Rattle.erasure.proofs.elimination.Pivots.solutions.Goals as goal
use Rattle.erasure.proofs.elimination.Pivots.solutions.Goals.{then-is_open, else-is_open}

pub loop-k-preserved : goal.loop-k-preserved
loop-k-preserved c =
    let me = c.args.self.now in
    let k = c.loop-k.k in
    let told : Bool → Type 0 = λ b. MatchBool b (Differ (Solves me.count me.rows) k) (Settled (Solves me.count me.rows) k (pivot me.rows k).bit) in
    let made : ℕ → Type 0 = Sorted me.count me.rows (k + 1) in
    elim c.if-is_open.branch [
      | then-is_open w ↦
          subst made (sym (w.open-is ∙ ap (bit_or c.loop-k.open) w.only_unknown-open.ensures))
          (sorted_open me.count me.rows k c.loop-k.open c.loop-k.invariant (subst told w.if-is_open.true c.is_open.ensures))
      | else-is_open w ↦
          subst made (sym w.open-is) (sorted_closed me.count me.rows k c.loop-k.open c.loop-k.invariant (subst told w.if-is_open.false c.is_open.ensures))
    ]

some_found : (u set : ℕ) (r : Option ℕ) → Found u set r → is_some r ≡ true → (k : ℕ) × ((k < u) × (member set k ≡ One))
some_found u set None h e = absurd (false≢true e)
some_found u set (Some k) h e = (k, h)

none_found : (u set : ℕ) (r : Option ℕ) → Found u set r → is_some r ≡ false → (k : ℕ) → k < u → member set k ≡ Zero
none_found u set None h e = h
none_found u set (Some k) h e = absurd (false≢true (sym e))

pub returns-then-is_some : goal.returns-then-is_some
returns-then-is_some c =
    let me = c.args.self.now in
    let at = some_found me.count c.loop-k.open c.lowest_unknown.result c.lowest_unknown.ensures (sym c.if-is_some.ensures) in
    let e : c.loop-k.k ≡ me.count = omega arith in
    several me.count me.rows c.loop-k.open (subst (λ (n : ℕ). Sorted me.count me.rows n c.loop-k.open) e c.loop-k.invariant) at.0 at.1.0 at.1.1

pub returns-else-is_some : goal.returns-else-is_some
returns-else-is_some c =
    let me = c.args.self.now in
    let e : c.loop-k.k ≡ me.count = omega arith in
    unique me.count me.rows me.reduced c.map.result (λ k h. let m = c.map.ensures.items.at k form_zero Zero (omega (arith, me.size)) in let called = m.2 in search rules)
    c.loop-k.open (subst (λ (n : ℕ). Sorted me.count me.rows n c.loop-k.open) e c.loop-k.invariant)
    (none_found me.count c.loop-k.open c.lowest_unknown.result c.lowest_unknown.ensures (sym c.if-is_some.ensures))
