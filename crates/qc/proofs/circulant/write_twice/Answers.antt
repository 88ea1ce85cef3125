use Rattle.std.proofs.Common.{◌≡◌, ℕ, ◌+◌, ◌-◌, ◌%◌, ◌<◌, ◌≤◌, List, ◌++◌, length, get_or, drop, sym, refl, ap, ◌∙◌, mod-eq_of_lt, arith}
use native.Mathlib.Decide.{dec_lt}
use borrow.Rule.Slice.PartMut.{put_mid}
use Rattle.std.proofs.lemmas.List.{get_or_append_left, length-append, length-drop}
use Rattle.qc.proofs.Written.{once_more}
use Rattle.qc.proofs.Reach.{mid_before, mid_made}
use Rattle.qc.proofs.circulant.write_twice.Goals as goal

-- xs over the front half of ys, and then over the back half
twice : {X : Type 0} (xs ys held front back : List X) (d : X) → held ≡ front ++ drop (length xs) ys → front ≡ xs → back ≡ xs → length ys ≡ length xs + length xs
    → (i : ℕ) → i < length xs + length xs → Dec (i < length xs) → get_or (put_mid (length xs) (length held - length xs) held back) i d ≡ get_or xs (i % length xs) d
twice xs ys held front back d is first second long i h dec =
    let m = length xs in
    let whole : length held ≡ m + m = ap length is ∙ length-append front _ ∙ omega (arith, ap length first, length-drop m ys, long) in
    let fits : m + (length held - m) ≤ length held = omega (arith, whole) in
    let half : length back ≡ length held - m = omega (arith, ap length second, whole) in
    go dec fits half (omega (arith, whole, h))
  where
    go : Dec (i < length xs) → length xs + (length held - length xs) ≤ length held → length back ≡ length held - length xs → i - length xs < length held - length xs
        → get_or (put_mid (length xs) (length held - length xs) held back) i d ≡ get_or xs (i % length xs) d
    go (yes low) fits half within =
        mid_before (length xs) _ held back fits half i d low ∙ ap (λ l. get_or l i d) is ∙ get_or_append_left front _ d i (omega (arith, ap length first, low))
        ∙ ap (λ l. get_or l i d) first ∙ ap (λ p. get_or xs p d) (sym (mod-eq_of_lt low))
    go (no high) fits half within =
        let at : length xs + (i - length xs) ≡ i = omega (arith, high) in
        ap (λ p. get_or (put_mid (length xs) (length held - length xs) held back) p d) (sym at)
        ∙ mid_made (length xs) _ held back fits half (i - length xs) d within
        ∙ ap (λ l. get_or l (i - length xs) d) second ∙ ap (λ p. get_or xs p d) (once_more (length xs) i (omega (arith, high)) h)

pub returns : goal.returns
returns g c = λ i h. twice c.args.segment.now c.args.wide.now _ _ _ g.E.Element.zero refl c.copy_from_slice.ensures.after c.copy_from_slice-2.ensures.after c.requires i h (dec_lt i (length c.args.segment.now))
