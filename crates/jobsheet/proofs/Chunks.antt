-- One step of a loop over four bits at a time.
use Rattle.std.proofs.Common.{◌≡◌, ℕ, ◌+◌, ◌*◌, ◌<◌, ◌≤◌, List, ◌++◌, length, get_or, drop, sym, ap, ◌∙◌, ap₂, add-zero, arith, length-append, length-drop}
use Rattle.std.proofs.lemmas.List.{get_or_append_left, get_or-drop, drop-drop, drop_at}
use Rattle.element.specs.declared.bits.Bit.{Bit}
use Rattle.element.specs.declared.bits.Bit.TheVariants.{Zero}
use Rattle.jobsheet.specs.Parity.{hex_digit, nibble, digit_at}

-- what is left of xs behind its first k fours is one more, and the rest
module _ (xs four more : List Bit) (k : ℕ) (e : drop (4 * k) xs ≡ four ++ more) (long : length four ≡ 4) where
  pub four_fits : 4 * k + 4 ≤ length xs
  four_fits = omega (arith, ap length e, length-append four more, length-drop (4 * k) xs)

  pub rest_behind : more ≡ drop (4 * (k + 1)) xs
  rest_behind =
      let on : 4 * k + 4 ≡ 4 * (k + 1) = omega arith in
      sym (drop_at four more 4 long) ∙ ap (drop 4) (sym e) ∙ drop-drop 4 (4 * k) xs ∙ ap (λ n. drop n xs) on

  place : (i : ℕ) → i < 4 → get_or four i Zero ≡ get_or xs (4 * k + i) Zero
  place i h = sym (get_or_append_left four more Zero i (omega arith)) ∙ ap (λ l. get_or l i Zero) (sym e) ∙ get_or-drop (4 * k) xs i Zero

  pub digit_of_four : hex_digit (nibble (get_or four 0 Zero) (get_or four 1 Zero) (get_or four 2 Zero) (get_or four 3 Zero)) ≡ digit_at (λ i. get_or xs i Zero) k
  unfolding digit_at
  digit_of_four =
      ap₂ (λ p q. hex_digit (nibble p q (get_or four 2 Zero) (get_or four 3 Zero))) (place 0 (omega arith) ∙ ap (λ n. get_or xs n Zero) (add-zero (4 * k))) (place 1 (omega arith))
      ∙ ap₂ (λ r s. hex_digit (nibble (get_or xs (4 * k) Zero) (get_or xs (4 * k + 1) Zero) r s)) (place 2 (omega arith)) (place 3 (omega arith))
