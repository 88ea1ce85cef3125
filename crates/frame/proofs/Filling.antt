-- One step of a loop that fills the front of a list, and the byte of eight bits.
use Rattle.std.proofs.Common.{◌≡◌, ℕ, ◌+◌, ◌<◌, List, [], ◌∷◌, ◌++◌, map, length, get_or, drop, set, sym, ap, ◌∙◌, append_assoc, arith, take, ◌-◌, ◌≤◌}
use Rattle.element.proofs.Sizes.{number_same}
use Rattle.element.specs.declared.bits.Bit.{Bit}
use Rattle.element.specs.declared.bits.Bit.TheVariants.{Zero}
use Rattle.element.specs.Bits.{number_of}
use Rattle.outlet.specs.Bytes.{pack}
use Rattle.std.specs.List.{range_with_len}
use Rattle.std.proofs.lemmas.List.FromFn.{map-range_with_len_more, length-map-range_with_len}
use Rattle.std.proofs.lemmas.List.{set_at, drop_more, get_or-take, get_or-drop, length-take, length-take-le, length-drop}

module _ {A : Type 0} (f : ℕ → A) (xs : List A) where
  -- the list with f(0), f(1) and so on for its first i elements
  abbrev pub filled : ℕ → List A
  filled i = map f (range_with_len 0 i) ++ drop i xs

  pub filled_more : (none : A) (i : ℕ) (y : A) → i < length xs → y ≡ f i → set (filled i) i y ≡ filled (i + 1)
  filled_more none i y h e =
      ap (λ (z : List A). set (map f (range_with_len 0 i) ++ z) i y) (drop_more xs i none h)
      ∙ set_at (map f (range_with_len 0 i)) (get_or xs i none) (drop (i + 1) xs) y i (length-map-range_with_len f 0 i)
      ∙ sym (append_assoc (map f (range_with_len 0 i)) (y ∷ []) (drop (i + 1) xs))
      ∙ ap (λ (v : A). (map f (range_with_len 0 i) ++ (v ∷ [])) ++ drop (i + 1) xs) e
      ∙ ap (λ (z : List A). z ++ drop (i + 1) xs) (sym (map-range_with_len_more f 0 i i (omega arith)))

-- the number of eight bits of a list is the byte of them
pub byte_of : (run s : List Bit) (from : ℕ) → from + 8 ≤ length run → s ≡ take (from + 8 - from) (drop from run)
    → number_of (λ i. get_or s i Zero) (length (take 32 s)) ≡ pack (λ j. get_or run (from + j) Zero)
byte_of run s from h is =
    let long : length s ≡ 8 = ap length is ∙ length-take-le (from + 8 - from) (drop from run) (omega (arith, length-drop from run)) ∙ omega arith in
    let short : length (take 32 s) ≡ 8 = omega (arith, length-take 32 s, long) in
    let each = λ (i : ℕ) (k : i < 8).
    ap (λ (z : List Bit). get_or z i Zero) is ∙ get_or-take (from + 8 - from) (drop from run) i Zero (omega arith) ∙ get_or-drop from run i Zero in
    ap (number_of (λ i. get_or s i Zero)) short ∙ number_same (λ i. get_or s i Zero) (λ i. get_or run (from + i) Zero) 8 each ∙ omega arith
