-- The block as marked, as forms.
use Rattle.std.proofs.Common.{◌≡◌, ℕ, ◌+◌, ◌-◌, ◌<◌, ◌≤◌, List, length, get_or, drop, sym, ap, ◌∙◌, arith}
use native.Mathlib.Decide.{dec_lt}
use Rattle.std.proofs.lemmas.List.FromFn.{length-map-range_with_len, get_or-map-range_with_len}
use Rattle.std.proofs.lemmas.List.{length-append, length-drop, get_or_append_left, get_or-append_right, get_or-drop, ext_get_or}
use Rattle.element.specs.declared.forms.Form.{Form}
use Rattle.element.specs.Forms.{form_zero}
use Rattle.erasure.specs.Marks.{Mark, form_at, marked_forms, laid}

module _ (ms : List Mark) where
  pub marked_length : length (marked_forms ms) ≡ length ms
  marked_length = length-map-range_with_len (form_at ms) 0 (length ms)

  pub marked_at : (i : ℕ) → i < length ms → get_or (marked_forms ms) i form_zero ≡ form_at ms i
  marked_at i h = get_or-map-range_with_len (form_at ms) 0 (length ms) i i form_zero h (omega arith)

  module _ (xs : List Form) (room : length ms ≤ length xs) where
    pub laid_length : length (laid ms xs) ≡ length xs
    unfolding laid
    laid_length = omega (arith, length-append (marked_forms ms) (drop (length ms) xs), marked_length, length-drop (length ms) xs)

    pub laid_front : (i : ℕ) → i < length ms → get_or (laid ms xs) i form_zero ≡ form_at ms i
    unfolding laid
    laid_front i h = get_or_append_left (marked_forms ms) _ form_zero i (omega (arith, marked_length)) ∙ marked_at i h

    laid_rest : (i : ℕ) → length ms ≤ i → get_or (laid ms xs) i form_zero ≡ get_or xs i form_zero
    unfolding laid
    laid_rest i h =
        let on : length ms + (i - length ms) ≡ i = omega arith in
        get_or-append_right (marked_forms ms) _ (length ms) i form_zero marked_length h ∙ get_or-drop (length ms) xs (i - length ms) form_zero ∙ ap (λ k. get_or xs k form_zero) on

    -- a loop that wrote the forms of the marks made the laid list
    pub laid_made : (ys : List Form) → length ys ≡ length xs → ((i : ℕ) → i < length ms → get_or ys i form_zero ≡ form_at ms i)
        → ((i : ℕ) → length ms ≤ i → get_or ys i form_zero ≡ get_or xs i form_zero) → ys ≡ laid ms xs
    laid_made ys long front rest = ext_get_or form_zero ys (laid ms xs) (long ∙ sym laid_length) (λ i h. go i (dec_lt i (length ms)))
      where
        go : (i : ℕ) → Dec (i < length ms) → get_or ys i form_zero ≡ get_or (laid ms xs) i form_zero
        go i (yes low) = front i low ∙ sym (laid_front i low)
        go i (no high) = rest i (omega arith) ∙ sym (laid_rest i (omega arith))
