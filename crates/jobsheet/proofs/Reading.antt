-- The words of a line, token by token.
use Rattle.std.proofs.Common.{◌≡◌, ℕ, suc, ◌+◌, ◌-◌, ◌≤◌, cond, ltb, List, [], ◌∷◌, length, take, drop, sym, ap, ◌∙◌, subst, ap₂, inl, inr, arith}
use Rattle.std.specs.List.{prefix_len}
use Rattle.std.proofs.lemmas.Bool.{cases_lt, cond-true, cond-false, lt-ltb, le-ltb, le-leb, lt-leb}
use Rattle.std.proofs.lemmas.List.Sums.{prefix_len-le-length}
use Rattle.std.proofs.lemmas.List.{length-take-le, length-drop, take-take, drop-take, drop-drop}
use Rattle.jobsheet.specs.Text.{words}
use Rattle.jobsheet.specs.Splitting.{apart, words_from}
use Rattle.jobsheet.proofs.Splitting.{words_step}

-- a word that stands at a place of a line
pub record WordAt (text : List ℕ) (from end : ℕ) (w : List ℕ) : Type 0 where
  pub there : w ≡ take (length w) (drop from text)
  pub next : words_from text from end ≡ w ∷ words_from text (from + length w + 1) end
  pub within : from + length w ≤ end

module _ (text : List ℕ) (from end : ℕ) (low : from ≤ end) (high : end ≤ length text) where
  line : List ℕ
  line = take (end - from) (drop from text)

  line_long : length line ≡ end - from
  unfolding line
  line_long = length-take-le (end - from) (drop from text) (omega (arith, length-drop from text))

  -- the words behind a comma
  behind : (n : ℕ) → cond (ltb n (length line)) (words (drop (suc n) line)) [] ≡ words_from text (from + n + 1) end
  unfolding line
  behind n = elim (cases_lt n (end - from)) [
    | inl h ↦
        let more : end - from ≡ suc n + (end - (from + n + 1)) = omega arith in
        let on : from + suc n ≡ from + n + 1 = omega arith in
        cond-true _ _ _ (lt-ltb n (length line) (omega (arith, line_long)))
        ∙ ap (λ k. words (drop (suc n) (take k (drop from text)))) more
        ∙ ap words (drop-take (suc n) (end - (from + n + 1)) (drop from text) ∙ ap (take (end - (from + n + 1))) (drop-drop (suc n) from text ∙ ap (λ k. drop k text) on))
        ∙ sym (cond-true _ _ _ (le-leb (from + n + 1) end (omega arith)))
    | inr h ↦
        cond-false _ _ _ (le-ltb n (length line) (omega (arith, line_long)))
        ∙ sym (cond-false _ _ _ (lt-leb (from + n + 1) end (omega arith)))
  ]

  -- the word that is read, by its length
  module _ (n : ℕ) (e : n ≡ prefix_len (apart 44) (take (end - from) (drop from text))) where
    word_fits : n ≤ end - from
    unfolding line
    word_fits = omega (arith, line_long, prefix_len-le-length (apart 44) line)

    word_long : length (take n (drop from text)) ≡ n
    word_long = length-take-le n (drop from text) (omega (arith, word_fits, length-drop from text))

    word_next : words_from text from end ≡ take n (drop from text) ∷ words_from text (from + n + 1) end
    unfolding line
    word_next =
        cond-true _ _ _ (le-leb from end low)
        ∙ words_step line
        ∙ ap (λ k. take k line ∷ cond (ltb k (length line)) (words (drop (suc k) line)) []) (sym e)
        ∙ ap₂ (λ w ws. w ∷ ws) (take-take n (end - from) (drop from text) word_fits) (behind n)

    -- as the word's part of the text is taken
    pub word_stands : WordAt text from end (take (from + n - from) (drop from text))
    word_stands =
        let same : from + n - from ≡ n = omega arith in
        subst (λ k. WordAt text from end (take k (drop from text))) (sym same) (record {
          there = ap (λ k. take k (drop from text)) (sym word_long);
          next = word_next ∙ ap (λ k. take n (drop from text) ∷ words_from text (from + k + 1) end) (sym word_long);
          within = omega (arith, word_long, word_fits);
        })
