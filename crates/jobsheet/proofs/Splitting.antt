-- Lines and words, one at a time.
use Rattle.std.proofs.Common.{◌≡◌, ℕ, suc, ◌+◌, true, false, cond, eqb, ltb, List, [], ◌∷◌, length, take, drop, sym, refl, ap, ◌∙◌, inl, inr, add-one, one-add, arith}
use Rattle.std.specs.List.{prefix_len}
use Rattle.std.proofs.lemmas.Bool.{cases_Bool, cond-true, cond-false, lt-ltb}
use Rattle.std.proofs.lemmas.Bool.Decides.{nat_tests}
use Rattle.jobsheet.specs.Text.{on_first, lines, words}
use Rattle.jobsheet.specs.Splitting.{apart}

-- how far the first piece goes, by the first byte
pub stops : (s b : ℕ) (bs : List ℕ) → eqb b s ≡ true → prefix_len (apart s) (b ∷ bs) ≡ 0
stops s b bs e = simp e

goes : (s b : ℕ) (bs : List ℕ) → eqb b s ≡ false → prefix_len (apart s) (b ∷ bs) ≡ suc (prefix_len (apart s) bs)
goes s b bs e = simp (e, one-add)

pub goes_on : (s b : ℕ) (bs : List ℕ) → eqb b s ≡ false → prefix_len (apart s) (b ∷ bs) ≡ prefix_len (apart s) bs + 1
goes_on s b bs e = goes s b bs e ∙ sym (add-one _)

pub lines_none : lines [] ≡ []
unfolding lines
lines_none = refl

-- the first line of a text, and the others
abbrev line_first : List ℕ → ℕ → List (List ℕ)
line_first xs n = take n xs ∷ lines (drop (suc n) xs)

first_line : (b : ℕ) (bs : List ℕ) → on_first b (lines bs) ≡ line_first (b ∷ bs) (suc (prefix_len (apart 10) bs)) → lines (b ∷ bs) ≡ line_first (b ∷ bs) (prefix_len (apart 10) (b ∷ bs))
unfolding lines
first_line b bs on = elim (cases_Bool (eqb b 10)) [
  | inl t ↦ cond-true (eqb b 10) ([] ∷ lines bs) (on_first b (lines bs)) t ∙ ap (line_first (b ∷ bs)) (sym (stops 10 b bs t))
  | inr f ↦ cond-false (eqb b 10) ([] ∷ lines bs) (on_first b (lines bs)) f ∙ on ∙ ap (line_first (b ∷ bs)) (sym (goes 10 b bs f))
]

lines_on : (b : ℕ) (bs : List ℕ) → on_first b (lines bs) ≡ line_first (b ∷ bs) (suc (prefix_len (apart 10) bs))
unfolding lines
lines_on b [] = refl
lines_on b (x ∷ xs) = ap (on_first b) (first_line x xs (lines_on x xs))

pub lines_step : (b : ℕ) (bs : List ℕ) → lines (b ∷ bs) ≡ line_first (b ∷ bs) (prefix_len (apart 10) (b ∷ bs))
lines_step b bs = first_line b bs (lines_on b bs)

-- the first word of a line, and the others, if a comma follows
abbrev word_first : List ℕ → ℕ → List (List ℕ)
word_first xs n = take n xs ∷ cond (ltb n (length xs)) (words (drop (suc n) xs)) []

shift : (n m : ℕ) → ltb n m ≡ ltb (suc n) (suc m)
shift n m = grind (arith, nat_tests)

pub words_step : (xs : List ℕ) → words xs ≡ word_first xs (prefix_len (apart 44) xs)
unfolding words
words_step [] = refl
words_step (b ∷ bs) =
    let n = prefix_len (apart 44) bs in
    elim (cases_Bool (eqb b 44)) [
      | inl t ↦
          cond-true (eqb b 44) ([] ∷ words bs) (on_first b (words bs)) t
          ∙ ap (λ ws. [] ∷ ws) (sym (cond-true (ltb 0 (suc (length bs))) (words bs) [] (lt-ltb 0 (suc (length bs)) (omega arith))))
          ∙ ap (word_first (b ∷ bs)) (sym (stops 44 b bs t))
      | inr f ↦
          cond-false (eqb b 44) ([] ∷ words bs) (on_first b (words bs)) f
          ∙ ap (on_first b) (words_step bs)
          ∙ ap (λ t. (b ∷ take n bs) ∷ cond t (words (drop (suc n) bs)) []) (shift n (length bs))
          ∙ ap (word_first (b ∷ bs)) (sym (goes 44 b bs f))
    ]
