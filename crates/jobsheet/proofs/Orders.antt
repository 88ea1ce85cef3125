-- The names line: three words, and the order that they stand in.
use Rattle.std.proofs.Common.{◌≡◌, ℕ, ◌≤◌, eqb, List, [], ◌∷◌, ◌++◌, length, Some, None, Option, sym, refl, ap, ◌∙◌, ap₂, inl, inr, arith}
use Rattle.std.proofs.lemmas.Bool.{cases_Bool, cond-true, cond-false, le-leb, eqb-true}
use Rattle.jobsheet.specs.declared.names.Name.{Name}
use Rattle.jobsheet.specs.declared.names.Name.TheVariants.{Code, Coder, Message}
use Rattle.jobsheet.specs.declared.names.Order.{Order}
use Rattle.jobsheet.specs.declared.names.Order.TheVariants.{CodeCoderMessage, CodeMessageCoder, CoderCodeMessage, CoderMessageCode, MessageCodeCoder, MessageCoderCode}
use Rattle.jobsheet.specs.Text.{on_first, words}
use Rattle.jobsheet.specs.declared.line.Line.{Line}
use Rattle.jobsheet.specs.Tokens.{rest, left}
use Rattle.jobsheet.specs.Names.{names_line, order_of}
use Rattle.jobsheet.specs.Recognition.{name_word, first_name, second_name, third_name, Named, Arranged}
use Rattle.jobsheet.proofs.Splitting.{words_step}
use Rattle.jobsheet.proofs.Recognised.{not_this}

-- words with commas between
glue : List (List ℕ) → List ℕ
glue [] = []
glue (w ∷ []) = w
glue (w ∷ v ∷ ws) = w ++ (44 ∷ glue (v ∷ ws))

glue_on : (b : ℕ) (ws : List (List ℕ)) (line : List ℕ) → glue ws ≡ line → glue (on_first b ws) ≡ b ∷ line
unfolding glue
glue_on b [] line e = ap (λ l. b ∷ l) e
glue_on b (w ∷ []) line e = ap (λ l. b ∷ l) e
glue_on b (w ∷ v ∷ ws) line e = ap (λ l. b ∷ l) e

glue_comma : (line : List ℕ) → glue ([] ∷ words line) ≡ 44 ∷ glue (words line)
unfolding glue
glue_comma line = ap (λ ws. glue ([] ∷ ws)) (words_step line) ∙ ap (λ ws. 44 ∷ glue ws) (sym (words_step line))

-- the words of a line give it back
glue_words : (line : List ℕ) → glue (words line) ≡ line
unfolding glue words
glue_words [] = refl
glue_words (b ∷ bs) = elim (cases_Bool (eqb b 44)) [
  | inl t ↦
      ap glue (cond-true (eqb b 44) ([] ∷ words bs) (on_first b (words bs)) t)
      ∙ glue_comma bs ∙ ap₂ (λ x l. x ∷ l) (sym (eqb-true b 44 t)) (glue_words bs)
  | inr f ↦
      ap glue (cond-false (eqb b 44) ([] ∷ words bs) (on_first b (words bs)) f)
      ∙ glue_on b (words bs) bs (glue_words bs)
]

same_words : (line other : List ℕ) → words line ≡ words other → line ≡ other
same_words line other e = sym (glue_words line) ∙ ap glue e ∙ glue_words other

-- the words of a names line, and its order
spelled : Order → List (List ℕ)
spelled o = name_word (first_name o) ∷ name_word (second_name o) ∷ name_word (third_name o) ∷ []

names_words : (o : Order) → words (names_line o) ≡ spelled o
unfolding words spelled
names_words CodeCoderMessage = refl
names_words CodeMessageCoder = refl
names_words CoderCodeMessage = refl
names_words CoderMessageCode = refl
names_words MessageCodeCoder = refl
names_words MessageCoderCode = refl

order_known : (o : Order) → order_of (names_line o) ≡ Some o
unfolding order_of
order_known CodeCoderMessage = refl
order_known CodeMessageCoder = refl
order_known CoderCodeMessage = refl
order_known CoderMessageCode = refl
order_known MessageCodeCoder = refl
order_known MessageCoderCode = refl

order_none : (line : List ℕ) → ((o : Order) → line ≡ names_line o → ⊥) → None ≡ order_of line
unfolding order_of
order_none line none_is =
    sym (not_this line _ _ _ _ (none_is CodeCoderMessage) (not_this line _ _ _ _ (none_is CodeMessageCoder) (not_this line _ _ _ _ (none_is CoderCodeMessage)
    (not_this line _ _ _ _ (none_is CoderMessageCode) (not_this line _ _ _ _ (none_is MessageCodeCoder) (not_this line _ _ _ _ (none_is MessageCoderCode) refl))))))

-- names have different words
name_same : (a b : Name) → name_word a ≡ name_word b → a ≡ b
name_same Code Code e = refl
name_same Code Coder e = absurd (omega (arith, ap length e))
name_same Code Message e = absurd (omega (arith, ap length e))
name_same Coder Code e = absurd (omega (arith, ap length e))
name_same Coder Coder e = refl
name_same Coder Message e = absurd (omega (arith, ap length e))
name_same Message Code e = absurd (omega (arith, ap length e))
name_same Message Coder e = absurd (omega (arith, ap length e))
name_same Message Message e = refl

-- the words of a line that none is read of yet
pub unread : (l : Line) → l.from ≤ l.end → left l ≡ words (rest l)
unread l h = cond-true _ _ _ (le-leb l.from l.end h)

module _ (line : List ℕ) where
  -- what a names line's words are
  of_names : (o : Order) → line ≡ names_line o → words line ≡ spelled o
  of_names o e = ap words e ∙ names_words o

  pub not_three : (length (words line) ≡ 3 → ⊥) → None ≡ order_of line
  unfolding spelled
  not_three none_is = order_none line (λ o e. none_is (ap length (of_names o e)))

  module _ (x y z : List ℕ) (three : words line ≡ x ∷ y ∷ z ∷ []) where
    heads : (o : Order) → line ≡ names_line o → (x ≡ name_word (first_name o)) × (y ≡ name_word (second_name o)) × (z ≡ name_word (third_name o))
    unfolding spelled
    heads o e = let s : x ∷ y ∷ z ∷ [] ≡ name_word (first_name o) ∷ name_word (second_name o) ∷ name_word (third_name o) ∷ [] = sym three ∙ of_names o e in (cc, cc, cc)

    pub first_unnamed : Named x None → None ≡ order_of line
    first_unnamed none_is = order_none line (λ o e. none_is (first_name o) (heads o e).0)

    pub second_unnamed : Named y None → None ≡ order_of line
    second_unnamed none_is = order_none line (λ o e. none_is (second_name o) (heads o e).1)

    pub third_unnamed : Named z None → None ≡ order_of line
    third_unnamed none_is = order_none line (λ o e. none_is (third_name o) (heads o e).2)

    pub arranged : (a b c : Name) → x ≡ name_word a → y ≡ name_word b → z ≡ name_word c → (r : Option Order) → Arranged a b c r → r ≡ order_of line
    unfolding spelled
    arranged a b c p q r None none_is = order_none line (λ o e. let h = heads o e in
        none_is o (name_same _ _ (sym h.0 ∙ p)) (name_same _ _ (sym h.1 ∙ q)) (name_same _ _ (sym h.2 ∙ r)))
    arranged a b c p q r (Some o) is =
        let f : x ≡ name_word (first_name o) = p ∙ ap name_word (sym is.0) in
        let g : y ≡ name_word (second_name o) = q ∙ ap name_word (sym is.1) in
        let h : z ≡ name_word (third_name o) = r ∙ ap name_word (sym is.2) in
        let e : spelled o ≡ words line = cc in
        sym (ap order_of (same_words line (names_line o) (sym e ∙ sym (names_words o))) ∙ order_known o)
