-- A line that the calls of a list are put to, one after the other.
use Rattle.std.proofs.Common.{◌≡◌, ℕ, ◌+◌, ◌<◌, ◌≤◌, List, map, length, get_or, take, drop, set, refl, sym, ap, ◌∙◌, subst}
use Rattle.std.proofs.lemmas.List.{take_all}
use Rattle.element.specs.declared.bits.Bit.{Bit}
use Rattle.line.specs.declared.line_type.Line.{Line}
use Rattle.line.specs.declared.call.Call.{Call}
use Rattle.line.specs.Book.{Book, written}
use Rattle.line.specs.Follow.{Follows}
use Rattle.line.specs.Calls.{seen, served, turned, served_calls, book_after}
use Rattle.line.proofs.CallLists.{next_calls, next_answers, next_book, next_drop}

module _ {C O : Type 0} (bits : O → List Bit) (room : O → ℕ) (kept : O → O → Type 0) where
  -- from the line `l` and the calls `ys`, as they were, to the line `l'` and the calls `xs`, after the first i of them were put to it
  unfoldable pub Served : Line C O → List Call → Line C O → List Call → ℕ → Type 0
  Served l ys l' xs i =
      ((b : Book) → Follows bits room b l → Follows bits room (book_after b (map seen (take i ys))) l' × (map seen (take i xs) ≡ served_calls b (map seen (take i ys))))
      × (drop i xs ≡ drop i ys)
      × kept l.randomizer.below l'.randomizer.below

  pub served_none : (l : Line C O) (ys : List Call) → kept l.randomizer.below l.randomizer.below → Served l ys l ys 0
  unfolding Served
  served_none l ys k = ((λ b f. (f, refl)), refl, k)

  -- one call more: `x` as it was put, `x'` as it stands after it
  pub served_more : ((x y z : O) → kept x y → kept y z → kept x z) → (l : Line C O) (ys : List Call) (l' : Line C O) (xs : List Call) (i : ℕ) (l'' : Line C O) (x x' : Call)
      → Served l ys l' xs i → i < length ys → i < length xs → x ≡ get_or xs i x
      → ((b : Book) → Follows bits room b l' → seen x' ≡ served b (seen x))
      → ((b : Book) → Follows bits room b l' → Follows bits room (turned b (seen x)) l'')
      → kept l'.randomizer.below l''.randomizer.below
      → Served l ys l'' (set xs i x') (i + 1)
  unfolding Served
  served_more transitive l ys l' xs i l'' x x' so within here read answered turns k =
      let n = next_calls xs ys i x within so.1 read in (
        (λ b f.
            let h = so.0 b f in (
              subst (λ (z : Book). Follows bits room z l'') (next_book b ys i x n) (turns _ h.0),
              next_answers b xs ys i x x' here n h.1 (answered _ h.0),
            )),
        next_drop xs ys i x' so.1,
        transitive _ _ _ so.2 k,
      )

  -- after all of them: the calls as the book gives them, and what the outlet holds
  module _ (b : Book) (l : Line C O) (ys : List Call) (l' : Line C O) (xs : List Call) (i : ℕ) (so : Served l ys l' xs i) (follows : Follows bits room b l) (asked : length ys ≤ i) (here : length xs ≤ i) where
    pub served_answers : map seen xs ≡ served_calls b (map seen ys)
    unfolding Served
    served_answers = sym (ap (map seen) (take_all i xs here)) ∙ (so.0 b follows).1 ∙ ap (λ (z : List Call). served_calls b (map seen z)) (take_all i ys asked)

    pub served_outlet : (o : O) → o ≡ l'.randomizer.below → bits o ≡ written (book_after b (map seen ys))
    unfolding Served
    served_outlet o is = ap bits is ∙ (so.0 b follows).0.bits_are ∙ ap (λ (z : List Call). written (book_after b (map seen z))) (take_all i ys asked)

  -- after any of them: the outlet is kept
  pub served_kept : (l : Line C O) (ys : List Call) (l' : Line C O) (xs : List Call) (i : ℕ) (o o' : O) → Served l ys l' xs i → l.randomizer.below ≡ o → o' ≡ l'.randomizer.below → kept o o'
  unfolding Served
  served_kept l ys l' xs i o o' so before after = subst (λ z. kept z o') before (subst (λ z. kept l.randomizer.below z) (sym after) so.2)

-- a step of the loop over the calls, and what follows when it ends
pub ruleset serving = (served_none, served_more, served_answers, served_outlet, served_kept)
