-- A list of calls, one call on.
use Rattle.std.proofs.Common.{◌≡◌, ℕ, ◌+◌, ◌<◌, List, [], ◌∷◌, ◌++◌, map, length, get_or, take, drop, set, sym, refl, ap, ◌∙◌, ap₂, arith}
use Rattle.std.proofs.lemmas.List.{get_or-drop, drop-set-lt, drop-drop, take_more, take_more_set, map_push}
use Rattle.line.specs.declared.call.Call.{Call}
use Rattle.line.specs.Book.{Book}
use Rattle.line.specs.Calls.{Entry, seen, served, turned, served_calls, book_after}

-- one call more
served_push : (b : Book) (es : List Entry) (e : Entry)
    → (served_calls b (es ++ (e ∷ [])) ≡ served_calls b es ++ (served (book_after b es) e ∷ [])) × (book_after b (es ++ (e ∷ [])) ≡ turned (book_after b es) e)
served_push b [] e = (refl, refl)
served_push b (x ∷ xs) e =
    let h = served_push (turned b x) xs e in
    (ap (λ (z : List Entry). served b x ∷ z) h.0, h.1)

same_at : {X : Type 0} (xs ys : List X) (i : ℕ) (d : X) → drop i xs ≡ drop i ys → get_or xs i d ≡ get_or ys i d
same_at xs ys i d e =
    let z : i + 0 ≡ i = omega arith in
    ap (λ n. get_or xs n d) (sym z) ∙ sym (get_or-drop i xs 0 d) ∙ ap (λ zs. get_or zs 0 d) e ∙ get_or-drop i ys 0 d ∙ ap (λ n. get_or ys n d) z

pub next_drop : {X : Type 0} (xs ys : List X) (i : ℕ) (x : X) → drop i xs ≡ drop i ys → drop (i + 1) (set xs i x) ≡ drop (i + 1) ys
next_drop xs ys i x e = drop-set-lt (i + 1) xs i x (omega arith) ∙ sym (drop-drop 1 i xs) ∙ ap (drop 1) e ∙ drop-drop 1 i ys

-- the calls that were made, one more: `xs` as they stand, `ys` as they were put
pub next_calls : (xs ys : List Call) (i : ℕ) (x : Call) → i < length ys → drop i xs ≡ drop i ys → x ≡ get_or xs i x → map seen (take (i + 1) ys) ≡ map seen (take i ys) ++ (seen x ∷ [])
next_calls xs ys i x h e r =
    ap (map seen) (take_more ys i x h ∙ ap (λ (z : Call). take i ys ++ (z ∷ [])) (sym (r ∙ same_at xs ys i x e))) ∙ map_push seen (take i ys) x

pub next_answers : (b : Book) (xs ys : List Call) (i : ℕ) (x x' : Call) → i < length xs
    → map seen (take (i + 1) ys) ≡ map seen (take i ys) ++ (seen x ∷ []) → map seen (take i xs) ≡ served_calls b (map seen (take i ys)) → seen x' ≡ served (book_after b (map seen (take i ys))) (seen x)
    → map seen (take (i + 1) (set xs i x')) ≡ served_calls b (map seen (take (i + 1) ys))
next_answers b xs ys i x x' h n a e =
    let es : List Entry = map seen (take i ys) in
    ap (map seen) (take_more_set xs i x' h) ∙ map_push seen (take i xs) x'
    ∙ ap₂ (λ (z : List Entry) (w : Entry). z ++ (w ∷ [])) a e
    ∙ sym (ap (served_calls b) n ∙ (served_push b es (seen x)).0)

pub next_book : (b : Book) (ys : List Call) (i : ℕ) (x : Call) → map seen (take (i + 1) ys) ≡ map seen (take i ys) ++ (seen x ∷ []) → turned (book_after b (map seen (take i ys))) (seen x) ≡ book_after b (map seen (take (i + 1) ys))
next_book b ys i x n = sym (ap (book_after b) n ∙ (served_push b (map seen (take i ys)) (seen x)).1)
