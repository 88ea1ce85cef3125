-- Texts without a newline are lines of what is printed.
use Rattle.std.proofs.Common.{◌≡◌, ℕ, zero, suc, ◌+◌, ◌/◌, ◌%◌, ◌<◌, ◌≤◌, Bool, true, false, not, ◌&&◌, eqb, ltb, List, [], ◌∷◌, ◌++◌, map, length, get_or, Ok, Err, codes, decimal, Result, sym, refl, ap, ◌∙◌, subst, inl, inr, append_assoc, le_of_suc-le-suc, not-suc-le-zero, add-zero, arith}
use Rattle.std.specs.List.{range_with_len}
use Rattle.std.specs.Fmt.{digits, digits_onto, digit_glyph}
use Rattle.std.proofs.lemmas.Bool.{cases_Bool, and_parts, and_from, cond-true, cond-false, cond_both, ne_eqb, false≢true}
use Rattle.element.specs.declared.bits.Bit.{Bit}
use Rattle.refusal.specs.Outcome.{Numbered}
use Rattle.ar4ja.specs.declared.codes.Code.{Code}
use Rattle.jobsheet.specs.declared.names.CoderName.{CoderName}
use Rattle.jobsheet.specs.declared.names.CoderName.TheVariants.{Table, Check}
use Rattle.jobsheet.specs.declared.names.Order.{Order}
use Rattle.jobsheet.specs.declared.faults.SheetFault.{SheetFault}
use Rattle.jobsheet.specs.declared.faults.SheetFault.TheVariants.{TooLong}
use Rattle.jobsheet.specs.Text.{on_first, lines}
use Rattle.jobsheet.specs.Splitting.{apart}
use Rattle.jobsheet.specs.Names.{sheet_order}
use Rattle.jobsheet.specs.Values.{coder_word}
use Rattle.jobsheet.specs.Jobs.{Asked}
use Rattle.jobsheet.specs.Parity.{hex_digit, digit_at, parity_hex}
use Rattle.jobsheet.specs.Refusals.{sheet_fault}
use Rattle.jobsheet.specs.Printing.{heading, job_text, refusal_text, ended}
use Rattle.jobsheet.specs.Printout.{answer_text, line_answer, by_names, opening, opening_text, others, body, printed_lines, printed_sheet}
use Rattle.jobsheet.specs.Law.{Answered, LineForLine}
use Rattle.jobsheet.proofs.Splitting.{lines_none}

-- whether a text has no newline
unbroken : List ℕ → Bool
unbroken [] = true
unbroken (b ∷ bs) = apart 10 b && unbroken bs

not_newline : (b : ℕ) → apart 10 b ≡ true → eqb b 10 ≡ false
not_newline b e = elim (cases_Bool (eqb b 10)) [
  | inl t ↦ absurd (false≢true (ap not (sym t) ∙ e))
  | inr f ↦ f
]

lines_ended : (t rest : List ℕ) → unbroken t ≡ true → lines (t ++ (10 ∷ rest)) ≡ t ∷ lines rest
unfolding lines unbroken
lines_ended [] rest u = refl
lines_ended (b ∷ bs) rest u =
    let p = and_parts (apart 10 b) (unbroken bs) u in
    cond-false (eqb b 10) ([] ∷ lines (bs ++ (10 ∷ rest))) (on_first b (lines (bs ++ (10 ∷ rest)))) (not_newline b p.0)
    ∙ ap (on_first b) (lines_ended bs rest p.1)

joined : (a b : List ℕ) → unbroken a ≡ true → unbroken b ≡ true → unbroken (a ++ b) ≡ true
unfolding unbroken
joined [] b u v = v
joined (x ∷ a) b u v = let p = and_parts (apart 10 x) (unbroken a) u in and_from (apart 10 x) (unbroken (a ++ b)) p.0 (joined a b p.1 v)

high : (b : ℕ) → 48 ≤ b → apart 10 b ≡ true
high b h = ap not (ne_eqb b 10 (λ e. omega arith))

glyph_high : (d : ℕ) → apart 10 (digit_glyph false d) ≡ true
glyph_high d = cond_both (ltb d 10) (48 + d) (87 + d) (λ b. apart 10 b ≡ true) (λ _. high _ (omega arith)) (λ _. high _ (omega arith))

spelled_unbroken : (k n : ℕ) (acc : List ℕ) → unbroken acc ≡ true → unbroken (digits_onto k 10 false n acc) ≡ true
unfolding unbroken
spelled_unbroken zero n acc u = u
spelled_unbroken (suc k) n acc u =
    let more = and_from (apart 10 (digit_glyph false (n % 10))) (unbroken acc) (glyph_high (n % 10)) u in
    cond_both (eqb (n / 10) 0) _ _ (λ l. unbroken l ≡ true) (λ _. more) (λ _. spelled_unbroken k (n / 10) (digit_glyph false (n % 10) ∷ acc) more)

decimal_unbroken : (n : ℕ) → unbroken (decimal n) ≡ true
unfolding digits unbroken
decimal_unbroken n = spelled_unbroken 64 n [] refl

hex_high : (n : ℕ) → apart 10 (hex_digit n) ≡ true
hex_high n = cond_both (ltb n 10) (48 + n) (55 + n) (λ b. apart 10 b ≡ true) (λ _. high _ (omega arith)) (λ _. high _ (omega arith))

map_unbroken : (f : ℕ → ℕ) → ((k : ℕ) → apart 10 (f k) ≡ true) → (ks : List ℕ) → unbroken (map f ks) ≡ true
unfolding unbroken
map_unbroken f h [] = refl
map_unbroken f h (k ∷ ks) = and_from (apart 10 (f k)) (unbroken (map f ks)) (h k) (map_unbroken f h ks)

digit_high : (x : ℕ → Bit) (k : ℕ) → apart 10 (digit_at x k) ≡ true
unfolding digit_at
digit_high x k = hex_high _

parity_unbroken : (code : Code) (w : List ℕ) → unbroken (parity_hex code w) ≡ true
unfolding parity_hex
parity_unbroken code w = map_unbroken _ (digit_high _) (range_with_len 0 _)

word_unbroken : (coder : CoderName) → unbroken (coder_word coder) ≡ true
unfolding unbroken
word_unbroken Table = refl
word_unbroken Check = refl

comma : unbroken (codes ",") ≡ true
unfolding unbroken
comma = refl

refused_word : unbroken (codes ",refused,") ≡ true
unfolding unbroken
refused_word = refl

heading_unbroken : unbroken heading ≡ true
unfolding unbroken
heading_unbroken = refl

refusal_unbroken : (r : Numbered) → unbroken (refusal_text r) ≡ true
refusal_unbroken r = joined _ _ (decimal_unbroken _) (joined _ _ refused_word (joined _ _ (decimal_unbroken _) (joined _ _ comma (decimal_unbroken _))))

job_unbroken : (n : ℕ) (a : Asked) → unbroken (job_text n a) ≡ true
job_unbroken n a =
    joined _ _ (joined _ _ (decimal_unbroken n) (joined _ _ comma (joined _ _ (decimal_unbroken _) (joined _ _ comma (joined _ _ (word_unbroken a.coder) comma)))))
    (parity_unbroken a.code a.message)

answer_unbroken : (n : ℕ) (r : Result Asked SheetFault) → unbroken (answer_text n r) ≡ true
answer_unbroken n (Ok a) = job_unbroken n a
answer_unbroken n (Err f) = refusal_unbroken (sheet_fault f)

-- a line that was printed, and what follows
lines_printed : (t rest : List ℕ) → unbroken t ≡ true → lines (ended t ++ rest) ≡ t ∷ lines rest
lines_printed t rest u = ap lines (append_assoc t (codes "\n") rest) ∙ lines_ended t rest u

-- the texts that answer the lines from number n on
texts : Order → ℕ → List (List ℕ) → List (List ℕ)
texts o n [] = []
texts o n (l ∷ ls) = answer_text n (line_answer o n l) ∷ texts o (n + 1) ls

lines_texts : (o : Order) (n : ℕ) (ls : List (List ℕ)) → lines (printed_lines o n ls) ≡ texts o n ls
unfolding printed_lines texts
lines_texts o n [] = lines_none
lines_texts o n (l ∷ ls) =
    lines_printed (answer_text n (line_answer o n l)) (printed_lines o (n + 1) ls) (answer_unbroken n (line_answer o n l))
    ∙ ap (λ ts. answer_text n (line_answer o n l) ∷ ts) (lines_texts o (n + 1) ls)

texts_long : (o : Order) (n : ℕ) (ls : List (List ℕ)) → length (texts o n ls) ≡ length ls
unfolding texts
texts_long o n [] = refl
texts_long o n (l ∷ ls) = ap suc (texts_long o (n + 1) ls)

texts_at : (o : Order) (n : ℕ) (ls : List (List ℕ)) (j : ℕ) → j < length ls → get_or (texts o n ls) j [] ≡ answer_text (n + j) (line_answer o (n + j) (get_or ls j []))
unfolding texts
texts_at o n [] j h = absurd (not-suc-le-zero h)
texts_at o n (l ∷ ls) zero h = ap (λ k. answer_text k (line_answer o k l)) (sym (add-zero n))
texts_at o n (l ∷ ls) (suc j) h =
    let on : n + 1 + j ≡ n + suc j = omega arith in
    texts_at o (n + 1) ls j (le_of_suc-le-suc h) ∙ ap (λ k. answer_text k (line_answer o k (get_or ls j []))) on

-- a sheet whose names stand in an order has a first line
named : (o : Order) (text : List ℕ) → opening text ≡ Ok o → by_names (sheet_order (lines text)) ≡ Ok o
named o text e = elim (cases_Bool (ltb 65536 (length text))) [
  | inl t ↦ let long : ◌≡◌ {A = Result Order SheetFault} (Err TooLong) (Ok o) = sym (cond-true _ _ _ t) ∙ e in let z : ◌≡◌ {A = ℕ} 0 1 = cc in absurd (omega arith)
  | inr f ↦ sym (cond-false _ _ _ f) ∙ e
]

-- printed line by printed line, over the sheet's lines
record Lined (o : Order) (ls ps : List (List ℕ)) : Type 0 where
  count : length ps ≡ length ls
  names : get_or ps 0 [] ≡ heading
  each : (i : ℕ) → 0 < i → i < length ls → get_or ps i [] ≡ answer_text (i + 1) (line_answer o (i + 1) (get_or ls i []))

lined : (o : Order) (ls : List (List ℕ)) → by_names (sheet_order ls) ≡ Ok o → Lined o ls (heading ∷ texts o 2 (others ls))
lined o [] e = let z : ◌≡◌ {A = ℕ} 0 1 = cc in absurd (omega arith)
lined o (l ∷ ls) e = record { count = ap suc (texts_long o 2 ls); names = refl; each = go }
  where
    go : (i : ℕ) → 0 < i → i < suc (length ls) → get_or (heading ∷ texts o 2 ls) i [] ≡ answer_text (i + 1) (line_answer o (i + 1) (get_or (l ∷ ls) i []))
    go zero low h = absurd (omega arith)
    go (suc j) low h =
        let on : 2 + j ≡ suc j + 1 = omega arith in
        texts_at o 2 ls j (le_of_suc-le-suc h) ∙ ap (λ k. answer_text k (line_answer o k (get_or ls j []))) on

sheet_lines : (o : Order) (text : List ℕ) → opening text ≡ Ok o → lines (printed_sheet text) ≡ heading ∷ texts o 2 (others (lines text))
unfolding printed_sheet
sheet_lines o text e =
    ap (λ r. lines (opening_text r ++ body r (lines text))) e
    ∙ lines_printed heading (printed_lines o 2 (others (lines text))) heading_unbroken
    ∙ ap (λ ts. heading ∷ ts) (lines_texts o 2 (others (lines text)))

answered : (o : Order) (text : List ℕ) → opening text ≡ Ok o → Answered o text (printed_sheet text)
answered o text e =
    let p = sheet_lines o text e in
    let l = lined o (lines text) (named o text e) in
    record {
      count = ap length p ∙ l.count;
      names = ap (λ ps. get_or ps 0 []) p ∙ l.names;
      each = λ i low h. ap (λ ps. get_or ps i []) p ∙ l.each i low h;
    }

refused : (f : SheetFault) (text : List ℕ) → opening text ≡ Err f → lines (printed_sheet text) ≡ heading ∷ refusal_text (sheet_fault f) ∷ []
unfolding printed_sheet
refused f text e =
    ap (λ r. lines (opening_text r ++ body r (lines text))) e
    ∙ ap lines (append_assoc (ended heading) (ended (refusal_text (sheet_fault f))) [])
    ∙ lines_printed heading (ended (refusal_text (sheet_fault f)) ++ []) heading_unbroken
    ∙ ap (λ ts. heading ∷ ts) (lines_printed (refusal_text (sheet_fault f)) [] (refusal_unbroken (sheet_fault f)) ∙ ap (λ ts. refusal_text (sheet_fault f) ∷ ts) lines_none)

pub line_for_line : (text out : List ℕ) → out ≡ printed_sheet text → LineForLine text out
line_for_line text out e = subst (LineForLine text) (sym e) (record { worked = λ o h. answered o text h; refused = λ f h. refused f text h })
