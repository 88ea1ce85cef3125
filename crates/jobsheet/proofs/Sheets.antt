-- A whole sheet, line after line.
use Rattle.std.proofs.Common.{◌≡◌, ℕ, ◌+◌, ◌<◌, ◌≤◌, true, false, List, [], ◌∷◌, ◌++◌, length, take, drop, is_ok, is_err, Ok, Err, Result, sym, refl, ap, ◌∙◌, ap₂, append_assoc, append-nil, arith, length-append}
use Rattle.std.proofs.lemmas.List.{take_at}
use Rattle.std.proofs.lemmas.Bool.{false≢true}
use Rattle.jobsheet.specs.declared.names.Order.{Order}
use Rattle.jobsheet.specs.declared.faults.SheetFault.{SheetFault}
use Rattle.jobsheet.specs.Text.{lines}
use Rattle.jobsheet.specs.Printing.{ended, front}
use Rattle.jobsheet.specs.Printout.{answer_text, line_answer, opening, opening_text, printed_lines, body, printed_sheet}
use Rattle.jobsheet.specs.Sheets.{Standing, opened, open_printed, open_standing, job_printed, job_standing, some_left}

-- what was written to the front of a buffer can be taken again
module _ (text old new : List ℕ) (e : new ≡ front text old) (n : ℕ) (long : n ≡ length text) where
  pub front_take : take n new ≡ text
  front_take = ap (take n) e ∙ take_at text (drop (length text) old) n (sym long)

-- the lines that a sheet has left, printed
abbrev pub ahead : Standing → List ℕ
ahead s = printed_lines s.order s.number s.left

opened_ahead : (r : Result Order SheetFault) (ls : List (List ℕ)) → ahead (opened r ls) ≡ body r ls
unfolding printed_lines
opened_ahead (Ok o) ls = refl
opened_ahead (Err f) ls = refl

begins : (text : List ℕ) (s : Standing) → s ≡ open_standing 272 text → (y x : List ℕ) → x ≡ y ++ open_printed 272 text → x ++ ahead s ≡ y ++ printed_sheet text
unfolding printed_sheet
begins text s is y x e =
    ap₂ (λ a b. a ++ b) e (ap ahead is ∙ opened_ahead (opening text) (lines text))
    ∙ append_assoc y (opening_text (opening text)) (body (opening text) (lines text))

-- the same, as the opening answers it
pub begun_with : (text y x : List ℕ) (s : Standing) (old out : List ℕ) (n : ℕ) → s ≡ open_standing 272 text → out ≡ front (open_printed 272 text) old → n ≡ length (open_printed 272 text)
    → x ≡ y ++ take n out → x ++ ahead s ≡ y ++ printed_sheet text
begun_with text y x s old out n is wrote long e =
    begins text s is y x (e ∙ ap (λ z. y ++ z) (front_take (open_printed 272 text) old out wrote n long))

-- the heading, and a refusal behind it, are a part of what is printed
pub opening_fits : (text y : List ℕ) (n cap : ℕ) → n ≡ length (open_printed 272 text) → length y + length (printed_sheet text) ≤ cap → length y + n ≤ cap
unfolding printed_sheet
opening_fits text y n cap e h = omega (arith, length-append (opening_text (opening text)) (body (opening text) (lines text)))

step : (o : Order) (n : ℕ) (ls : List (List ℕ)) → true ≡ some_left ls → (y : List ℕ)
    → (y ++ job_printed 272 (record { order = o; number = n; left = ls })) ++ ahead (job_standing 272 (record { order = o; number = n; left = ls })) ≡ y ++ printed_lines o n ls
unfolding printed_lines
step o n [] e y = let z : ◌≡◌ {A = ℕ} 0 1 = cc in absurd (omega arith)
step o n (l ∷ ls) e y = append_assoc y (ended (answer_text n (line_answer o n l))) (printed_lines o (n + 1) ls)

pub goes_on : (s t : Standing) → true ≡ some_left s.left → t ≡ job_standing 272 s → (y x total : List ℕ) → x ≡ y ++ job_printed 272 s → y ++ ahead s ≡ total → x ++ ahead t ≡ total
goes_on s t some is y x total e inv = ap₂ (λ a b. a ++ ahead b) e is ∙ step s.order s.number s.left some y ∙ inv

fewer : (o : Order) (n : ℕ) (ls : List (List ℕ)) → true ≡ some_left ls → length (job_standing 272 (record { order = o; number = n; left = ls })).left < length ls
fewer o n [] e = let z : ◌≡◌ {A = ℕ} 0 1 = cc in absurd (omega arith)
fewer o n (l ∷ ls) e = omega arith

pub less_left : (s t : Standing) → true ≡ some_left s.left → t ≡ job_standing 272 s → length t.left < length s.left
less_left s t some is = omega (arith, ap (λ (x : Standing). length x.left) is, fewer s.order s.number s.left some)

pub ends : (o : Order) (n : ℕ) (ls : List (List ℕ)) → false ≡ some_left ls → (y total : List ℕ) → y ++ printed_lines o n ls ≡ total → y ≡ total
unfolding printed_lines
ends o n [] e y total inv = sym (append-nil y) ∙ inv
ends o n (l ∷ ls) e y total inv = let z : ◌≡◌ {A = ℕ} 0 1 = cc in absurd (omega arith)

-- a sheet that is being worked: `out` is the buffer, `items` what the text holds by now and `grown` its capacity,
-- which was `cap`; with what is ahead it will be `total`
pub record Underway (total : List ℕ) (cap : ℕ) (out items : List ℕ) (grown : ℕ) (s : Standing) : Type 0 where
  pub room : length out ≡ 272
  pub joins : items ++ ahead s ≡ total
  pub more : cap ≤ grown

-- what the next line prints fits where all that is printed fits
pub next_fits : {total : List ℕ} {cap : ℕ} {out items : List ℕ} {grown : ℕ} {s : Standing} → Underway total cap out items grown s → true ≡ some_left s.left
    → (n : ℕ) → n ≡ length (job_printed 272 s) → length total ≤ cap → length items + n ≤ grown
next_fits {total} {cap} {out} {items} {grown} {s} u some n e h =
    let next = job_printed 272 s in
    let rest = ahead (job_standing 272 s) in
    omega (arith, u.more, ap length (step s.order s.number s.left some items ∙ u.joins), length-append (items ++ next) rest, length-append items next)

-- an error is none
pub never : {X E : Type 0} (r : Result X E) → is_err r ≡ true → is_ok r ≡ true → ⊥
never (Ok x) e f = false≢true e
never (Err x) e f = false≢true f
