-- What opening a sheet and working a line come to, once the room and the answer are known.
use Rattle.std.proofs.Common.{◌≡◌, ℕ, ◌<◌, ◌≤◌, true, ltb, List, [], ◌∷◌, length, drop, Err, Result, sym, refl, ap, ◌∙◌, inl, inr, arith}
use Rattle.std.proofs.lemmas.List.{length-drop}
use Rattle.std.proofs.lemmas.Bool.{cases_lt, cond-false, le-ltb, lt-ltb}
use Rattle.jobsheet.specs.declared.names.Order.{Order}
use Rattle.jobsheet.specs.declared.faults.SheetFault.{SheetFault}
use Rattle.jobsheet.specs.declared.faults.SheetFault.TheVariants.{NoLine}
use Rattle.jobsheet.specs.Text.{lines}
use Rattle.jobsheet.specs.Jobs.{Asked}
use Rattle.jobsheet.specs.Printing.{ended}
use Rattle.jobsheet.specs.Printout.{answer_text, opening, opening_text}
use Rattle.jobsheet.specs.Sheets.{Standing, open_printed, next_answer, next_printed, next_standing, job_answer, job_printed, job_standing, some_left}
use Rattle.jobsheet.proofs.Stepping.{none_left, lines_some}

-- whether a line is left
pub left_there : (text : List ℕ) (at : ℕ) → at < length text → true ≡ some_left (lines (drop at text))
left_there text at h = ap some_left (sym (lines_some (drop at text) (omega (arith, length-drop at text))))

pub left_is : (text : List ℕ) (at : ℕ) → ltb at (length text) ≡ some_left (lines (drop at text))
left_is text at = elim (cases_lt at (length text)) [
  | inl h ↦ lt-ltb at (length text) h ∙ left_there text at h
  | inr h ↦ le-ltb at (length text) h ∙ ap some_left (sym (none_left text at h))
]

-- opening, where there is room
module _ (room : ℕ) (text : List ℕ) (big : 272 ≤ room) (r : Result Order SheetFault) (e : opening text ≡ r) where
  pub open_printed_is : opening_text r ≡ open_printed room text
  open_printed_is = sym (cond-false _ _ _ (le-ltb room 272 big) ∙ ap opening_text e)

-- a line, where there is room
module _ (room : ℕ) (s : Standing) (big : 272 ≤ room) where
  pub job_answer_is : next_answer s.order s.number s.left ≡ job_answer room s
  job_answer_is = sym (cond-false _ _ _ (le-ltb room 272 big))

  pub job_printed_is : next_printed s.order s.number s.left ≡ job_printed room s
  job_printed_is = sym (cond-false _ _ _ (le-ltb room 272 big))

  pub job_standing_is : next_standing s.order s.number s.left ≡ job_standing room s
  job_standing_is = sym (cond-false _ _ _ (le-ltb room 272 big))

pub next_prints : (o : Order) (n : ℕ) (ls : List (List ℕ)) → true ≡ some_left ls → ended (answer_text n (next_answer o n ls)) ≡ next_printed o n ls
next_prints o n [] e = let z : ◌≡◌ {A = ℕ} 0 1 = cc in absurd (omega arith)
next_prints o n (l ∷ ls) e = refl

-- a line that is left, answered
module _ (room : ℕ) (s : Standing) (big : 272 ≤ room) (r : Result Asked SheetFault) (e : r ≡ next_answer s.order s.number s.left) where
  pub worked_text : true ≡ some_left s.left → ended (answer_text s.number r) ≡ job_printed room s
  worked_text some = ap (λ x. ended (answer_text s.number x)) e ∙ next_prints s.order s.number s.left some ∙ job_printed_is room s big

-- no line is left
module _ (room : ℕ) (s : Standing) (big : 272 ≤ room) (none : s.left ≡ []) where
  pub over_answer : Err NoLine ≡ job_answer room s
  over_answer = ap (next_answer s.order s.number) (sym none) ∙ job_answer_is room s big

  pub over_text : [] ≡ job_printed room s
  over_text = ap (next_printed s.order s.number) (sym none) ∙ job_printed_is room s big

  pub over_standing : s ≡ job_standing room s
  over_standing = ap (λ ls. record { order = s.order; number = s.number; left = ls }) none ∙ ap (next_standing s.order s.number) (sym none) ∙ job_standing_is room s big
