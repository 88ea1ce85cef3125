-- The outcomes of a fill, from what its parts do.
use Rattle.std.proofs.Common.{◌≡◌, ℕ, ◌*◌, ◌<◌, cond, Result, Ok, Err, List, length, get_or, sym, refl, ap, ◌∙◌, subst, arith}
use Rattle.std.proofs.lemmas.Bool.{le-ltb}
use Rattle.element.specs.declared.bits.Bit.{Bit}
use Rattle.element.specs.declared.bits.Bit.TheVariants.{Zero}
use Rattle.element.specs.declared.forms.Form.{Form}
use Rattle.element.specs.Forms.{form_zero, form_plus}
use Rattle.refusal.specs.Outcome.{Outcome.done}
use Rattle.qc.specs.Shape.{Shape, M, whole}
use Rattle.qc.specs.Codeblock.{completed}
use Rattle.qc.specs.Check.{checked_run}
use Rattle.qc.proofs.Soundness.{Sound}
use Rattle.erasure.specs.declared.elimination.Contradiction.{Contradiction}
use Rattle.erasure.specs.declared.solutions.Solutions.{Solutions}
use Rattle.erasure.specs.declared.solutions.Solutions.TheVariants.{Single, Several}
use Rattle.erasure.specs.Demands.{RowsZero}
use Rattle.erasure.specs.Solutions.{Means}
use Rattle.erasure.specs.Marks.{Mark, mark_at, rank, erasures, laid, written, filled_of, Marked}
use Rattle.erasure.specs.Places.{Places}
use Rattle.erasure.specs.declared.faults.FillFault.TheVariants as fault
use Rattle.erasure.specs.Fill.{Answer, refusal, listed, Fillable, Answers, MarksAfter, forms_after, PlacesAfter}
use Rattle.erasure.proofs.Laying.{laid_length}
use Rattle.erasure.proofs.Fitting.{room, none_fits, only_fits, filled_known, marked_open, open_marked, two_fit}
use Rattle.erasure.proofs.Exact.{none_answer, several_answer, one_answer}
use Rattle.erasure.proofs.Left.{forms_written, none_listed, some_listed}

-- what a fill promises of an answer
pub record Done (c : Shape) (ms vs : List Mark) (xs ys : List Form) (ws ls : List ℕ) (o : Answer) : Type 0 where
  pub answer : Answers c ms xs ws o
  pub marks : MarksAfter c ms vs o
  pub forms : ys ≡ forms_after c ms xs ws
  pub places : PlacesAfter c ms xs ws ls (listed o)

module _ {c : Shape} (ok : Sound c) {ms : List Mark} {xs : List Form} {ws : List ℕ} (able : Fillable c ms xs ws)
    {u : ℕ} (count : u ≡ erasures ms) {ls ys : List Form} (put : ls ≡ laid ms xs) (checked : ys ≡ checked_run form_zero form_plus c ls) where
  is_written : ys ≡ written c ms xs
  is_written =
      checked ∙ ap (checked_run form_zero form_plus c) put
      ∙ ap (λ t. cond t (laid ms xs) (completed form_zero form_plus c (laid ms xs)))
      (le-ltb (length (laid ms xs)) (whole c) (omega (arith, able.sized.1, laid_length ms xs (room c ok ms able.sized.0 xs able.sized.1))))

  -- what the rows leave, said of the marks
  moved : (v : Result Solutions Contradiction) → Means u (RowsZero u c ys (2 * M c)) v → Means (erasures ms) (RowsZero (erasures ms) c (written c ms xs) (2 * M c)) v
  moved v h =
      subst (λ (l : List Form). Means (erasures ms) (RowsZero (erasures ms) c l (2 * M c)) v) is_written
      (subst (λ (n : ℕ). Means n (RowsZero n c ys (2 * M c)) v) count h)

  pub absent : (e : Contradiction) → Means u (RowsZero u c ys (2 * M c)) (Err e) → Done c ms ms xs ys ws ws (refusal fault.NoneFits)
  absent e h =
      let none = none_fits c ok ms able.sized.0 xs able.sized.1 (moved (Err e) h) in
      record {
        answer = none_answer able none;
        marks = refl;
        forms = is_written ∙ forms_written c ms xs ws able;
        places = none_listed c ms xs ws (λ _ i o. none o.0 o.1.1.0);
      }

  pub single : (bits : List Bit) → Means u (RowsZero u c ys (2 * M c)) (Ok (Single bits)) → (vs : List Mark) → length vs ≡ length ms
      → ((i : ℕ) → i < length ms → mark_at vs i ≡ filled_of (mark_at ms i) (get_or bits (rank ms i) Zero)) → Done c ms vs xs ys ws ws (done tt)
  single bits h vs long made =
      let one = only_fits c ok ms able.sized.0 xs able.sized.1 bits (moved (Ok (Single bits)) h) in
      record {
        answer = one_answer able (_, one);
        marks = (_, (one, filled_known c ok ms able.sized.0 xs able.sized.1 bits (moved (Ok (Single bits)) h) vs long made));
        forms = is_written ∙ forms_written c ms xs ws able;
        places = none_listed c ms xs ws
            (λ _ i o. o.1.1.1.1 (ap (λ (l : List Bit). get_or l i Zero) (one.only o.0 o.1.1.0 ∙ sym (one.only o.1.0 o.1.1.1.0))));
      }

  pub many : (set n : ℕ) → Means u (RowsZero u c ys (2 * M c)) (Ok (Several set)) → (vs : List ℕ) → length vs ≡ length ws
      → Places (Marked ms set) (length ms) n ws vs → Done c ms ms xs ys ws vs (refusal (fault.SeveralFit n))
  many set n h vs long so =
      let found = moved (Ok (Several set)) h in
      record {
        answer = several_answer able n (two_fit c ok ms able.sized.0 xs able.sized.1 set found);
        marks = refl;
        forms = is_written ∙ forms_written c ms xs ws able;
        places = some_listed c ms xs ws set n vs long
            (marked_open c ok ms able.sized.0 xs able.sized.1 set found) (open_marked c ok ms able.sized.0 xs able.sized.1 set found) so;
      }
