-- What a check answers on a run that holds a whole block.
use Rattle.std.proofs.Common.{◌≡◌, ℕ, ◌*◌, ◌<◌, ◌≤◌, Bool, true, cond, ◌↔◌, List, length, None, Ok, Option, Result, sym, ap, ◌∙◌, mul-le-mul_right, arith}
use Rattle.std.proofs.lemmas.Bool.{le-ltb}
use Rattle.element.specs.Laws.{Laws}
use Rattle.refusal.specs.Outcome.{Outcome, Outcome.done, Outcome.refused}
use Rattle.qc.specs.declared.faults.RunFault.{RunFault}
use Rattle.qc.specs.declared.faults.RunFault.TheVariants.{TooShort}
use Rattle.qc.specs.Refusals.{run_fault}
use Rattle.qc.specs.Shape.{Shape, M, whole}
use Rattle.qc.specs.Codeblock.{row, lowest, groups, completed, Codeblock}
use Rattle.qc.specs.Check.{lowest_row, checked_run, check_answer}
use Rattle.qc.specs.Sound.{sound}
use Rattle.qc.proofs.Soundness.{Sound, sounds}
use Rattle.qc.proofs.Codeblocks.{lowest_of_two, passes_exactly}

module _ {E : Type 0} {none : E} {plus : E → E → E} {same : E → E → Bool} (laws : Laws none plus same) (c : Shape) (ok : Sound c)
    (xs : List E) (fits : whole c ≤ length xs) (ys : List E) (is : ys ≡ completed none plus c xs)
    (o : Option ℕ) (low : o ≡ lowest (λ i. same (row none plus c (groups none (M c) ys) i) none) (2 * M c)) where
  lowest_is : o ≡ lowest_row none plus c same (completed none plus c xs)
  lowest_is = low ∙ ap (λ (l : List E). lowest (λ i. same (row none plus c (groups none (M c) l) i) none) (2 * M c)) is ∙ lowest_of_two laws c ok xs fits

  pub answered : ◌≡◌ {A = Outcome (Option ℕ)} (done o) (check_answer none plus c same xs)
  answered =
      ap (λ (l : Option ℕ). done l) lowest_is
      ∙ sym (ap (λ t. cond t (refused (run_fault TooShort)) (done (lowest_row none plus c same (completed none plus c xs)))) (le-ltb (length xs) (whole c) fits))

  pub left : ys ≡ checked_run none plus c xs
  left = is ∙ sym (ap (λ t. cond t xs (completed none plus c xs)) (le-ltb (length xs) (whole c) fits))

  pub passes : ◌≡◌ {A = Result (Option ℕ) RunFault} (Ok o) (Ok None) ↔ Codeblock none plus c (groups none (M c) xs)
  passes = (
    (λ e. (passes_exactly laws c ok xs fits).0 (sym lowest_is ∙ (let n : o ≡ None = cc in n))),
    (λ b. ap (λ (l : Option ℕ). Ok l) (lowest_is ∙ (passes_exactly laws c ok xs fits).1 b)),
  )

-- what is answered, by the computed test of the shape, which a code has for its law
pub answered_by : {E : Type 0} {none : E} {plus : E → E → E} {same : E → E → Bool} → Laws none plus same → (c : Shape) → sound c ≡ true
    → (xs : List E) → whole c ≤ length xs → (ys : List E) → ys ≡ completed none plus c xs
    → (o : Option ℕ) → o ≡ lowest (λ i. same (row none plus c (groups none (M c) ys) i) none) (2 * M c) → ◌≡◌ {A = Outcome (Option ℕ)} (done o) (check_answer none plus c same xs)
answered_by laws c lawful xs fits ys is o low = answered laws c (sounds c lawful) xs fits ys is o low

-- as many elements as a list holds fit the memory
pub fewer_fit : (size n k limit : ℕ) → k ≤ n → n * size < limit → k * size < limit
fewer_fit size n k limit le fits = omega (arith, mul-le-mul_right size le, fits)

pub joined : {A B C : Type 0} → A ↔ B → B ↔ C → A ↔ C
joined f g = ((λ a. g.0 (f.0 a)), (λ c. f.1 (g.1 c)))
