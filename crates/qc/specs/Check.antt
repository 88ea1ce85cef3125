-- What a check answers and leaves, for a run of any length.
use Rattle.std.specs.Prelude.{ℕ, ◌*◌, Bool, cond, List, length, Option, nat_lt}
use Rattle.refusal.specs.Outcome.{Outcome, Outcome.done, Outcome.refused}
use Rattle.qc.specs.declared.faults.RunFault.TheVariants.{TooShort}
use Rattle.qc.specs.Refusals.{run_fault}
use Rattle.qc.specs.Shape.{Shape, M, whole}
use Rattle.qc.specs.Codeblock.{row, lowest, groups, completed}

module _ {E : Type 0} (none : E) (plus : E → E → E) (c : Shape) where
  -- the run after a check: refused, it is as it was
  abbrev pub checked_run : List E → List E
  checked_run xs = cond (nat_lt (length xs) (whole c)) xs (completed none plus c xs)

  -- the lowest row of a whole block that is not zero
  abbrev pub lowest_row : (E → E → Bool) → List E → Option ℕ
  lowest_row same xs = lowest (λ r. same (row none plus c (groups none (M c) xs) r) none) (3 * M c)

  -- it passes where no row is named
  abbrev pub check_answer : (E → E → Bool) → List E → Outcome (Option ℕ)
  check_answer same xs =
      cond (nat_lt (length xs) (whole c)) (refused (run_fault TooShort)) (done (lowest_row same (completed none plus c xs)))
