-- What a call answers, with its refusals told by number. Contracts are written over this, so that they
-- speak of numbers and values, whatever the cases of an enum are called.
use Rattle.std.specs.Prelude.{ℕ, List, Some, None, Ok, Err, Option, Result}

-- a refusal: its number, and the values that it carries
pub record Numbered : Type 0 where
  pub number : ℕ
  pub values : List ℕ

pub data Outcome (A : Type 0) : Type 0 where
  done : A → Outcome A
  refused : Numbered → Outcome A

-- the outcome that a result tells, by the numbers of its faults
abbrev pub outcome : {A F : Type 0} → (F → Numbered) → Result A F → Outcome A
outcome numbered (Ok a) = done a
outcome numbered (Err f) = refused (numbered f)

-- the result of a test that names the first fault that is due, if one is
abbrev pub unless : {F : Type 0} → Option F → Result Unit F
unless None = Ok tt
unless (Some fault) = Err fault
