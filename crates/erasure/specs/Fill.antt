-- What a fill answers, and what it leaves in the marks, the work buffer and the list of places.
use Rattle.std.specs.Prelude.{◌≡◌, ℕ, ◌<◌, ◌≤◌, Bool, cond, ◌&&◌, ◌≢◌, ◌↔◌, Some, List, map, length, drop, ◌==◌, nat_le, slice_index}
use Rattle.element.specs.declared.bits.Bit.{Bit}
use Rattle.element.specs.declared.forms.Form.{Form}
use Rattle.refusal.specs.Outcome.{Outcome, Outcome.done, Outcome.refused}
use Rattle.qc.specs.Shape.{Shape, sent, whole}
use Rattle.erasure.specs.declared.faults.FillFault.{FillFault}
use Rattle.erasure.specs.declared.faults.FillFault.TheVariants as fault
use Rattle.erasure.specs.Refusals.{fill_fault}
use Rattle.erasure.specs.Marks.{Mark, erasures, written}
use Rattle.erasure.specs.Fits.{NoneFits, OnlyFits, OneFits, TwoFit, Open}

abbrev pub Answer : Type 0
Answer = Outcome (Unit {0})

abbrev pub refusal : FillFault → Answer
refusal f = refused (fill_fault f)

-- how many places an answer says are listed
abbrev pub listed : Answer → ℕ
listed (done x) = 0
listed (refused f) = slice_index f.values 0

-- as many marks as a block has, and room for a whole block of forms
abbrev pub Sized : Shape → List Mark → List Form → Type 0
Sized c ms xs = (length ms ≡ sent c) × (whole c ≤ length xs)

-- besides, room for 64 places, and at most 64 erased
pub record Fillable (c : Shape) (ms : List Mark) (xs : List Form) (ws : List ℕ) : Type 0 where
  pub sized : Sized c ms xs
  pub room : 64 ≤ length ws
  pub few : erasures ms ≤ 64

-- the same as a test
abbrev pub fillable : Shape → List Mark → List Form → List ℕ → Bool
fillable c ms xs ws = length ms == sent c && nat_le (whole c) (length xs) && nat_le 64 (length ws) && nat_le (erasures ms) 64

-- each answer comes exactly when it is due
pub record Answers (c : Shape) (ms : List Mark) (xs : List Form) (ws : List ℕ) (o : Answer) : Type 0 where
  pub lengths : (o ≡ refusal fault.WrongLengths) ↔ (Sized c ms xs → ⊥)
  pub short : (o ≡ refusal fault.ShortList) ↔ (Sized c ms xs × (length ws < 64))
  pub many : (o ≡ refusal fault.TooManyErased) ↔ (Sized c ms xs × ((64 ≤ length ws) × (64 < erasures ms)))
  pub none : (o ≡ refusal fault.NoneFits) ↔ (Fillable c ms xs ws × NoneFits c ms)
  pub two : ((n : ℕ) × (o ≡ refusal (fault.SeveralFit n))) ↔ (Fillable c ms xs ws × TwoFit c ms)
  pub one : (o ≡ done tt) ↔ (Fillable c ms xs ws × OneFits c ms)

-- done, the marks are the one codeblock that fits; refused, they are as they were
abbrev pub MarksAfter : Shape → List Mark → List Mark → Answer → Type 0
MarksAfter c ms vs (done x) = (b : List Bit) × (OnlyFits c ms b × (vs ≡ map Some b))
MarksAfter c ms vs (refused f) = vs ≡ ms

-- the work buffer holds the block as marked and its punctured group, unless the call was refused for its
-- lengths, for a short list or for too many erased symbols
abbrev pub forms_after : Shape → List Mark → List Form → List ℕ → List Form
forms_after c ms xs ws = cond (fillable c ms xs ws) (written c ms xs) xs

-- the front of the list are the places where two fitting codeblocks differ, each once; the rest is as it was
pub record PlacesAfter (c : Shape) (ms : List Mark) (xs : List Form) (ws ls : List ℕ) (n : ℕ) : Type 0 where
  pub differ : (q : ℕ) → q < n → (slice_index ls q < length ms) × Open c ms (slice_index ls q)
  pub once : (q r : ℕ) → q < r → r < n → slice_index ls q ≢ slice_index ls r
  pub all : Fillable c ms xs ws → (i : ℕ) → i < length ms → Open c ms i → (q : ℕ) × ((q < n) × (slice_index ls q ≡ i))
  pub rest : drop n ls ≡ drop n ws
