-- What an outlet's calls answer, and what they leave. An outlet holds a list of bits and has room for so
-- many; taking is told for a list of bits, of which all are put at the end or none is.
use Rattle.std.specs.Prelude.{◌≡◌, ℕ, ◌+◌, ◌≤◌, cond, List, ◌++◌, length, nat_le, nat_lt, slice_index_or}
use Rattle.std.proofs.Common.{sym, ◌∙◌, ap, arith}
use Rattle.element.specs.declared.bits.Bit.{Bit}
use Rattle.element.specs.declared.bits.Bit.TheVariants.{Zero}
use Rattle.refusal.specs.Outcome.{Outcome, Outcome.done, Outcome.refused}
use Rattle.outlet.specs.declared.faults.TakeFault.TheVariants.{Full}
use Rattle.outlet.specs.declared.faults.PlaceFault.TheVariants.{NotHeld}
use Rattle.outlet.specs.Refusals.{take_fault, place_fault}

-- what taking `more` answers an outlet that holds `old`
abbrev pub take_answer : List Bit → List Bit → ℕ → Outcome Unit
take_answer more old room = cond (nat_le (length old + length more) room) (done tt) (refused (take_fault Full))

-- the bits held after
abbrev pub taken : List Bit → List Bit → ℕ → List Bit
taken more old room = cond (nat_le (length old + length more) room) (old ++ more) old

-- the bit at a place that is below the count
abbrev pub bit_answer : List Bit → ℕ → Outcome Bit
bit_answer held place = cond (nat_lt place (length held)) (done (slice_index_or held place Zero)) (refused (place_fault NotHeld))

-- what every outlet obeys: the count never passes the capacity; what no take changes is so over any number
-- of takes, and the capacity is part of it
pub record Lawful {S : Type 0} (bits : S → List Bit) (room : S → ℕ) (kept : S → S → Type 0) : Type 0 where
  pub within : (o : S) → length (bits o) ≤ room o
  pub reflexive : (o : S) → kept o o
  pub transitive : (a b c : S) → kept a b → kept b c → kept a c
  pub steady : (a b : S) → kept a b → room b ≡ room a

-- the same told in other words
pub lawful_as : {S : Type 0} {bits bits' : S → List Bit} {room room' : S → ℕ} {kept kept' : S → S → Type 0} → Lawful bits room kept → ((o : S) → bits o ≡ bits' o) → ((o : S) → room o ≡ room' o) → ((a b : S) → kept a b → kept' a b) → ((a b : S) → kept' a b → kept a b)
    → Lawful bits' room' kept'
lawful_as {S} {bits} {bits'} {room} {room'} {kept} {kept'} law same_bits same_room there back = record {
  within = λ o. omega (arith, law.within o, ap length (same_bits o), same_room o);
  reflexive = λ o. there o o (law.reflexive o);
  transitive = λ a b c h k. there a c (law.transitive a b c (back a b h) (back b c k));
  steady = λ a b h. sym (same_room b) ∙ law.steady a b (back a b h) ∙ same_room a;
}
