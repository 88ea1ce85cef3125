-- The number of each refusal, and the values that it carries.
use Rattle.std.specs.Prelude.{[], ◌∷◌}
use Rattle.refusal.specs.Outcome.{Numbered}
use Rattle.frame.specs.declared.faults.ReadFault.{ReadFault}
use Rattle.frame.specs.declared.faults.ReadFault.TheVariants.{Tolerance, MessageLength, RunTooShort, NotHeld, NoMarker, Fails}

abbrev pub read_fault : ReadFault → Numbered
read_fault Tolerance = record { number = 5; values = [] }
read_fault MessageLength = record { number = 2; values = [] }
read_fault RunTooShort = record { number = 8; values = [] }
read_fault NotHeld = record { number = 4; values = [] }
read_fault NoMarker = record { number = 6; values = [] }
read_fault (Fails row) = record { number = 7; values = row ∷ [] }
