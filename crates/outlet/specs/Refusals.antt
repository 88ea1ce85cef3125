-- The number of each refusal, and the values that it carries.
use Rattle.std.specs.Prelude.{[]}
use Rattle.refusal.specs.Outcome.{Numbered}
use Rattle.outlet.specs.declared.faults.TakeFault.{TakeFault}
use Rattle.outlet.specs.declared.faults.TakeFault.TheVariants.{Full}
use Rattle.outlet.specs.declared.faults.PlaceFault.{PlaceFault}
use Rattle.outlet.specs.declared.faults.PlaceFault.TheVariants.{NotHeld}

abbrev pub take_fault : TakeFault → Numbered
take_fault Full = record { number = 17; values = [] }

abbrev pub place_fault : PlaceFault → Numbered
place_fault NotHeld = record { number = 18; values = [] }
