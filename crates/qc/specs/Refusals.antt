-- The number of each refusal, and the values that it carries.
use Rattle.std.specs.Prelude.{[]}
use Rattle.refusal.specs.Outcome.{Numbered}
use Rattle.qc.specs.declared.faults.RunFault.{RunFault}
use Rattle.qc.specs.declared.faults.RunFault.TheVariants.{TooShort}

abbrev pub run_fault : RunFault → Numbered
run_fault TooShort = record { number = 8; values = [] }
