-- The number of each refusal, and the values that it carries.
use Rattle.std.specs.Prelude.{[]}
use Rattle.refusal.specs.Outcome.{Numbered}
use Rattle.ar4ja.specs.declared.codes.CodeFault.{CodeFault}
use Rattle.ar4ja.specs.declared.codes.CodeFault.TheVariants.{Unknown}

abbrev pub code_fault : CodeFault → Numbered
code_fault Unknown = record { number = 1; values = [] }
