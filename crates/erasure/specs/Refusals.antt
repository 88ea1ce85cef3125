-- The number of each refusal, and the values that it carries.
use Rattle.std.specs.Prelude.{[], ◌∷◌}
use Rattle.refusal.specs.Outcome.{Numbered}
use Rattle.erasure.specs.declared.faults.FillFault.{FillFault}
use Rattle.erasure.specs.declared.faults.FillFault.TheVariants.{WrongLengths, ShortList, TooManyErased, NoneFits, SeveralFit}

abbrev pub fill_fault : FillFault → Numbered
fill_fault WrongLengths = record { number = 8; values = [] }
fill_fault ShortList = record { number = 9; values = [] }
fill_fault TooManyErased = record { number = 10; values = [] }
fill_fault NoneFits = record { number = 11; values = [] }
fill_fault (SeveralFit n) = record { number = 12; values = n ∷ [] }
