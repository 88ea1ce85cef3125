-- The number of each refusal, and the values that it carries.
use Rattle.std.specs.Prelude.{[]}
use Rattle.refusal.specs.Outcome.{Numbered}
use Rattle.line.specs.declared.faults.SendFault.{SendFault}
use Rattle.line.specs.declared.faults.SendFault.TheVariants as send
use Rattle.line.specs.declared.faults.ReadBackFault.{ReadBackFault}
use Rattle.line.specs.declared.faults.ReadBackFault.TheVariants as read

abbrev pub send_fault : SendFault → Numbered
send_fault send.MessageLength = record { number = 2; values = [] }
send_fault send.RunTooShort = record { number = 8; values = [] }
send_fault send.NoRoom = record { number = 3; values = [] }

abbrev pub read_back_fault : ReadBackFault → Numbered
read_back_fault read.NoSuchFrame = record { number = 16; values = [] }
read_back_fault read.MessageLength = record { number = 2; values = [] }
read_back_fault read.RunTooShort = record { number = 8; values = [] }
