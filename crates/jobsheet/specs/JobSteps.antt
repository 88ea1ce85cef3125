-- Inner contracts: a job filled in value by value, as the code reads it.
use Rattle.std.specs.Prelude.{ℕ, List, Ok, Err, Result}
use Rattle.ar4ja.specs.declared.codes.Code.{Code}
use Rattle.jobsheet.specs.declared.names.CoderName.{CoderName}
use Rattle.jobsheet.specs.declared.names.Name.{Name}
use Rattle.jobsheet.specs.declared.names.Name.TheVariants as name
use Rattle.jobsheet.specs.declared.faults.ValueFault.{ValueFault}
use Rattle.jobsheet.specs.declared.faults.LineFault.{LineFault}
use Rattle.jobsheet.specs.declared.message.Message.{Message}
use Rattle.jobsheet.specs.declared.jobs.Job.{Job}
use Rattle.jobsheet.specs.Values.{code_value, coder_value, message_value}
use Rattle.jobsheet.specs.Jobs.{Asked, column}

-- a message and a job by what they hold
abbrev pub held : {F : Type 0} → Result Message F → Result (List ℕ) F
held (Ok m) = Ok m.digits.now
held (Err f) = Err f

abbrev pub asked : Job → Asked
asked j = record { code = j.code; coder = j.coder; message = j.message.digits.now }

abbrev pub all_asked : {F : Type 0} → Result Job F → Result Asked F
all_asked (Ok j) = Ok (asked j)
all_asked (Err f) = Err f

-- a job with one value in place of its own
abbrev pub set_code : Asked → Code → Asked
set_code a c = record { code = c; coder = a.coder; message = a.message }

abbrev pub set_coder : Asked → CoderName → Asked
set_coder a k = record { code = a.code; coder = k; message = a.message }

abbrev pub set_message : Asked → List ℕ → Asked
set_message a m = record { code = a.code; coder = a.coder; message = m }

abbrev pub with_code : Asked → Result Code ValueFault → Result Asked ValueFault
with_code a (Ok c) = Ok (set_code a c)
with_code a (Err f) = Err f

abbrev pub with_coder : Asked → Result CoderName ValueFault → Result Asked ValueFault
with_coder a (Ok k) = Ok (set_coder a k)
with_coder a (Err f) = Err f

abbrev pub with_message : Asked → Result (List ℕ) ValueFault → Result Asked ValueFault
with_message a (Ok m) = Ok (set_message a m)
with_message a (Err f) = Err f

abbrev pub with_value : Asked → Name → List ℕ → Result Asked ValueFault
with_value a name.Code w = with_code a (code_value w)
with_value a name.Coder w = with_coder a (coder_value w)
with_value a name.Message w = with_message a (message_value w)

-- the job with the value in a column, or the line's fault there
abbrev pub filled : ℕ → Asked → Name → List ℕ → Result Asked LineFault
filled k a n w = column k (with_value a n w) (λ b. Ok b)
