-- What a job line asks for: a code, a coder and a message, or the line's fault.
use Rattle.std.specs.Prelude.{ℕ, List, [], ◌∷◌, Ok, Err, Result}
use Rattle.ar4ja.specs.declared.codes.Code.{Code}
use Rattle.jobsheet.specs.declared.names.CoderName.{CoderName}
use Rattle.jobsheet.specs.declared.names.Order.{Order}
use Rattle.jobsheet.specs.declared.names.Order.TheVariants.{CodeCoderMessage, CodeMessageCoder, CoderCodeMessage, CoderMessageCode, MessageCodeCoder, MessageCoderCode}
use Rattle.jobsheet.specs.declared.faults.ValueFault.{ValueFault}
use Rattle.jobsheet.specs.declared.faults.LineFault.{LineFault}
use Rattle.jobsheet.specs.declared.faults.LineFault.TheVariants.{Count, Value}
use Rattle.jobsheet.specs.Values.{code_value, coder_value, message_value}

-- a message goes by its digits
pub record Asked : Type 0 where
  pub code : Code
  pub coder : CoderName
  pub message : List ℕ

abbrev pub ask : Code → CoderName → List ℕ → Result Asked LineFault
ask code coder message = Ok (record { code = code; coder = coder; message = message })

-- the value in a column, if it is one, and then what follows; else the line has its fault there
abbrev pub column : {A B : Type 0} → ℕ → Result A ValueFault → (A → Result B LineFault) → Result B LineFault
column k (Ok value) next = next value
column k (Err fault) next = Err (Value k fault)

-- what three words ask for, value by value from the left
abbrev pub job_of : Order → List ℕ → List ℕ → List ℕ → Result Asked LineFault
job_of CodeCoderMessage x y z = column 1 (code_value x) (λ c. column 2 (coder_value y) (λ k. column 3 (message_value z) (λ m. ask c k m)))
job_of CodeMessageCoder x y z = column 1 (code_value x) (λ c. column 2 (message_value y) (λ m. column 3 (coder_value z) (λ k. ask c k m)))
job_of CoderCodeMessage x y z = column 1 (coder_value x) (λ k. column 2 (code_value y) (λ c. column 3 (message_value z) (λ m. ask c k m)))
job_of CoderMessageCode x y z = column 1 (coder_value x) (λ k. column 2 (message_value y) (λ m. column 3 (code_value z) (λ c. ask c k m)))
job_of MessageCodeCoder x y z = column 1 (message_value x) (λ m. column 2 (code_value y) (λ c. column 3 (coder_value z) (λ k. ask c k m)))
job_of MessageCoderCode x y z = column 1 (message_value x) (λ m. column 2 (coder_value y) (λ k. column 3 (code_value z) (λ c. ask c k m)))

-- what a line's words ask for: there are three
unfoldable pub line_job : Order → List (List ℕ) → Result Asked LineFault
line_job o [] = Err Count
line_job o (x ∷ []) = Err Count
line_job o (x ∷ y ∷ []) = Err Count
line_job o (x ∷ y ∷ z ∷ []) = job_of o x y z
line_job o (x ∷ y ∷ z ∷ w ∷ ws) = Err Count
