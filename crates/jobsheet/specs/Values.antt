-- The values of a job line: what a word says as a code, as a coder and as a message, or its fault.
use Rattle.std.specs.Prelude.{ℕ, ◌-◌, ◌/◌, ◌%◌, ◌^◌, Bool, cond, ◌&&◌, ◌||◌, List, [], ◌∷◌, map, length, Ok, Err, codes, Result, ◌==◌, nat_le, slice_index}
use Rattle.std.specs.List.{list_all, range_with_len}
use Rattle.std.specs.Str.{bytes_eq}
use Rattle.refusal.specs.Outcome.{Outcome, Outcome.done, Outcome.refused}
use Rattle.element.specs.declared.bits.Bit.{Bit}
use Rattle.element.specs.Bits.{bit_if}
use Rattle.ar4ja.specs.declared.codes.Code.{Code}
use Rattle.ar4ja.specs.declared.codes.CodeFault.TheVariants.{Unknown}
use Rattle.ar4ja.specs.Codes.{named}
use Rattle.jobsheet.specs.declared.names.CoderName.{CoderName}
use Rattle.jobsheet.specs.declared.names.CoderName.TheVariants.{Table, Check}
use Rattle.jobsheet.specs.declared.faults.ValueFault.{ValueFault}
use Rattle.jobsheet.specs.declared.faults.ValueFault.TheVariants.{NoCode, Unreadable, WrongLength}

-- a digit 0 to 9, and one 0 to 9 or A to F with its value
abbrev pub is_digit : ℕ → Bool
is_digit b = nat_le 48 b && nat_le b 57

abbrev pub is_hex : ℕ → Bool
is_hex b = (nat_le 48 b && nat_le b 57) || (nat_le 65 b && nat_le b 70)

abbrev pub hex_value : ℕ → ℕ
hex_value b = cond (nat_le b 57) (b - 48) (b - 55)

abbrev pub all_hex : List ℕ → Bool
all_hex = list_all is_hex

-- a code is one digit, the number of a code
abbrev pub code_named : Outcome Code → Result Code ValueFault
code_named (done code) = Ok code
code_named (refused n) = Err (NoCode Unknown)

abbrev pub code_value : List ℕ → Result Code ValueFault
code_value [] = Err Unreadable
code_value (d ∷ []) = cond (is_digit d) (code_named (named (d - 48))) (Err Unreadable)
code_value (d ∷ e ∷ ds) = Err Unreadable

abbrev pub coder_word : CoderName → List ℕ
coder_word Table = codes "table"
coder_word Check = codes "check"

abbrev pub coder_value : List ℕ → Result CoderName ValueFault
coder_value w =
    cond (bytes_eq w (coder_word Table)) (Ok Table)
    (cond (bytes_eq w (coder_word Check)) (Ok Check) (Err Unreadable))

-- a message is 256 digits 0 to 9 or A to F: another byte comes before another length
abbrev pub message_value : List ℕ → Result (List ℕ) ValueFault
message_value w = cond (all_hex w) (cond (length w == 256) (Ok w) (Err WrongLength)) (Err Unreadable)

-- bit i of a message by its digits, four to a digit, the first the most significant
unfoldable pub message_bit : List ℕ → ℕ → Bit
message_bit w i = bit_if (hex_value (slice_index w (i / 4)) / 2 ^ (3 - i % 4) % 2 == 1)

abbrev pub message_bits : List ℕ → List Bit
message_bits w = map (message_bit w) (range_with_len 0 1024)
