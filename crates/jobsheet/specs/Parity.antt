-- The parity of a message, a then b, in hex with a message's digits.
use Rattle.std.specs.Prelude.{ℕ, ◌+◌, ◌*◌, ◌/◌, ◌%◌, cond, List, map, nat_lt}
use Rattle.std.specs.List.{range_with_len}
use Rattle.element.specs.Bits.{weight}
use Rattle.element.specs.declared.bits.Bit.{Bit}
use Rattle.element.specs.declared.bits.Bit.TheVariants.{Zero}
use Rattle.element.specs.Bits.{bit_plus}
use Rattle.qc.specs.Shape.{M}
use Rattle.qc.specs.Segments.{segments}
use Rattle.qc.specs.Coding.{parity}
use Rattle.ar4ja.specs.declared.codes.Code.{Code}
use Rattle.ar4ja.specs.Codes.{shape_of, tables_of}
use Rattle.jobsheet.specs.Values.{message_bits}

-- bit i of the parity of a message
unfoldable pub parity_bit : Code → List Bit → ℕ → Bit
parity_bit code message i =
    let m = (shape_of code).m in
    parity Zero bit_plus (shape_of code) (tables_of code) (segments Zero m message) (i / m) (i % m)

-- the digit of a number below 16
abbrev pub hex_digit : ℕ → ℕ
hex_digit n = cond (nat_lt n 10) (48 + n) (55 + n)

-- four bits as a number, the first the most significant
abbrev pub nibble : Bit → Bit → Bit → Bit → ℕ
nibble p q r s = 8 * weight p + 4 * weight q + 2 * weight r + weight s

-- digit k of a row of bits
unfoldable pub digit_at : (ℕ → Bit) → ℕ → ℕ
digit_at x k = hex_digit (nibble (x (4 * k)) (x (4 * k + 1)) (x (4 * k + 2)) (x (4 * k + 3)))

-- how many digits the parity has: 2M bits
abbrev pub digits : Code → ℕ
digits code = M (shape_of code) / 2

-- the parity of the message of 256 digits
unfoldable pub parity_hex : Code → List ℕ → List ℕ
parity_hex code message = map (digit_at (parity_bit code (message_bits message))) (range_with_len 0 (digits code))
