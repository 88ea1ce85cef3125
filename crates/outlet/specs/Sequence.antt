-- The randomizing sequence s: eight ones, then s(i + 8) = s(i + 7) + s(i + 5) + s(i + 3) + s(i), which is
-- the recurrence of the polynomial x^8 + x^7 + x^5 + x^3 + 1.
use Rattle.std.specs.Prelude.{ℕ, zero, suc, ◌+◌}
use Rattle.element.specs.declared.bits.Bit.{Bit}
use Rattle.element.specs.declared.bits.Bit.TheVariants.{One}
use Rattle.element.specs.Bits.{bit_plus}
use Rattle.outlet.specs.Bytes.{pack}

-- eight bits in a row: s(i) to s(i + 7)
abbrev pub Register : Type 0
Register = Bit × Bit × Bit × Bit × Bit × Bit × Bit × Bit

abbrev pub ones : Register
ones = (One, One, One, One, One, One, One, One)

-- s(i + 1) to s(i + 8)
abbrev pub shifted : Register → Register
shifted t = (t.1, t.2, t.3, t.4, t.5, t.6, t.7, bit_plus (bit_plus (bit_plus t.7 t.5) t.3) t.0)

abbrev pub from_register : Register → ℕ → Bit
from_register t zero = t.0
from_register t (suc n) = from_register (shifted t) n

unfoldable pub s : ℕ → Bit
s i = from_register ones i

-- s(i) to s(i + 7) as a byte
unfoldable pub byte_from : ℕ → ℕ
byte_from i = pack (λ j. s (i + j))
