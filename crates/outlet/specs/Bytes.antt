-- Bits of a byte, the first the most significant.
use Rattle.std.specs.Prelude.{ℕ, ◌+◌, ◌-◌, ◌*◌, ◌/◌, ◌%◌, ◌^◌, cond, ◌==◌}
use Rattle.element.specs.Bits.{weight}
use Rattle.element.specs.declared.bits.Bit.{Bit}
use Rattle.element.specs.declared.bits.Bit.TheVariants.{Zero, One}

-- bit q of a byte, from 0
abbrev pub bit_of : ℕ → ℕ → Bit
bit_of byte q = cond (byte / 2 ^ (7 - q) % 2 == 0) Zero One

-- the byte of eight bits
abbrev pub pack : (ℕ → Bit) → ℕ
pack b =
    128 * weight (b 0) + 64 * weight (b 1) + 32 * weight (b 2) + 16 * weight (b 3)
    + 8 * weight (b 4) + 4 * weight (b 5) + 2 * weight (b 6) + weight (b 7)
