-- Worked values: what the definitions give, beside what it has to be.
use Rattle.std.specs.Prelude.{List, [], ◌∷◌, ◌++◌, ℕ, ◌+◌, ◌*◌}
use Rattle.ar4ja.specs.Worked.{Worked, ◌is◌, worked as of_codes}
use Rattle.outlet.specs.Bytes.{pack}
use Rattle.outlet.specs.Sequence.{byte_from}
use Rattle.frame.specs.Marker.{mark}

-- byte k of the attached sync marker
abbrev marker_byte : ℕ → ℕ
marker_byte k = pack (λ j. mark (8 * k + j))

-- those of the codes; the first 40 bits of the randomizing sequence, and its bits 255 to 262; and the marker
unfoldable pub worked : List Worked
worked =
    of_codes
    ++ (byte_from 0 is 0xFF) ∷ (byte_from 8 is 0x48) ∷ (byte_from 16 is 0x0E) ∷ (byte_from 24 is 0xC0) ∷ (byte_from 32 is 0x9A) ∷ (byte_from 255 is 0xFF)
    ∷ (marker_byte 0 is 0xFC) ∷ (marker_byte 1 is 0xB8) ∷ (marker_byte 2 is 0x89) ∷ (marker_byte 3 is 0x38)
    ∷ (marker_byte 4 is 0xD8) ∷ (marker_byte 5 is 0xD7) ∷ (marker_byte 6 is 0x6A) ∷ (marker_byte 7 is 0x4F)
    ∷ []
