-- That a byte is a cell of eight bits, what a store of bytes holds, and that the packed outlet is lawful.
use Rattle.std.specs.Prelude.{◌≡◌, ℕ, ◌<◌, List, vec_len, refl}
use Rattle.std.proofs.Common.{ap, arith}
use Rattle.element.specs.declared.bits.Bit.{Bit}
use Rattle.element.specs.Bits.{weight}
use Rattle.outlet.specs.Bytes.{pack}
use Rattle.outlet.specs.Meaning.{Lawful}
use Rattle.outlet.specs.Storing.{FormLaws, stored_bit, stored_bits}
use Rattle.outlet.specs.StoreLaws.{unstored, store_lawful}
use Rattle.outlet.specs.Packing.{place_bit, packed_bits, packed_room, byte_form, Packs}
use Rattle.outlet.specs.declared.cell.Cell.{Ghosts}
use Rattle.outlet.specs.declared.store.Stored.{Stored}

pub pack_same : (f g : ℕ → Bit) → ((j : ℕ) → j < 8 → f j ≡ g j) → pack f ≡ pack g
pack_same f g h =
    let e0 = ap weight (h 0 (omega arith)) in
    let e1 = ap weight (h 1 (omega arith)) in
    let e2 = ap weight (h 2 (omega arith)) in
    let e3 = ap weight (h 3 (omega arith)) in
    let e4 = ap weight (h 4 (omega arith)) in
    let e5 = ap weight (h 5 (omega arith)) in
    let e6 = ap weight (h 6 (omega arith)) in
    let e7 = ap weight (h 7 (omega arith)) in
    omega arith

pub byte_laws : FormLaws 8 byte_form
byte_laws = record { some = omega arith; few = omega arith; same = pack_same }

pub packed_is : (xs : List ℕ) (n : ℕ) → stored_bits 8 byte_form xs n ≡ packed_bits xs n
unfolding stored_bit place_bit
packed_is xs n = refl

pub unpacked : (xs : List ℕ) (n : ℕ) → Packs xs xs n n
unpacked xs n = unstored 8 byte_form xs n

-- what a packed outlet is made of
abbrev pub byte_cell : Ghosts ℕ
byte_cell = record { PLACES = 8; form = byte_form }

pub packed_lawful : Lawful {S = Stored ℕ byte_cell} (λ o. packed_bits o.bytes.items o.held) (λ o. packed_room (vec_len o.bytes)) (λ o p. Packs o.bytes.items p.bytes.items o.held p.held)
unfolding stored_bit place_bit
packed_lawful = store_lawful 8 byte_form (λ o. o.bytes.items) (λ o. vec_len o.bytes) (λ o. o.held) (λ o. o.bytes.ok.0) (λ o. o.fits)
