-- A message's bytes, from the bits at the front of its block.
use Rattle.std.proofs.Common.{◌≡◌, ℕ, ◌+◌, ◌*◌, ◌/◌, ◌%◌, ◌<◌, eqb, List, get_or, drop, sym, ap, ◌∙◌, ap₂, arith, eqb→eq}
use Rattle.std.proofs.lemmas.Nat.{div-mul-add, mod-mul-add}
use Rattle.std.proofs.lemmas.List.FromFn.{length-map-range_with_len, get_or-map-range_with_len}
use Rattle.std.proofs.lemmas.List.{get_or_append_left, ext_get_or}
use Rattle.element.specs.declared.bits.Bit.{Bit}
use Rattle.element.specs.declared.bits.Bit.TheVariants.{Zero}
use Rattle.qc.specs.Shape.{whole}
use Rattle.ar4ja.specs.declared.codes.Code.{Code}
use Rattle.ar4ja.specs.Codes.{shape_of}
use Rattle.outlet.specs.Bytes.{bit_of, pack}
use Rattle.outlet.specs.Packing.{place_bit}
use Rattle.outlet.specs.PackedLaws.{pack_same}
use Rattle.outlet.proofs.Tested.{from_all}
use Rattle.frame.specs.Message.{message_len, message_byte, message_bytes}
use Rattle.line.specs.Frames.{message_bits, whole_block, block_in}
use Rattle.line.specs.Follow.{Message}
use Rattle.line.proofs.WholeBlocks.{whole_is, whole_size}

-- a byte is the one that its bits make: a computed test of every byte
pack_back : (n : ℕ) → n < 256 → pack (λ j. bit_of n j) ≡ n
pack_back n h = eqb→eq (pack (λ j. bit_of n j)) n (from_all (λ k. eqb (pack (λ j. bit_of k j)) k) 256 n tt h)

-- bit j of byte k of a message
message_bit : (code : Code) (m : List ℕ) (k j : ℕ) → j < 8 → 8 * k + j < 8 * message_len code → get_or (message_bits code m) (8 * k + j) Zero ≡ bit_of (get_or m k 0) j
unfolding message_bits place_bit
message_bit code m k j h low =
    let at : 8 * k + j ≡ k * 8 + j = omega arith in
    get_or-map-range_with_len (place_bit m) 0 (8 * message_len code) (8 * k + j) (8 * k + j) Zero low (omega arith)
    ∙ ap₂ (λ p q. bit_of (get_or m p 0) q) (ap (λ n. n / 8) at ∙ div-mul-add k 8 j h) (ap (λ n. n % 8) at ∙ mod-mul-add k 8 j h)

pub message_back : (code : Code) (m : List ℕ) (run : List Bit) → Message code m → message_bytes (block_in code m run) (message_len code) ≡ m
unfolding message_byte
message_back code m run is =
    let xs : List Bit = block_in code m run in
    let n : ℕ = message_len code in
    ext_get_or 0 (message_bytes xs n) m (length-map-range_with_len (message_byte xs) 0 n ∙ sym is.long)
    (λ k h.
    let low : k < n = omega (arith, length-map-range_with_len (message_byte xs) 0 n, h) in
    get_or-map-range_with_len (message_byte xs) 0 n k k 0 low (omega arith)
    ∙ pack_same (λ j. get_or xs (8 * k + j) Zero) (λ j. bit_of (get_or m k 0) j)
    (λ j l.
    get_or_append_left (whole_block code m) (drop (whole (shape_of code)) run) Zero (8 * k + j) (omega (arith, (whole_is code m).long, whole_size code, low, l))
    ∙ (whole_is code m).message (8 * k + j) (omega (arith, low, l))
    ∙ message_bit code m k j l (omega (arith, low, l)))
    ∙ pack_back (get_or m k 0) (is.bytes k))
