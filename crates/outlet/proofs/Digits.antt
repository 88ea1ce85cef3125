-- What holds of each byte and each place in it, by computed tests.
use Rattle.std.proofs.Common.{◌≡◌, ℕ, ◌+◌, ◌-◌, ◌*◌, ◌/◌, ◌%◌, ◌^◌, ◌<◌, Bool, true, false, cond, T, eqb, ltb, refl, ap, ◌∙◌, arith, eqb→eq}
use Rattle.std.proofs.lemmas.Bool.Decides.{nat_tests}
use Rattle.element.specs.declared.bits.Bit.{Bit}
use Rattle.element.specs.declared.bits.Bit.TheVariants.{Zero, One}
use Rattle.element.specs.Bits.{weight}
use Rattle.element.proofs.Sizes.{weight_small}
use Rattle.outlet.specs.Bytes.{bit_of, pack}
use Rattle.outlet.specs.Packing.{byte_with, byte_form}
use Rattle.outlet.specs.Storing.{Written}
use Rattle.outlet.proofs.Tested.{all_below, from_all}

bit_back : (b : Bit) → cond (eqb (weight b) 0) Zero One ≡ b
bit_back Zero = refl
bit_back One = refl

-- the bits of a byte before bit q, and that bit, fit a byte
fitting : ℕ → ℕ → ℕ → Bool
fitting w n q = ltb (n / 2 ^ (8 - q) * 2 ^ (8 - q) % 256 + w * 2 ^ (7 - q) % 256) 256

pub with_fits : (w n q : ℕ) → w < 2 → n < 256 → q < 8 → n / 2 ^ (8 - q) * 2 ^ (8 - q) % 256 + w * 2 ^ (7 - q) % 256 < 256
unfolding fitting
with_fits w n q hw hn hq =
    let t : T (ltb (n / 2 ^ (8 - q) * 2 ^ (8 - q) % 256 + w * 2 ^ (7 - q) % 256) 256) =
    from_all (λ k. fitting w n k) 8 q
    (from_all (λ m. all_below (λ k. fitting w m k) 8) 256 n
    (from_all (λ a. all_below (λ m. all_below (λ k. fitting a m k) 8) 256) 2 w tt hw) hn) hq in
    grind (arith, nat_tests, t)

-- the same by what is kept of the byte: the bits before bit q, or none, where bit q opens the byte
pub after_fits : (kept w n q : ℕ) → w < 2 → n < 256 → q < 8 → kept ≡ n / 2 ^ (8 - q) * 2 ^ (8 - q) % 256 → kept + w * 2 ^ (7 - q) % 256 < 256
after_fits kept w n q hw hn hq e = omega (arith, e, with_fits w n q hw hn hq)

pub opening_fits : (kept w q : ℕ) → w < 2 → q < 8 → kept ≡ 0 → kept + w * 2 ^ (7 - q) % 256 < 256
opening_fits kept w q hw hq e = omega (arith, e, with_fits w 0 q hw (omega arith) hq)

-- each bit of a byte with a bit written
digit : ℕ → ℕ → ℕ
digit n j = n / 2 ^ (7 - j) % 2

right : ℕ → ℕ → ℕ → ℕ → Bool
right w n q j = eqb (digit (byte_with n q w) j) (cond (ltb j q) (digit n j) (cond (eqb j q) w 0))

digits_right : (w n q j : ℕ) → w < 2 → n < 256 → q < 8 → j < 8 → byte_with n q w / 2 ^ (7 - j) % 2 ≡ cond (ltb j q) (n / 2 ^ (7 - j) % 2) (cond (eqb j q) w 0)
unfolding right digit
digits_right w n q j hw hn hq hj =
    eqb→eq (byte_with n q w / 2 ^ (7 - j) % 2) (cond (ltb j q) (n / 2 ^ (7 - j) % 2) (cond (eqb j q) w 0))
    (from_all (λ d. right w n q d) 8 j
    (from_all (λ c. all_below (λ d. right w n c d) 8) 8 q
    (from_all (λ b. all_below (λ c. all_below (λ d. right w b c d) 8) 8) 256 n
    (from_all (λ a. all_below (λ b. all_below (λ c. all_below (λ d. right a b c d) 8) 8) 256) 2 w tt hw) hn) hq) hj)

-- the bits before the one written stay
pub bit_before : (n q j : ℕ) (b : Bit) → n < 256 → q < 8 → j < q → bit_of (byte_with n q (weight b)) j ≡ bit_of n j
bit_before n q j b hn hq hj =
    let t : ltb j q ≡ true = grind (arith, nat_tests) in
    ap (λ d. cond (eqb d 0) Zero One) (digits_right (weight b) n q j (weight_small b) hn hq (omega arith) ∙ ap (λ (z : Bool). cond z (n / 2 ^ (7 - j) % 2) (cond (eqb j q) (weight b) 0)) t)

-- the bit written is there
pub bit_there : (n q : ℕ) (b : Bit) → n < 256 → q < 8 → bit_of (byte_with n q (weight b)) q ≡ b
bit_there n q b hn hq =
    let t : ltb q q ≡ false = grind (arith, nat_tests) in
    let u : eqb q q ≡ true = grind (arith, nat_tests) in
    ap (λ d. cond (eqb d 0) Zero One) (digits_right (weight b) n q q (weight_small b) hn hq hq ∙ ap (λ (z : Bool). cond z (n / 2 ^ (7 - q) % 2) (cond (eqb q q) (weight b) 0)) t ∙ ap (λ (z : Bool). cond z (weight b) 0) u)
    ∙ bit_back b

-- a byte with a bit written is the one that its bits up to that make
front : ℕ → ℕ → ℕ
front n q = pack (λ j. cond (ltb j q) (bit_of n j) Zero)

whole : ℕ → ℕ → ℕ → Bool
whole w n q = eqb (byte_with n q w) (front (byte_with n q w) (q + 1))

pub with_made : (n q : ℕ) (b : Bit) → n < 256 → q < 8 → byte_with n q (weight b) ≡ pack (λ j. cond (ltb j (q + 1)) (bit_of (byte_with n q (weight b)) j) Zero)
unfolding whole front
with_made n q b hn hq =
    eqb→eq (byte_with n q (weight b)) (front (byte_with n q (weight b)) (q + 1))
    (from_all (λ d. whole (weight b) n d) 8 q
    (from_all (λ m. all_below (λ d. whole (weight b) m d) 8) 256 n
    (from_all (λ a. all_below (λ m. all_below (λ d. whole a m d) 8) 256) 2 (weight b) tt (weight_small b)) hn) hq)

pub byte_written : (n q : ℕ) (b : Bit) → n < 256 → q < 8 → Written byte_form n q b (byte_with n q (weight b))
byte_written n q b hn hq = record { before = λ j h. bit_before n q j b hn hq h; there = bit_there n q b hn hq; made = with_made n q b hn hq }
