-- The parity that a coder leaves behind a message.
use Rattle.std.proofs.Common.{◌≡◌, ℕ, ◌+◌, ◌*◌, ◌/◌, ◌%◌, ◌<◌, ◌≤◌, List, ◌++◌, map, length, get_or, take, drop, sym, ap, ◌∙◌, ap₂, arith}
use Rattle.std.specs.List.{range_with_len}
use Rattle.std.proofs.lemmas.List.{get_or_append_left, length-append, ext_get_or, get_or-drop, get_or-take}
use Rattle.std.proofs.lemmas.List.FromFn.{length-map-range_with_len, get_or-map-range_with_len}
use Rattle.element.specs.declared.bits.Bit.{Bit}
use Rattle.element.specs.declared.bits.Bit.TheVariants.{Zero}
use Rattle.element.specs.Bits.{bit_plus, bit_laws}
use Rattle.qc.specs.Shape.{Shape, M, sent, whole}
use Rattle.qc.specs.Segments.{segments}
use Rattle.qc.specs.Coding.{encoded}
use Rattle.qc.proofs.Soundness.{sounds}
use Rattle.qc.proofs.Encoded.{parity_alike, encoded_parity}
use Rattle.ar4ja.specs.declared.codes.Code.{Code}
use Rattle.ar4ja.specs.declared.codes.Code.TheVariants.{Half1024, TwoThirds1024, FourFifths1024}
use Rattle.ar4ja.specs.Codes.{shape_of, tables_of, shapes_sound}
use Rattle.jobsheet.specs.Values.{message_bit, message_bits}
use Rattle.jobsheet.specs.Parity.{parity_bit, hex_digit, nibble, digit_at, digits, parity_hex}

-- a whole block of any code fits in 2,560 elements
pub whole_fits : (code : Code) → whole (shape_of code) ≤ 2560
whole_fits Half1024 = omega arith
whole_fits TwoThirds1024 = omega arith
whole_fits FourFifths1024 = omega arith

-- where the parity stands: behind the 1,024 bits of the message
pub record Sizes (c : Shape) : Type 0 where
  pub segment : (i : ℕ) → i < 2 * M c → i / c.m < 8
  pub within : (i : ℕ) → i % c.m < c.m
  pub place : (i : ℕ) → i < 2 * M c → (4 * c.K + i / c.m) * c.m + i % c.m ≡ 1024 + i
  pub message : (r s : ℕ) → r < 4 * c.K → s < c.m → r * c.m + s < 1024
  pub whole_digits : 4 * (M c / 2) ≡ 2 * M c
  pub few_digits : M c / 2 ≤ 256
  pub sent : sent c ≡ 1024 + 2 * M c
  pub whole : 1024 ≤ whole c

pub sizes : (code : Code) → Sizes (shape_of code)
sizes Half1024 = record { segment = λ i h. omega arith; within = λ i. omega arith; place = λ i h. omega arith; message = λ r s h k. omega arith; whole_digits = omega arith; few_digits = omega arith; sent = omega arith; whole = omega arith }
sizes TwoThirds1024 = record { segment = λ i h. omega arith; within = λ i. omega arith; place = λ i h. omega arith; message = λ r s h k. omega arith; whole_digits = omega arith; few_digits = omega arith; sent = omega arith; whole = omega arith }
sizes FourFifths1024 = record { segment = λ i h. omega arith; within = λ i. omega arith; place = λ i h. omega arith; message = λ r s h k. omega arith; whole_digits = omega arith; few_digits = omega arith; sent = omega arith; whole = omega arith }

module _ (code : Code) (w : List ℕ) (rest : List Bit) (fits : whole (shape_of code) ≤ 1024 + length rest) where
  abbrev run : List Bit
  run = message_bits w ++ rest

  run_fits : whole (shape_of code) ≤ length run
  run_fits = omega (arith, length-append (message_bits w) rest, length-map-range_with_len (message_bit w) 0 1024, fits)

  -- the run's message is the message
  message_there : (r s : ℕ) → r < 4 * (shape_of code).K → s < (shape_of code).m → segments Zero (shape_of code).m run r s ≡ segments Zero (shape_of code).m (message_bits w) r s
  message_there r s hr hs =
      get_or_append_left (message_bits w) rest Zero (r * (shape_of code).m + s)
      (omega (arith, length-map-range_with_len (message_bit w) 0 1024, (sizes code).message r s hr hs))

  pub parity_there : (i : ℕ) → i < 2 * M (shape_of code) → get_or (encoded Zero bit_plus (shape_of code) (tables_of code) run) (1024 + i) Zero ≡ parity_bit code (message_bits w) i
  unfolding parity_bit
  parity_there i h =
      let c = shape_of code in
      let ok = sounds c (shapes_sound code) in
      ap (λ p. get_or (encoded Zero bit_plus c (tables_of code) run) p Zero) (sym ((sizes code).place i h))
      ∙ encoded_parity bit_laws c ok (tables_of code) run run_fits (i / c.m) (i % c.m) ((sizes code).segment i h) ((sizes code).within i)
      ∙ parity_alike bit_laws c ok (tables_of code) (segments Zero c.m run) (segments Zero c.m (message_bits w)) message_there (i / c.m) (i % c.m)

-- digits depend on their bits alone
digit_same : (x y : ℕ → Bit) (k : ℕ) → x (4 * k) ≡ y (4 * k) → x (4 * k + 1) ≡ y (4 * k + 1) → x (4 * k + 2) ≡ y (4 * k + 2) → x (4 * k + 3) ≡ y (4 * k + 3) → digit_at x k ≡ digit_at y k
unfolding digit_at
digit_same x y k e f g h =
    ap₂ (λ b c. hex_digit (nibble b c (x (4 * k + 2)) (x (4 * k + 3)))) e f ∙ ap₂ (λ b c. hex_digit (nibble (y (4 * k)) (y (4 * k + 1)) b c)) g h

hex_same : (x y : ℕ → Bit) (n : ℕ) → ((i : ℕ) → i < 4 * n → x i ≡ y i) → map (digit_at x) (range_with_len 0 n) ≡ map (digit_at y) (range_with_len 0 n)
hex_same x y n e =
    ext_get_or 0 _ _ (length-map-range_with_len (digit_at x) 0 n ∙ sym (length-map-range_with_len (digit_at y) 0 n))
    (λ k h. let low : k < n = omega (arith, length-map-range_with_len (digit_at x) 0 n) in
    get_or-map-range_with_len (digit_at x) 0 n k k 0 low (omega arith)
    ∙ digit_same x y k (e _ (omega arith)) (e _ (omega arith)) (e _ (omega arith)) (e _ (omega arith))
    ∙ sym (get_or-map-range_with_len (digit_at y) 0 n k k 0 low (omega arith)))

-- the digits of the bits behind the message are those of the parity
pub hex_there : (code : Code) (w : List ℕ) (ys : List Bit) → ((i : ℕ) → i < 2 * M (shape_of code) → get_or ys (1024 + i) Zero ≡ parity_bit code (message_bits w) i)
    → (k n : ℕ) → k ≡ 2 * M (shape_of code) → n ≡ digits code → map (digit_at (λ i. get_or (take k (drop 1024 ys)) i Zero)) (range_with_len 0 n) ≡ parity_hex code w
unfolding parity_hex
hex_there code w ys there k n e long =
    hex_same (λ i. get_or (take k (drop 1024 ys)) i Zero) (parity_bit code (message_bits w)) n
    (λ i h. let low : i < 2 * M (shape_of code) = omega (arith, (sizes code).whole_digits) in
    get_or-take k (drop 1024 ys) i Zero (omega arith) ∙ get_or-drop 1024 ys i Zero ∙ there i low)
    ∙ ap (λ k. map (digit_at (parity_bit code (message_bits w))) (range_with_len 0 k)) long

pub length_parity : (code : Code) (w : List ℕ) → length (parity_hex code w) ≡ digits code
unfolding parity_hex
length_parity code w = length-map-range_with_len (digit_at (parity_bit code (message_bits w))) 0 (digits code)
