-- The whole block of a message, and the runs that have it at their front.
use Rattle.std.proofs.Common.{◌≡◌, ℕ, ◌+◌, ◌-◌, ◌*◌, ◌<◌, ◌≤◌, ltb, List, ◌++◌, length, get_or, drop, replicate, sym, refl, ap, ◌∙◌, mul_comm, add-mul, arith, length-append, length-drop}
use native.Mathlib.Decide.{dec_lt}
use lib.ListN.{length-replicate}
use Rattle.std.proofs.lemmas.Bool.{cond-false, le-ltb}
use Rattle.std.proofs.lemmas.Nat.{mul-add-lt}
use Rattle.std.proofs.lemmas.List.FromFn.{length-map-range_with_len}
use Rattle.std.proofs.lemmas.List.{length-take-le, get_or_append_left, get_or-append_right, get_or-take, get_or-drop, ext_get_or}
use Rattle.element.specs.declared.bits.Bit.{Bit}
use Rattle.element.specs.declared.bits.Bit.TheVariants.{Zero}
use Rattle.element.specs.Bits.{bit_plus, bit_laws}
use Rattle.qc.specs.Shape.{M, sent, whole}
use Rattle.qc.specs.Codeblock.{groups, AllZero, Codeblock, completed}
use Rattle.qc.specs.Coding.{Coded, with_parity, encoded, encoded_run}
use Rattle.qc.proofs.Soundness.{Sound, sounds}
use Rattle.qc.proofs.Tabulated.{Tabulated, tables_hold}
use Rattle.qc.proofs.Completion.{completed_length, completed_front, completed_rest}
use Rattle.qc.proofs.Encoded.{parity_length, parity_front, encoded_length, encoded_rest}
use Rattle.qc.proofs.CodingLaws.{encoded_zero, is_coded}
use Rattle.qc.proofs.Codeblocks.{zero_codeblock, codeblock_zero}
use Rattle.qc.proofs.Mapped.{codeblock_same}
use Rattle.ar4ja.specs.declared.codes.Code.{Code}
use Rattle.ar4ja.specs.declared.codes.Code.TheVariants.{Half1024, TwoThirds1024, FourFifths1024}
use Rattle.ar4ja.specs.Codes.{shape_of, shapes_sound, tables_of, tables_ruled}
use Rattle.outlet.specs.Packing.{place_bit}
use Rattle.frame.specs.Message.{message_len}
use Rattle.line.specs.Frames.{message_bits, whole_block, block, WholeBlock, block_in}

-- the numbers of a code: a message fills its groups, and is a part of the block
pub message_size : (code : Code) → 8 * message_len code ≡ (shape_of code).K * M (shape_of code)
message_size Half1024 = refl
message_size TwoThirds1024 = refl
message_size FourFifths1024 = refl

pub length_message_bits : (code : Code) (m : List ℕ) → length (message_bits code m) ≡ 8 * message_len code
unfolding message_bits
length_message_bits code m = length-map-range_with_len (place_bit m) 0 (8 * message_len code)

module _ (code : Code) where
  sound : Sound (shape_of code)
  sound = sounds (shape_of code) (shapes_sound code)

  good : Tabulated (shape_of code) (tables_of code)
  good = tables_hold (shape_of code) (tables_of code) (tables_ruled code)

  -- a whole block is a message, two groups of parity and one punctured group
  pub whole_size : whole (shape_of code) ≡ 8 * message_len code + 3 * M (shape_of code)
  whole_size = omega (arith, message_size code, add-mul (shape_of code).K 3 (M (shape_of code)))

  pub sent_size : sent (shape_of code) ≡ 8 * message_len code + 2 * M (shape_of code)
  sent_size = omega (arith, message_size code, add-mul (shape_of code).K 2 (M (shape_of code)))

  -- a coded list keeps its message
  module _ (xs : List Bit) (fits : whole (shape_of code) ≤ length xs) where
    room : whole (shape_of code) ≤ length (with_parity Zero bit_plus (shape_of code) (tables_of code) xs)
    room = omega (arith, parity_length bit_laws (shape_of code) sound (tables_of code) xs fits, fits)

    pub encoded_front : (i : ℕ) → i < 8 * message_len code → get_or (encoded Zero bit_plus (shape_of code) (tables_of code) xs) i Zero ≡ get_or xs i Zero
    unfolding encoded
    encoded_front i h =
        completed_front Zero bit_plus (shape_of code) (with_parity Zero bit_plus (shape_of code) (tables_of code) xs) room i (omega (arith, sent_size, h))
        ∙ parity_front bit_laws (shape_of code) sound (tables_of code) xs fits i (omega (arith, message_size code, h))

    -- what was coded is a codeblock without its punctured group too
    pub encoded_block : Codeblock Zero bit_plus (shape_of code) (groups Zero (M (shape_of code)) (with_parity Zero bit_plus (shape_of code) (tables_of code) xs))
    unfolding encoded
    encoded_block =
        zero_codeblock bit_laws (shape_of code) sound (with_parity Zero bit_plus (shape_of code) (tables_of code) xs) room (encoded_zero bit_laws (shape_of code) sound (tables_of code) good xs fits)

    pub encoded_sent : (i : ℕ) → i < sent (shape_of code) → get_or (encoded Zero bit_plus (shape_of code) (tables_of code) xs) i Zero ≡ get_or (with_parity Zero bit_plus (shape_of code) (tables_of code) xs) i Zero
    unfolding encoded
    encoded_sent i h = completed_front Zero bit_plus (shape_of code) (with_parity Zero bit_plus (shape_of code) (tables_of code) xs) room i h

module _ (code : Code) (m : List ℕ) where
  padded : List Bit
  padded = message_bits code m ++ replicate (3 * M (shape_of code)) Zero

  padded_long : length padded ≡ whole (shape_of code)
  unfolding padded
  padded_long =
      length-append (message_bits code m) (replicate (3 * M (shape_of code)) Zero)
      ∙ omega (arith, length_message_bits code m, length-replicate (3 * M (shape_of code)) Zero, whole_size code)

  fits : whole (shape_of code) ≤ length padded
  fits = omega (arith, padded_long)

  padded_front : (i : ℕ) → i < 8 * message_len code → get_or padded i Zero ≡ get_or (message_bits code m) i Zero
  unfolding padded
  padded_front i h = get_or_append_left (message_bits code m) (replicate (3 * M (shape_of code)) Zero) Zero i (omega (arith, length_message_bits code m, h))

  coded : Coded Zero bit_plus (shape_of code) (tables_of code) padded
  coded = is_coded bit_laws (shape_of code) (sound code) (tables_of code) (good code) padded fits

  pub whole_is : WholeBlock code m (whole_block code m)
  unfolding whole_block padded
  whole_is = record {
    long = encoded_length bit_laws (shape_of code) (sound code) (tables_of code) padded fits ∙ padded_long;
    message = λ i h. encoded_front code padded fits i h ∙ padded_front i h;
    zero_rows = coded.zero_rows;
    only = λ ys front zeros i h. coded.only ys (λ j l. padded_front j (omega (arith, message_size code, l)) ∙ sym (front j (omega (arith, message_size code, l)))) zeros i h;
  }

  pub length_block : length (block code m) ≡ sent (shape_of code)
  length_block = length-take-le (sent (shape_of code)) (whole_block code m) (omega (arith, whole_is.long, whole_size code, sent_size code))

  -- the part that is sent is a codeblock
  pub block_codeblock : Codeblock Zero bit_plus (shape_of code) (groups Zero (M (shape_of code)) (block code m))
  unfolding whole_block padded
  block_codeblock =
      codeblock_same bit_laws (shape_of code) (sound code) (groups Zero (M (shape_of code)) (with_parity Zero bit_plus (shape_of code) (tables_of code) padded)) (groups Zero (M (shape_of code)) (block code m))
      (λ g i hg hi.
      let c = shape_of code in
      let low : g * M c + i < sent c = omega (arith, mul-add-lt g (M c) i (c.K + 2) hg hi, mul_comm (4 * c.m) (c.K + 2)) in
      sym (get_or-take (sent c) (whole_block code m) (g * M c + i) Zero low ∙ encoded_sent code padded fits (g * M c + i) low))
      (encoded_block code padded fits)

  -- a list as long as a run is that run with the whole block at its front
  module _ (xs run : List Bit) (there : whole (shape_of code) ≤ length run) (long : length xs ≡ length run) where
    pub block_is : ((i : ℕ) → i < 8 * message_len code → get_or xs i Zero ≡ get_or (message_bits code m) i Zero)
        → AllZero Zero bit_plus (shape_of code) (groups Zero (M (shape_of code)) xs)
        → ((i : ℕ) → whole (shape_of code) ≤ i → get_or xs i Zero ≡ get_or run i Zero) → xs ≡ block_in code m run
    block_is front zeros rest =
        let n = whole (shape_of code) in
        ext_get_or Zero xs (block_in code m run) (long ∙ sym (length-append (whole_block code m) (drop n run) ∙ omega (arith, whole_is.long, length-drop n run, there))) (λ i h. go i (dec_lt i n))
      where
        go : (i : ℕ) → Dec (i < whole (shape_of code)) → get_or xs i Zero ≡ get_or (block_in code m run) i Zero
        go i (yes low) = whole_is.only xs front zeros i low ∙ sym (get_or_append_left (whole_block code m) (drop (whole (shape_of code)) run) Zero i (omega (arith, whole_is.long, low)))
        go i (no high) =
            let n = whole (shape_of code) in
            let at : n + (i - n) ≡ i = omega arith in
            rest i (omega arith)
            ∙ sym (get_or-append_right (whole_block code m) (drop n run) n i Zero whole_is.long (omega arith) ∙ get_or-drop n run (i - n) Zero ∙ ap (λ k. get_or run k Zero) at)

  -- a run with the message's bits at its front, coded
  pub coded_is : (run old new : List Bit) → whole (shape_of code) ≤ length run → old ≡ message_bits code m ++ drop (8 * message_len code) run
      → new ≡ encoded_run Zero bit_plus (shape_of code) (tables_of code) old → new ≡ block_in code m run
  coded_is run old new there e h =
      let c = shape_of code in
      let t = tables_of code in
      let n = 8 * message_len code in
      let long : length old ≡ length run = ap length e ∙ length-append (message_bits code m) (drop n run) ∙ omega (arith, length_message_bits code m, length-drop n run, there, whole_size code) in
      let fit : whole c ≤ length old = omega (arith, long, there) in
      let is : new ≡ encoded Zero bit_plus c t old = h ∙ cond-false (ltb (length old) (whole c)) old (encoded Zero bit_plus c t old) (le-ltb (length old) (whole c) fit) in
      is
      ∙ block_is (encoded Zero bit_plus c t old) run there (encoded_length bit_laws c (sound code) t old fit ∙ long)
      (λ i l. encoded_front code old fit i l ∙ ap (λ (z : List Bit). get_or z i Zero) e ∙ get_or_append_left (message_bits code m) (drop n run) Zero i (omega (arith, length_message_bits code m, l)))
      (encoded_zero bit_laws c (sound code) t (good code) old fit)
      (λ i l.
      let at : n + (i - n) ≡ i = omega (arith, whole_size code, l) in
      encoded_rest bit_laws c (sound code) t old fit i l ∙ ap (λ (z : List Bit). get_or z i Zero) e
      ∙ get_or-append_right (message_bits code m) (drop n run) n i Zero (length_message_bits code m) (omega (arith, whole_size code, l)) ∙ get_or-drop n run (i - n) Zero ∙ ap (λ k. get_or run k Zero) at)

  -- a run with the sent part at its front, completed
  pub completed_is : (run old : List Bit) → whole (shape_of code) ≤ length run → old ≡ block code m ++ drop (sent (shape_of code)) run → completed Zero bit_plus (shape_of code) old ≡ block_in code m run
  completed_is run old there e =
      let c = shape_of code in
      let n = sent c in
      let long : length old ≡ length run = ap length e ∙ length-append (block code m) (drop n run) ∙ omega (arith, length_block, length-drop n run, there, whole_size code, sent_size code) in
      let fit : whole c ≤ length old = omega (arith, long, there) in
      let inside : (i : ℕ) → i < n → get_or old i Zero ≡ get_or (block code m) i Zero = λ i l. ap (λ (z : List Bit). get_or z i Zero) e ∙ get_or_append_left (block code m) (drop n run) Zero i (omega (arith, length_block, l)) in
      let passes : Codeblock Zero bit_plus c (groups Zero (M c) old) =
      codeblock_same bit_laws c (sound code) (groups Zero (M c) (block code m)) (groups Zero (M c) old)
      (λ g i hg hi. sym (inside (g * M c + i) (omega (arith, mul-add-lt g (M c) i (c.K + 2) hg hi, mul_comm (4 * c.m) (c.K + 2))))) block_codeblock in
      block_is (completed Zero bit_plus c old) run there (completed_length Zero bit_plus c old fit ∙ long)
      (λ i l.
      let low : i < n = omega (arith, sent_size code, l) in
      completed_front Zero bit_plus c old fit i low ∙ inside i low ∙ get_or-take n (whole_block code m) i Zero low ∙ whole_is.message i l)
      (codeblock_zero bit_laws c (sound code) old fit passes)
      (λ i l.
      let at : n + (i - n) ≡ i = omega (arith, whole_size code, sent_size code, l) in
      completed_rest Zero bit_plus c old fit i l ∙ ap (λ (z : List Bit). get_or z i Zero) e
      ∙ get_or-append_right (block code m) (drop n run) n i Zero length_block (omega (arith, whole_size code, sent_size code, l)) ∙ get_or-drop n run (i - n) Zero ∙ ap (λ k. get_or run k Zero) at)
