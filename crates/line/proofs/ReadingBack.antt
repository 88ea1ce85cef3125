-- The frame of a listed message reads as that message: its marker is exact, and its block passes.
use Rattle.std.proofs.Common.{◌≡◌, ℕ, zero, suc, ◌+◌, ◌*◌, ◌<◌, ◌≤◌, List, [], ◌++◌, length, get_or, drop, Some, None, Ok, Option, Result, sym, refl, ap, ◌∙◌, subst, ap₂, arith}
use Rattle.std.specs.List.{flat_map}
use Rattle.std.proofs.lemmas.List.FromFn.{length-map-range_with_len, get_or-map-range_with_len}
use Rattle.std.proofs.lemmas.List.{ext_get_or}
use Rattle.std.proofs.lemmas.Bool.{cond-true, cond-false, eq-eqb, le-ltb, le-leb}
use Rattle.refusal.specs.Outcome.{Outcome, Outcome.done, outcome}
use Rattle.element.specs.declared.bits.Bit.{Bit}
use Rattle.element.specs.declared.bits.Bit.TheVariants.{Zero, One}
use Rattle.element.specs.Bits.{bit_plus, weight}
use Rattle.qc.specs.Shape.{M, sent, whole}
use Rattle.qc.specs.Codeblock.{groups, Codeblock}
use Rattle.ar4ja.specs.declared.codes.Code.{Code}
use Rattle.ar4ja.specs.declared.codes.Code.TheVariants.{Half1024, TwoThirds1024, FourFifths1024}
use Rattle.ar4ja.specs.Codes.{shape_of}
use Rattle.outlet.specs.Masks.{frame_bits}
use Rattle.outlet.specs.Sequence.{s}
use Rattle.outlet.proofs.Layered.{plus_zero}
use Rattle.frame.specs.declared.faults.Orientation.{Orientation}
use Rattle.frame.specs.declared.faults.Orientation.TheVariants.{Upright}
use Rattle.frame.specs.declared.faults.ReadFault.{ReadFault}
use Rattle.frame.specs.Refusals.{read_fault}
use Rattle.frame.specs.Marker.{mark, differing, distance, found, Marked}
use Rattle.frame.specs.Message.{message_len, message_bytes}
use Rattle.frame.specs.Reading.{received_bit, received_block, MarkedCodeblock, due, judged, failing, answer_by, run_by, filled, message_by, read_answer, read_run, read_message}
use Rattle.frame.proofs.Marks.{marked_found}
use Rattle.line.specs.Frames.{frame, block, block_in}
use Rattle.line.specs.Follow.{Message}
use Rattle.line.proofs.WholeBlocks.{length_block, block_codeblock, completed_is}
use Rattle.line.proofs.Frames.{held_at, frame_marker, frame_block}
use Rattle.line.proofs.Messages.{message_back}

-- the messages of each code have 128 bytes
message_len_is : (code : Code) → message_len code ≡ 128
message_len_is Half1024 = refl
message_len_is TwoThirds1024 = refl
message_len_is FourFifths1024 = refl

no_weight : (b : Bit) → weight (bit_plus b b) ≡ 0
no_weight Zero = refl
no_weight One = refl

differing_none : (x y : ℕ → Bit) (n : ℕ) → ((i : ℕ) → i < n → x i ≡ y i) → differing x y n ≡ 0
differing_none x y zero h = refl
differing_none x y (suc n) h = ap₂ (λ a b. a + b) (differing_none x y n (λ i l. h i (omega arith))) (ap (λ (z : Bit). weight (bit_plus (x n) z)) (sym (h n (omega arith))) ∙ no_weight (x n))

judged_done : (seen : Orientation × ℕ) (o : Option ℕ) → ◌≡◌ {A = Outcome (Orientation × ℕ)} (done seen) (judged seen o) → o ≡ None
judged_done seen None e = refl
judged_done seen (Some row) e = let z : ◌≡◌ {A = ℕ} 0 1 = cc in absurd (omega arith)

-- `held` has the frames of the messages behind its opening bits, and frame k stands at `place`
module _ (code : Code) (opening : List Bit) (ms : List (List ℕ)) (k : ℕ) (low : k < length ms) (held : List Bit) (e : held ≡ opening ++ flat_map (frame code) ms)
    (place : ℕ) (at : place ≡ length opening + k * frame_bits code) where
  m : List ℕ
  m = get_or ms k []

  bit_there : (j : ℕ) → j < frame_bits code → get_or held (place + j) Zero ≡ get_or (frame code (get_or ms k [])) j Zero
  bit_there j h = ap₂ (λ (z : List Bit) (n : ℕ). get_or z (n + j) Zero) e at ∙ held_at code opening ms k j low h

  marked : Marked held place 0 Upright 0
  unfolding distance
  marked = record {
    far = sym (differing_none (λ i. get_or held (place + i) Zero) (λ i. bit_plus (mark i) Zero) 64 (λ i h. bit_there i (omega arith) ∙ frame_marker code (get_or ms k []) i h ∙ sym (plus_zero (mark i))));
    tolerated = omega arith;
  }

  received_is : received_block Upright held place code ≡ block code (get_or ms k [])
  received_is =
      let n : ℕ = sent (shape_of code) in
      ext_get_or Zero (received_block Upright held place code) (block code (get_or ms k [])) (length-map-range_with_len (received_bit Zero held place) 0 n ∙ sym (length_block code (get_or ms k [])))
      (λ i h.
      let l : i < n = omega (arith, length-map-range_with_len (received_bit Zero held place) 0 n, h) in
      let on : place + 64 + i ≡ place + (64 + i) = omega arith in
      get_or-map-range_with_len (received_bit Zero held place) 0 n i i Zero l (omega arith)
      ∙ plus_zero (bit_plus (get_or held (place + 64 + i) Zero) (s i))
      ∙ ap (λ (z : Bit). bit_plus z (s i)) (ap (λ p. get_or held p Zero) on ∙ bit_there (64 + i) (omega (arith, l)))
      ∙ frame_block code (get_or ms k []) i l)

  -- reading accepts it
  pub accepted : MarkedCodeblock held place code 0 Upright 0
  accepted = (marked, subst (λ (z : List Bit). Codeblock Zero bit_plus (shape_of code) (groups Zero (M (shape_of code)) z)) (sym received_is) (block_codeblock code (get_or ms k [])))

  module _ (message : List ℕ) (run : List Bit) (message_long : length message ≡ message_len code) (run_long : whole (shape_of code) ≤ length run)
      (there : place + frame_bits code ≤ length held) where
    pub nothing_due : due (length held) place code 0 (length message) (length run) ≡ None
    nothing_due =
        cond-true _ _ _ (eq-eqb (length message) 128 (message_long ∙ message_len_is code)) ∙ cond-false _ _ _ (le-ltb (length run) (whole (shape_of code)) run_long) ∙ cond-true _ _ _ (le-leb (place + frame_bits code) (length held) there)

    seen : found held place 0 ≡ Some (Upright, 0)
    seen = sym (marked_found held place 0 (omega arith) Upright 0 marked)

    pub run_back : (new : List Bit) → new ≡ read_run held place code 0 (length message) run → new ≡ block_in code (get_or ms k []) run
    run_back new h =
        h ∙ ap₂ (run_by held place code run) nothing_due seen
        ∙ completed_is code (get_or ms k []) run _ run_long (ap (λ (z : List Bit). z ++ drop (sent (shape_of code)) run) received_is)

    passes : (r : Result (Orientation × ℕ) ReadFault) → r ≡ Ok (Upright, 0) → outcome read_fault r ≡ read_answer held place code 0 (length message) run → failing held place code Upright run ≡ None
    passes r is h =
        judged_done (Upright, 0) (failing held place code Upright run)
        (ap (outcome read_fault) (sym is) ∙ h ∙ ap₂ (answer_by held place code run) nothing_due seen)

    pub message_read : (r : Result (Orientation × ℕ) ReadFault) → r ≡ Ok (Upright, 0) → outcome read_fault r ≡ read_answer held place code 0 (length message) run → Message code (get_or ms k [])
        → (new : List ℕ) → new ≡ read_message held place code 0 message run → new ≡ get_or ms k []
    message_read r is h sound new g =
        g ∙ ap₂ (message_by held place code message run) nothing_due seen
        ∙ ap (filled held place code message _) (passes r is h)
        ∙ ap₂ message_bytes (completed_is code (get_or ms k []) run _ run_long (ap (λ (z : List Bit). z ++ drop (sent (shape_of code)) run) received_is)) message_long
        ∙ message_back code (get_or ms k []) run sound
