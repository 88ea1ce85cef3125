-- The frames of a list of messages, one behind the other: how long they are, what a randomizer makes of the marker
-- and a block, and what stands at each place.
use Rattle.std.proofs.Common.{◌≡◌, ℕ, zero, suc, ◌+◌, ◌-◌, ◌*◌, ◌%◌, ◌<◌, ltb, List, [], ◌∷◌, ◌++◌, length, get_or, sym, refl, ap, ◌∙◌, ap₂, append_assoc, le_of_suc-le-suc, not-suc-le-zero, suc-mul, arith, length-append}
use Rattle.std.specs.List.{flat_map}
use Rattle.std.proofs.lemmas.Nat.{mod-mul-add}
use Rattle.std.proofs.lemmas.List.FromFn.{length-map-range_with_len, get_or-map-range_with_len}
use Rattle.std.proofs.lemmas.List.{flat_map_more, get_or_append_left, get_or-append_right}
use Rattle.std.proofs.lemmas.Bool.{cond-true, cond-false, lt-ltb, le-ltb}
use Rattle.element.specs.declared.bits.Bit.{Bit}
use Rattle.element.specs.declared.bits.Bit.TheVariants.{Zero}
use Rattle.element.specs.Bits.{bit_plus}
use Rattle.qc.specs.Shape.{sent}
use Rattle.ar4ja.specs.declared.codes.Code.{Code}
use Rattle.ar4ja.specs.Codes.{shape_of}
use Rattle.outlet.specs.Masks.{masked, in_frame, frame_bits, randomizing, length_masked}
use Rattle.outlet.specs.Sequence.{s}
use Rattle.outlet.proofs.Layered.{plus_twice, masked_twice, masked_append, masked_none, get_or_masked}
use Rattle.frame.specs.Marker.{mark}
use Rattle.line.specs.Frames.{block, marker, frame}
use Rattle.line.proofs.WholeBlocks.{length_block}

pub length_marker : length marker ≡ 64
unfolding marker
length_marker = length-map-range_with_len mark 0 64

pub length_frame : (code : Code) (m : List ℕ) → length (frame code m) ≡ frame_bits code
unfolding frame
length_frame code m = length-append marker (masked s (block code m)) ∙ ap₂ (λ k n. k + n) length_marker (length_masked s (block code m) ∙ length_block code m)

pub length_frames : (code : Code) (ms : List (List ℕ)) → length (flat_map (frame code) ms) ≡ length ms * frame_bits code
length_frames code [] = omega arith
length_frames code (m ∷ ms) = length-append (frame code m) (flat_map (frame code) ms) ∙ omega (arith, length_frame code m, length_frames code ms, suc-mul (length ms) (frame_bits code))

pub length_written : (code : Code) (opening : List Bit) (ms : List (List ℕ)) → length (opening ++ flat_map (frame code) ms) ≡ length opening + length ms * frame_bits code
length_written code opening ms = length-append opening (flat_map (frame code) ms) ∙ ap (λ n. length opening + n) (length_frames code ms)

masked_same : (f g : ℕ → Bit) (xs : List Bit) → ((k : ℕ) → k < length xs → f k ≡ g k) → masked f xs ≡ masked g xs
masked_same f g [] h = refl
masked_same f g (x ∷ xs) h = ap₂ (λ (y : Bit) (ys : List Bit). y ∷ ys) (ap (bit_plus x) (h 0 (omega arith))) (masked_same (λ k. f (suc k)) (λ k. g (suc k)) xs (λ k l. h (suc k) (omega arith)))

-- what a randomizer adds at place j of frame n
pub mask_in : (start : ℕ) (code : Code) (n j : ℕ) → j < frame_bits code → randomizing start code (start + n * frame_bits code + j) ≡ in_frame j
mask_in start code n j h =
    let place : ℕ = start + n * frame_bits code + j in
    let d : place - start ≡ n * frame_bits code + j = omega arith in
    cond-false (ltb place start) Zero (in_frame ((place - start) % frame_bits code)) (le-ltb place start (omega arith))
    ∙ ap in_frame (ap (λ x. x % frame_bits code) d ∙ mod-mul-add n (frame_bits code) j h)

in_marker : (j : ℕ) → j < 64 → in_frame j ≡ Zero
in_marker j h = cond-true (ltb j 64) Zero (s (j - 64)) (lt-ltb j 64 h)

in_block : (i : ℕ) → in_frame (64 + i) ≡ s i
in_block i =
    let e : 64 + i - 64 ≡ i = omega arith in
    cond-false (ltb (64 + i) 64) Zero (s (64 + i - 64)) (le-ltb (64 + i) 64 (omega arith)) ∙ ap s e

-- a randomizer makes the frame of the marker and the block, at frame n
frame_masked : (code : Code) (m : List ℕ) (start n : ℕ) → masked (λ k. randomizing start code (start + n * frame_bits code + k)) (marker ++ block code m) ≡ frame code m
unfolding frame
frame_masked code m start n =
    let w : ℕ → Bit = λ k. randomizing start code (start + n * frame_bits code + k) in
    let front : masked w marker ≡ marker = masked_none w marker (λ k h. mask_in start code n k (omega (arith, length_marker)) ∙ in_marker k (omega (arith, length_marker))) in
    let back : masked (λ k. w (length marker + k)) (block code m) ≡ masked s (block code m) =
    masked_same (λ k. w (length marker + k)) s (block code m)
    (λ k h. ap (λ n. w (n + k)) length_marker ∙ mask_in start code n (64 + k) (omega (arith, length_block code m)) ∙ in_block k) in
    masked_append w marker (block code m) ∙ ap₂ (λ (x y : List Bit). x ++ y) front back

-- the outlet below a randomizer, once it took the marker and the block of one message more
pub frame_sent : (code : Code) (opening : List Bit) (ms : List (List ℕ)) (m : List ℕ) (old new : List Bit) → old ≡ opening ++ flat_map (frame code) ms
    → masked (randomizing (length opening) code) new ≡ (masked (randomizing (length opening) code) old ++ marker) ++ block code m
    → new ≡ opening ++ flat_map (frame code) (ms ++ (m ∷ []))
frame_sent code opening ms m old new e h =
    let w : ℕ → Bit = randomizing (length opening) code in
    let n : length (masked w old) ≡ length opening + length ms * frame_bits code = length_masked w old ∙ ap length e ∙ length_written code opening ms in
    sym (masked_twice w new)
    ∙ ap (masked w) (h ∙ append_assoc (masked w old) marker (block code m))
    ∙ masked_append w (masked w old) (marker ++ block code m)
    ∙ ap₂ (λ (x : List Bit) (z : ℕ). x ++ masked (λ k. w (z + k)) (marker ++ block code m)) (masked_twice w old) n
    ∙ ap₂ (λ (x y : List Bit). x ++ y) e (frame_masked code m (length opening) (length ms))
    ∙ flat_map_more (frame code) opening ms m

-- bit j of frame k
frame_at : (code : Code) (ms : List (List ℕ)) (k j : ℕ) → k < length ms → j < frame_bits code → get_or (flat_map (frame code) ms) (k * frame_bits code + j) Zero ≡ get_or (frame code (get_or ms k [])) j Zero
frame_at code [] k j h l = absurd (not-suc-le-zero h)
frame_at code (m ∷ ms) zero j h l =
    let e : 0 * frame_bits code + j ≡ j = omega arith in
    ap (λ n. get_or (frame code m ++ flat_map (frame code) ms) n Zero) e ∙ get_or_append_left (frame code m) (flat_map (frame code) ms) Zero j (omega (arith, length_frame code m))
frame_at code (m ∷ ms) (suc k) j h l =
    let e : suc k * frame_bits code + j ≡ frame_bits code + (k * frame_bits code + j) = omega (arith, suc-mul k (frame_bits code)) in
    let d : frame_bits code + (k * frame_bits code + j) - frame_bits code ≡ k * frame_bits code + j = omega arith in
    ap (λ n. get_or (frame code m ++ flat_map (frame code) ms) n Zero) e
    ∙ get_or-append_right (frame code m) (flat_map (frame code) ms) (frame_bits code) (frame_bits code + (k * frame_bits code + j)) Zero (length_frame code m) (omega arith)
    ∙ ap (λ n. get_or (flat_map (frame code) ms) n Zero) d
    ∙ frame_at code ms k j (le_of_suc-le-suc h) l

pub held_at : (code : Code) (opening : List Bit) (ms : List (List ℕ)) (k j : ℕ) → k < length ms → j < frame_bits code
    → get_or (opening ++ flat_map (frame code) ms) (length opening + k * frame_bits code + j) Zero ≡ get_or (frame code (get_or ms k [])) j Zero
held_at code opening ms k j h l =
    let place : ℕ = length opening + k * frame_bits code + j in
    let d : place - length opening ≡ k * frame_bits code + j = omega arith in
    get_or-append_right opening (flat_map (frame code) ms) (length opening) place Zero refl (omega arith) ∙ ap (λ n. get_or (flat_map (frame code) ms) n Zero) d ∙ frame_at code ms k j h l

-- the marker and the block in a frame
pub frame_marker : (code : Code) (m : List ℕ) (i : ℕ) → i < 64 → get_or (frame code m) i Zero ≡ mark i
unfolding frame marker
frame_marker code m i h = get_or_append_left marker (masked s (block code m)) Zero i (omega (arith, length_marker)) ∙ get_or-map-range_with_len mark 0 64 i i Zero h (omega arith)

pub frame_block : (code : Code) (m : List ℕ) (i : ℕ) → i < sent (shape_of code) → bit_plus (get_or (frame code m) (64 + i) Zero) (s i) ≡ get_or (block code m) i Zero
unfolding frame
frame_block code m i h =
    let d : 64 + i - 64 ≡ i = omega arith in
    ap (λ (z : Bit). bit_plus z (s i))
    (get_or-append_right marker (masked s (block code m)) 64 (64 + i) Zero length_marker (omega arith)
    ∙ ap (λ n. get_or (masked s (block code m)) n Zero) d
    ∙ get_or_masked s (block code m) i Zero Zero (omega (arith, length_block code m)))
    ∙ plus_twice (get_or (block code m) i Zero) (s i)
