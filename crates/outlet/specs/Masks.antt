-- A list of bits with a bit added at each place: what a layer shows.
use Rattle.std.specs.Prelude.{◌≡◌, ℕ, suc, ◌+◌, ◌-◌, ◌%◌, cond, List, [], ◌∷◌, length, nat_lt, refl}
use Rattle.std.proofs.Common.{ap}
use Rattle.element.specs.declared.bits.Bit.{Bit}
use Rattle.element.specs.declared.bits.Bit.TheVariants.{Zero, One}
use Rattle.element.specs.Bits.{bit_plus}
use Rattle.qc.specs.Shape.{sent}
use Rattle.ar4ja.specs.declared.codes.Code.{Code}
use Rattle.ar4ja.specs.Codes.{shape_of}
use Rattle.outlet.specs.Sequence.{s}

-- the list with m(k) added to bit k
abbrev pub masked : (ℕ → Bit) → List Bit → List Bit
masked m [] = []
masked m (b ∷ bs) = bit_plus b (m 0) ∷ masked (λ k. m (suc k)) bs

-- an inverter adds one everywhere
abbrev pub inverting : ℕ → Bit
inverting k = One

-- in a frame nothing is added to the attached sync marker, which is its first 64 bits; then the sequence
abbrev pub in_frame : ℕ → Bit
in_frame q = cond (nat_lt q 64) Zero (s (q - 64))

-- how many bits a frame of a code has: the attached sync marker, then the block
abbrev pub frame_bits : Code → ℕ
frame_bits code = 64 + sent (shape_of code)

-- a randomizer adds nothing before its start place; frames of the code follow one another from there
abbrev pub randomizing : ℕ → Code → ℕ → Bit
randomizing start code k = cond (nat_lt k start) Zero (in_frame ((k - start) % frame_bits code))

pub length_masked : (m : ℕ → Bit) (bs : List Bit) → length (masked m bs) ≡ length bs
length_masked m [] = refl
length_masked m (b ∷ bs) = ap suc (length_masked (λ k. m (suc k)) bs)
