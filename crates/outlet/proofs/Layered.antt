-- What a layer makes of what the outlet below answers.
use Rattle.std.proofs.Common.{◌≡◌, ℕ, zero, suc, ◌+◌, ◌-◌, ◌%◌, ◌<◌, ltb, List, [], ◌∷◌, ◌++◌, length, get_or, refl, ap, ◌∙◌, ap₂, le_of_suc-le-suc, not-suc-le-zero, add-zero, suc-add, zero-add, arith}
use Rattle.std.proofs.lemmas.Bool.{cond-true, lt-ltb}
use Rattle.std.proofs.lemmas.Bool.Decides.{nat_tests}
use Rattle.element.specs.declared.bits.Bit.{Bit}
use Rattle.element.specs.declared.bits.Bit.TheVariants.{Zero, One}
use Rattle.element.specs.Bits.{bit_plus, bit_laws}
use Rattle.ar4ja.specs.declared.codes.Code.{Code}
use Rattle.outlet.specs.Masks.{masked, in_frame, frame_bits, randomizing, length_masked}

pub plus_zero : (b : Bit) → bit_plus b Zero ≡ b
plus_zero Zero = refl
plus_zero One = refl

pub plus_twice : (a b : Bit) → bit_plus (bit_plus a b) b ≡ a
plus_twice a b = bit_laws.assoc a b b ∙ ap (bit_plus a) (bit_laws.cancels b) ∙ plus_zero a

pub masked_twice : (m : ℕ → Bit) (bs : List Bit) → masked m (masked m bs) ≡ bs
masked_twice m [] = refl
masked_twice m (b ∷ bs) = ap₂ (λ (x : Bit) (xs : List Bit). x ∷ xs) (plus_twice b (m 0)) (masked_twice (λ k. m (suc k)) bs)

pub masked_append : (m : ℕ → Bit) (xs ys : List Bit) → masked m (xs ++ ys) ≡ masked m xs ++ masked (λ k. m (length xs + k)) ys
masked_append m [] ys = simp zero-add
masked_append m (x ∷ xs) ys = ap (λ (zs : List Bit). bit_plus x (m 0) ∷ zs) (masked_append (λ k. m (suc k)) xs ys ∙ simp suc-add)

pub get_or_masked : (m : ℕ → Bit) (xs : List Bit) (k : ℕ) (d e : Bit) → k < length xs → get_or (masked m xs) k e ≡ bit_plus (get_or xs k d) (m k)
get_or_masked m [] k d e h = absurd (not-suc-le-zero h)
get_or_masked m (x ∷ xs) zero d e h = refl
get_or_masked m (x ∷ xs) (suc k) d e h = get_or_masked (λ k. m (suc k)) xs k d e (le_of_suc-le-suc h)

-- nothing added changes nothing
pub masked_none : (m : ℕ → Bit) (xs : List Bit) → ((k : ℕ) → k < length xs → m k ≡ Zero) → masked m xs ≡ xs
masked_none m [] h = refl
masked_none m (x ∷ xs) h =
    ap₂ (λ (y : Bit) (ys : List Bit). y ∷ ys)
    (ap (bit_plus x) (h 0 (omega arith)) ∙ plus_zero x)
    (masked_none (λ k. m (suc k)) xs (λ k l. h (suc k) (omega arith)))

-- a bit put below with the mask added shows as it is
pub masked_push : (m : ℕ → Bit) (old : List Bit) (b : Bit) → masked m (old ++ (bit_plus b (m (length old)) ∷ [])) ≡ masked m old ++ (b ∷ [])
masked_push m old b =
    masked_append m old (bit_plus b (m (length old)) ∷ [])
    ∙ ap (λ n. masked m old ++ (bit_plus (bit_plus b (m (length old))) (m n) ∷ [])) (add-zero (length old))
    ∙ ap (λ (x : Bit). masked m old ++ (x ∷ [])) (plus_twice b (m (length old)))

-- before its start place a randomizer adds nothing
pub not_yet : (start : ℕ) (code : Code) (held : List Bit) → start ≡ length held → masked (randomizing start code) held ≡ held
not_yet start code held e = masked_none (randomizing start code) held (λ k h. cond-true (ltb k start) Zero (in_frame ((k - start) % frame_bits code)) (lt-ltb k start (omega arith)))

-- what the calls of a layer need
pub ruleset layered = (length_masked, get_or_masked, masked_push, nat_tests)
