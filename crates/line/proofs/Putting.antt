-- Bits put into an outlet one after the other, while there is room.
use Rattle.std.proofs.Common.{◌≡◌, ℕ, ◌+◌, ◌<◌, leb, List, [], ◌∷◌, ◌++◌, length, ap, ◌∙◌, append_assoc, arith, length-append}
use Rattle.std.proofs.lemmas.Bool.{cond-true, le-leb}
use Rattle.element.specs.declared.bits.Bit.{Bit}
use Rattle.outlet.specs.Meaning.{taken}

-- one bit more behind those put since the outlet held `base`
pub put_more : (base xs old new : List Bit) (y : Bit) (room : ℕ) → old ≡ base ++ xs → new ≡ taken (y ∷ []) old room → length base + length xs < room → new ≡ base ++ (xs ++ (y ∷ []))
put_more base xs old new y room e t h =
    let long : length old ≡ length base + length xs = ap length e ∙ length-append base xs in
    t ∙ cond-true (leb (length old + 1) room) (old ++ (y ∷ [])) old (le-leb (length old + 1) room (omega arith))
    ∙ ap (λ (z : List Bit). z ++ (y ∷ [])) e ∙ append_assoc base xs (y ∷ [])
