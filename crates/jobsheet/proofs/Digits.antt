-- Digits of a message, one by one.
use Rattle.std.proofs.Common.{◌≡◌, ℕ, zero, suc, ◌<◌, true, List, [], ◌∷◌, length, get_or, le_of_suc-le-suc, not-suc-le-zero}
use Rattle.std.proofs.lemmas.Bool.{and_parts}
use Rattle.jobsheet.specs.Values.{is_hex, all_hex}

pub hex_at : (w : List ℕ) (i : ℕ) → all_hex w ≡ true → i < length w → is_hex (get_or w i 0) ≡ true
hex_at [] i e h = absurd (not-suc-le-zero h)
hex_at (b ∷ bs) zero e h = (and_parts (is_hex b) (all_hex bs) e).0
hex_at (b ∷ bs) (suc i) e h = hex_at bs i (and_parts (is_hex b) (all_hex bs) e).1 (le_of_suc-le-suc h)
