-- What the bytes of a level outlet are after any number of takes.
use Rattle.std.proofs.Common.{◌≡◌, ℕ, ◌≤◌, List, length, ℤ, ap, ◌∙◌, arith}
use Rattle.outlet.specs.Storing.{stored_bits}
use Rattle.outlet.specs.Leveling.{level_form, level_bits, Leveled, levels_after}
use Rattle.outlet.specs.LevelLaws.{level_laws, levels_are, stores_leveled, levels_after_are}
use Rattle.outlet.proofs.Storings.{stored_since}

-- since an earlier state, as it was made, the bytes reached hold the levels of the bits taken and the others
-- are unchanged
pub levels_since : (old items : List ℤ) (n held : ℕ) → held ≤ length items → Leveled old items n held → items ≡ levels_after old n (level_bits items held)
levels_since old items n held fits p =
    stored_since 1 level_form level_laws old items n held (omega arith) (stores_leveled old items n held p)
    ∙ levels_after_are old n (stored_bits 1 level_form items held)
    ∙ ap (levels_after old n) (levels_are items held fits)
