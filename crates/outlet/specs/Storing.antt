-- Bits in cells, so many to a cell, and what the cells are after takes.
use Rattle.std.specs.Prelude.{◌≡◌, ℕ, ◌+◌, ◌*◌, ◌/◌, ◌%◌, ◌<◌, ◌≤◌, min, cond, ◌⊎◌, List, map, length, nat_lt, slice_index_or}
use Rattle.std.specs.List.{range_with_len}
use Rattle.element.specs.declared.bits.Bit.{Bit}
use Rattle.element.specs.declared.bits.Bit.TheVariants.{Zero}

-- how a cell holds bits: what is read past the last cell, the bit at a place of a cell, and the cell of bits
pub record Form (C : Type 0) : Type 0 where
  pub blank : C
  pub bit : C → ℕ → Bit
  pub whole : (ℕ → Bit) → C

-- what a cell of `per` bits obeys: there are at most 8, so that the bits of all cells used are counted in a
-- machine word, and the cell of bits is told by the first `per` of them
pub record FormLaws {C : Type 0} (per : ℕ) (form : Form C) : Type 0 where
  pub some : 0 < per
  pub few : per ≤ 8
  pub same : (f g : ℕ → Bit) → ((j : ℕ) → j < per → f j ≡ g j) → form.whole f ≡ form.whole g

-- `new` is `old` with bit q written and zeros after it
pub record Written {C : Type 0} (form : Form C) (old : C) (q : ℕ) (b : Bit) (new : C) : Type 0 where
  pub before : (j : ℕ) → j < q → form.bit new j ≡ form.bit old j
  pub there : form.bit new q ≡ b
  pub made : new ≡ form.whole (λ j. cond (nat_lt j (q + 1)) (form.bit new j) Zero)

-- the bits that so many cells have room for: at most 1,048,576 cells are used
abbrev pub store_room : ℕ → ℕ → ℕ
store_room per n = per * min n 1048576

module _ {C : Type 0} (per : ℕ) (form : Form C) where
  -- the bit at a place
  unfoldable pub stored_bit : List C → ℕ → Bit
  stored_bit cells p = form.bit (slice_index_or cells (p / per) form.blank) (p % per)

  -- the first n bits of the cells
  abbrev pub stored_bits : List C → ℕ → List Bit
  stored_bits cells n = map (stored_bit cells) (range_with_len 0 n)

  -- cell k has only zeros after its bits among the first n
  abbrev pub MadeOf : List C → ℕ → ℕ → Type 0
  MadeOf cells n k =
      slice_index_or cells k form.blank ≡ form.whole (λ j. cond (nat_lt (per * k + j) n) (form.bit (slice_index_or cells k form.blank) j) Zero)

  -- from cells of which n bits were held to the cells after, of which n' are: as many cells; those that no
  -- bit since was put into are unchanged; and each cell with a held bit has zeros after its bits, if it was so
  -- before or held none before
  pub record Stores (old new : List C) (n n' : ℕ) : Type 0 where
    pub long : length new ≡ length old
    pub more : n ≤ n'
    pub others : (k : ℕ) → (per * k + per ≤ n) ⊎ (n' ≤ per * k) → slice_index_or new k form.blank ≡ slice_index_or old k form.blank
    pub opened : (k : ℕ) → (per * k < n → MadeOf old n k) → per * k < n' → MadeOf new n' k

  -- cell k of the cells, of which n bits were held in whole cells, after the bits held are `bits`
  abbrev pub cell_after : List C → ℕ → List Bit → ℕ → C
  cell_after cells n bits k =
      cond (nat_lt (per * k) n) (slice_index_or cells k form.blank)
      (cond (nat_lt (per * k) (length bits)) (form.whole (λ j. slice_index_or bits (per * k + j) Zero)) (slice_index_or cells k form.blank))

  -- all the cells after
  abbrev pub cells_after : List C → ℕ → List Bit → List C
  cells_after cells n bits = map (cell_after cells n bits) (range_with_len 0 (length cells))
