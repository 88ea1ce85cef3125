-- That a signed byte is a cell of one bit, what a store of levels says in terms of levels, and that the level
-- outlet is lawful.
use Rattle.std.specs.Prelude.{◌≡◌, ℕ, ◌+◌, ◌*◌, ◌/◌, ◌<◌, ◌≤◌, cond, List, [], ◌∷◌, length, map, take, ℤ, pos, nat_lt, slice_index_or, vec_len, refl}
use Rattle.std.proofs.Common.{sym, ap, ◌∙◌, ap₂, inl, inr, arith}
use Rattle.std.proofs.lemmas.Bool.{cases_lt, lt-ltb, cond-true}
use Rattle.std.proofs.lemmas.List.{length-map, length-take, get_or-map, get_or-take}
use Rattle.std.proofs.lemmas.List.FromFn.{fill_by_all}
use Rattle.std.specs.List.{range_with_len}
use Rattle.element.specs.declared.bits.Bit.{Bit}
use Rattle.element.specs.declared.bits.Bit.TheVariants.{Zero}
use Rattle.outlet.specs.Meaning.{Lawful, lawful_as}
use Rattle.outlet.specs.Storing.{FormLaws, stored_bit, stored_bits, store_room, Stores, cell_after, cells_after}
use Rattle.outlet.specs.StoreLaws.{store_lawful}
use Rattle.outlet.specs.Leveling.{level, level_bit, level_form, level_bits, level_room, Leveled, level_after, levels_after}
use Rattle.outlet.specs.declared.cell.Cell.{Ghosts}
use Rattle.outlet.specs.declared.store.Stored.{Stored}

pub level_laws : FormLaws 1 level_form
level_laws = record { some = omega arith; few = omega arith; same = λ f g h. ap level (h 0 (omega arith)) }

-- the first n levels have n bits
pub level_count : (xs : List ℤ) (n : ℕ) → n ≤ length xs → length (level_bits xs n) ≡ n
level_count xs n h = length-map (take n xs) level_bit ∙ length-take n xs ∙ omega arith

-- a store of levels has room for a bit to each, and its bits are those of its first levels
pub level_room_is : (n : ℕ) → store_room 1 n ≡ level_room n
level_room_is n = omega arith

pub levels_are : (xs : List ℤ) (n : ℕ) → n ≤ length xs → stored_bits 1 level_form xs n ≡ level_bits xs n
unfolding stored_bit
levels_are xs n h =
    sym (fill_by_all (stored_bit 1 level_form xs) (level_bits xs n) n Zero (level_count xs n h)
    (λ k l.
    let whole : k ≡ k / 1 = omega arith in
    get_or-map level_bit (take n xs) k (pos 0) Zero (omega (arith, length-take n xs))
    ∙ ap level_bit (get_or-take n xs k (pos 0) l)
    ∙ ap (λ j. level_bit (slice_index_or xs j (pos 0))) whole))

-- what no take changes in it, in terms of levels
pub leveled : (old new : List ℤ) (n n' : ℕ) → Stores 1 level_form old new n n' → Leveled old new n n'
leveled old new n n' s = record {
  long = s.long;
  more = s.more;
  others = λ k e. s.others k (elim e [ inl a ↦ inl (omega arith) | inr a ↦ inr (omega arith) ]);
  written = λ k a h.
      s.opened k (λ d. absurd (omega arith)) (omega arith)
      ∙ ap level (cond-true (nat_lt (1 * k + 0) n') (level_bit (slice_index_or new k (pos 0))) Zero (lt-ltb (1 * k + 0) n' (omega arith)));
}

pub stores_leveled : (old new : List ℤ) (n n' : ℕ) → Leveled old new n n' → Stores 1 level_form old new n n'
stores_leveled old new n n' p =
    let made : (xs : List ℤ) (m k : ℕ) → k < m → level (cond (nat_lt (1 * k + 0) m) (level_bit (slice_index_or xs k (pos 0))) Zero) ≡ level (level_bit (slice_index_or xs k (pos 0)))
    = λ xs m k h. ap level (cond-true (nat_lt (1 * k + 0) m) (level_bit (slice_index_or xs k (pos 0))) Zero (lt-ltb (1 * k + 0) m (omega arith))) in
    record {
      long = p.long;
      more = p.more;
      others = λ k e. p.others k (elim e [ inl a ↦ inl (omega arith) | inr a ↦ inr (omega arith) ]);
      opened = λ k was h. elim (cases_lt k n) [
        | inl a ↦
            let same = p.others k (inl a) in
            same ∙ was (omega arith) ∙ made old n k a ∙ ap (λ (z : ℤ). level (level_bit z)) (sym same) ∙ sym (made new n' k (omega arith))
        | inr a ↦ p.written k a (omega arith) ∙ sym (made new n' k (omega arith))
      ];
    }

same_map : (f g : ℕ → ℤ) (ks : List ℕ) → ((k : ℕ) → f k ≡ g k) → map f ks ≡ map g ks
same_map f g [] h = refl
same_map f g (k ∷ ks) h = ap₂ (λ (z : ℤ) (zs : List ℤ). z ∷ zs) (h k) (same_map f g ks h)

-- what its bytes are after takes
pub levels_after_are : (old : List ℤ) (n : ℕ) (bits : List Bit) → cells_after 1 level_form old n bits ≡ levels_after old n bits
levels_after_are old n bits =
    same_map (cell_after 1 level_form old n bits) (level_after old n bits) (range_with_len 0 (length old))
    (λ k.
    let at : 1 * k ≡ k = omega arith in
    let only : 1 * k + 0 ≡ k = omega arith in
    ap₂ (λ i j. cond (nat_lt i n) (slice_index_or old k (pos 0)) (cond (nat_lt i (length bits)) (level (slice_index_or bits j Zero)) (slice_index_or old k (pos 0)))) at only)

pub unleveled : (xs : List ℤ) (n : ℕ) → Leveled xs xs n n
unleveled xs n = record { long = refl; more = omega arith; others = λ k e. refl; written = λ k a h. absurd (omega arith) }

-- what a level outlet is made of
abbrev pub level_cell : Ghosts ℤ
level_cell = record { PLACES = 1; form = level_form }

pub levels_lawful : Lawful {S = Stored ℤ level_cell} (λ o. level_bits o.bytes.items o.held) (λ o. level_room (vec_len o.bytes)) (λ o p. Leveled o.bytes.items p.bytes.items o.held p.held)
levels_lawful =
    lawful_as (store_lawful 1 level_form (λ o. o.bytes.items) (λ o. vec_len o.bytes) (λ o. o.held) (λ o. o.bytes.ok.0) (λ o. o.fits))
    (λ o. levels_are o.bytes.items o.held (omega (arith, o.fits, o.bytes.ok.0)))
    (λ o. level_room_is (vec_len o.bytes))
    (λ o p. leveled o.bytes.items p.bytes.items o.held p.held)
    (λ o p. stores_leveled o.bytes.items p.bytes.items o.held p.held)
