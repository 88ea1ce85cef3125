-- A bit written among cells, and what the cells are after any number of takes.
use Rattle.std.proofs.Common.{◌≡◌, ℕ, ◌+◌, ◌*◌, ◌/◌, ◌%◌, ◌<◌, ◌≤◌, ◌⊎◌, min, Bool, cond, leb, ltb, List, [], ◌∷◌, ◌++◌, map, length, get_or, set, sym, ap, ◌∙◌, subst, ap₂, inl, inr, mul_comm, arith}
use Rattle.std.specs.List.{range_with_len}
use Rattle.std.proofs.lemmas.Bool.{cases_eq, cases_lt, lt-ltb, le-ltb, le-leb, cond-true, cond-false}
use Rattle.std.proofs.lemmas.Bool.Decides.{nat_tests}
use Rattle.std.proofs.Math.Nat.{div-add-mod}
use Rattle.std.proofs.lemmas.Nat.{div-mul-add, mod-mul-add, mod_below, row_fits, div_below}
use Rattle.std.proofs.lemmas.List.{get_or-set_same, get_or-set_other, get_or_past, get_or_read_under, length-set}
use Rattle.std.proofs.lemmas.List.FromFn.{length-map-range_with_len, get_or-map-range_with_len, map-range_with_len_more, fill_by_all}
use Rattle.element.specs.declared.bits.Bit.{Bit}
use Rattle.element.specs.declared.bits.Bit.TheVariants.{Zero}
use Rattle.refusal.specs.Outcome.{Outcome.done, Outcome.refused}
use Rattle.outlet.specs.declared.faults.PlaceFault.TheVariants.{NotHeld}
use Rattle.outlet.specs.Refusals.{place_fault}
use Rattle.outlet.specs.Meaning.{taken, bit_answer}
use Rattle.outlet.specs.Storing.{Form, FormLaws, Written, store_room, stored_bit, stored_bits, MadeOf, Stores, cell_after, cells_after}

same_counting : (f g : ℕ → Bit) (n : ℕ) → ((k : ℕ) → k < n → f k ≡ g k) → map f (range_with_len 0 n) ≡ map g (range_with_len 0 n)
same_counting f g n h =
    fill_by_all g (map f (range_with_len 0 n)) n Zero (length-map-range_with_len f 0 n)
    (λ k l. get_or-map-range_with_len f 0 n k k Zero l (omega arith) ∙ h k l)

-- a cell that begins no later than place p, and is not that of p, ends before it
ends_before : (per k p : ℕ) → 0 < per → (k ≡ p / per → ⊥) → per * k ≤ p → per * k + per ≤ p
ends_before per k p some ne h = elim (cases_lt k (p / per)) [
  | inl l ↦ omega (arith, row_fits k per (p / per) per l (omega arith), mul_comm k per, mul_comm (p / per) per, div-add-mod p per)
  | inr l ↦
      let over : p / per < k = omega (arith, ne) in
      absurd (omega (arith, row_fits (p / per) per k per over (omega arith), mul_comm k per, mul_comm (p / per) per, div-add-mod p per, mod_below p per some))
]

-- the cell of a place that there is room for
pub within_cells : (per p count : ℕ) → 0 < per → p < store_room per count → p / per < count
within_cells per p count some h = omega (arith, div_below p per (min count 1048576) some (omega (arith, mul_comm per (min count 1048576))))

module _ {C : Type 0} (per : ℕ) (form : Form C) (laws : FormLaws per form) (xs : List C) (held : ℕ) (b : Bit) (y : C) (within : held / per < length xs) (is : Written form (get_or xs (held / per) form.blank) (held % per) b y) where
  put : List C
  put = set xs (held / per) y

  written : get_or put (held / per) form.blank ≡ y
  unfolding put
  written = get_or-set_same xs (held / per) y form.blank within

  other : (k : ℕ) → (k ≡ held / per → ⊥) → get_or put k form.blank ≡ get_or xs k form.blank
  unfolding put
  other k ne = get_or-set_other xs (held / per) k y form.blank ne

  there : stored_bit per form put held ≡ b
  unfolding stored_bit
  there = ap (λ (z : C). form.bit z (held % per)) written ∙ is.there

  before : (p : ℕ) → p < held → stored_bit per form put p ≡ stored_bit per form xs p
  unfolding stored_bit
  before p h = elim (cases_eq (p / per) (held / per)) [
    | inl e ↦
        let low : p % per < held % per = omega (arith, div-add-mod p per, div-add-mod held per, ap (λ n. per * n) e) in
        ap (λ n. form.bit (get_or put n form.blank) (p % per)) e
        ∙ ap (λ (z : C). form.bit z (p % per)) written
        ∙ is.before (p % per) low
        ∙ ap (λ n. form.bit (get_or xs n form.blank) (p % per)) (sym e)
    | inr ne ↦ ap (λ (z : C). form.bit z (p % per)) (other (p / per) ne)
  ]

  pub put_bits : stored_bits per form (set xs (held / per) y) (held + 1) ≡ stored_bits per form xs held ++ (b ∷ [])
  unfolding put
  put_bits =
      map-range_with_len_more (stored_bit per form put) 0 held held (omega arith)
      ∙ ap (λ (z : List Bit). z ++ (stored_bit per form put held ∷ [])) (same_counting (stored_bit per form put) (stored_bit per form xs) held before)
      ∙ ap (λ (z : Bit). stored_bits per form xs held ++ (z ∷ [])) there

  -- the cell that the bit was put into
  opens : MadeOf per form put (held + 1) (held / per)
  opens =
      written ∙ is.made
      ∙ laws.same (λ j. cond (ltb j (held % per + 1)) (form.bit y j) Zero)
      (λ j. cond (ltb (per * (held / per) + j) (held + 1)) (form.bit (get_or put (held / per) form.blank) j) Zero)
      (λ j l.
      let all = div-add-mod held per in
      let t : ltb j (held % per + 1) ≡ ltb (per * (held / per) + j) (held + 1) = grind (arith, nat_tests) in
      ap₂ (λ (z : Bool) (n : C). cond z (form.bit n j) Zero) t (sym written))

  -- a cell that was there before
  stays : (k : ℕ) → (k ≡ held / per → ⊥) → per * k < held + 1 → MadeOf per form xs held k → MadeOf per form put (held + 1) k
  stays k ne h made =
      other k ne ∙ made
      ∙ laws.same (λ j. cond (ltb (per * k + j) held) (form.bit (get_or xs k form.blank) j) Zero)
      (λ j. cond (ltb (per * k + j) (held + 1)) (form.bit (get_or put k form.blank) j) Zero)
      (λ j l.
      let ended = ends_before per k held laws.some ne (omega arith) in
      let t : ltb (per * k + j) held ≡ ltb (per * k + j) (held + 1) = lt-ltb _ _ (omega arith) ∙ sym (lt-ltb _ _ (omega arith)) in
      ap₂ (λ (z : Bool) (n : C). cond z (form.bit n j) Zero) t (sym (other k ne)))

  apart : (k : ℕ) → (per * k + per ≤ held) ⊎ (held + 1 ≤ per * k) → k ≡ held / per → ⊥
  apart k e s =
      let here = ap (λ n. per * n) s in
      elim e [ inl a ↦ omega (arith, here, div-add-mod held per, mod_below held per laws.some) | inr a ↦ omega (arith, here, div-add-mod held per) ]

  put_stores : Stores per form xs (set xs (held / per) y) held (held + 1)
  unfolding put
  put_stores = record {
    long = length-set xs (held / per) y;
    more = omega arith;
    others = λ k e. other k (apart k e);
    opened = λ k made h. elim (cases_eq k (held / per)) [
      | inl e ↦ subst (λ m. MadeOf per form put (held + 1) m) (sym e) opens
      | inr ne ↦ stays k ne h (made (omega (arith, ends_before per k held laws.some ne (omega arith), laws.some)))
    ];
  }

  -- the bits held after the bit was put, and what is unchanged
  pub put_cell : (stored_bits per form (set xs (held / per) y) (held + 1) ≡ stored_bits per form xs held ++ (b ∷ [])) × Stores per form xs (set xs (held / per) y) held (held + 1)
  put_cell = (put_bits, put_stores)

module _ {C : Type 0} (per : ℕ) (form : Form C) (laws : FormLaws per form) where
  -- bit j of cell k, among the bits held
  held_bit : (xs : List C) (held k j : ℕ) → j < per → cond (ltb (per * k + j) held) (form.bit (get_or xs k form.blank) j) Zero ≡ get_or (stored_bits per form xs held) (per * k + j) Zero
  unfolding stored_bit
  held_bit xs held k j l = elim (cases_lt (per * k + j) held) [
    | inl h ↦
        let turned = ap (λ n. n + j) (mul_comm per k) in
        let d : (per * k + j) / per ≡ k = ap (λ n. n / per) turned ∙ div-mul-add k per j l in
        let m : (per * k + j) % per ≡ j = ap (λ n. n % per) turned ∙ mod-mul-add k per j l in
        cond-true (ltb (per * k + j) held) (form.bit (get_or xs k form.blank) j) Zero (lt-ltb (per * k + j) held h)
        ∙ sym (ap₂ (λ p q. form.bit (get_or xs p form.blank) q) d m)
        ∙ sym (get_or-map-range_with_len (stored_bit per form xs) 0 held (per * k + j) (per * k + j) Zero h (omega arith))
    | inr h ↦
        cond-false (ltb (per * k + j) held) (form.bit (get_or xs k form.blank) j) Zero (le-ltb (per * k + j) held h)
        ∙ sym (get_or_past (stored_bits per form xs held) (per * k + j) Zero (omega (arith, length-map-range_with_len (stored_bit per form xs) 0 held)))
  ]

  -- what the cells are, by those of an earlier state that held whole cells, and the bits held
  pub stored_since : (old new : List C) (n held : ℕ) → n % per ≡ 0 → Stores per form old new n held → new ≡ cells_after per form old n (stored_bits per form new held)
  stored_since old new n held whole p =
      fill_by_all (cell_after per form old n (stored_bits per form new held)) new (length old) form.blank p.long
      (λ k l.
      let many = length-map-range_with_len (stored_bit per form new) 0 held in
      let made = form.whole (λ j. get_or (stored_bits per form new held) (per * k + j) Zero) in
      let was = get_or old k form.blank in
      elim (cases_lt (per * k) n) [
        | inl a ↦
            let ended = ends_before per k n laws.some (λ e. omega (arith, ap (λ m. per * m) e, div-add-mod n per)) (omega arith) in
            p.others k (inl ended) ∙ sym (cond-true (ltb (per * k) n) was _ (lt-ltb (per * k) n a))
        | inr a ↦ elim (cases_lt (per * k) held) [
          | inl c ↦
              p.opened k (λ d. absurd (omega arith)) c
              ∙ laws.same (λ j. cond (ltb (per * k + j) held) (form.bit (get_or new k form.blank) j) Zero) (λ j. get_or (stored_bits per form new held) (per * k + j) Zero) (λ j m. held_bit new held k j m)
              ∙ sym (cond-true (ltb (per * k) (length (stored_bits per form new held))) made was (lt-ltb (per * k) _ (omega arith)))
              ∙ sym (cond-false (ltb (per * k) n) was _ (le-ltb (per * k) n a))
          | inr c ↦
              p.others k (inr c)
              ∙ sym (cond-false (ltb (per * k) (length (stored_bits per form new held))) made was (le-ltb (per * k) _ (omega arith)))
              ∙ sym (cond-false (ltb (per * k) n) was _ (le-ltb (per * k) n a))
        ]
      ])

-- how many bits a store holds, and what its calls answer by that
pub ruleset counted = (length-map-range_with_len, nat_tests)

-- what a take and a question need, of the cell that they read at a place that there is room for: `places` is the count of
-- places of a cell, as it was asked
module _ {C : Type 0} (per : ℕ) (form : Form C) (laws : FormLaws per form) (xs : List C) (count : ℕ) (long : count ≡ length xs) (places : ℕ) (is : places ≡ per) where
  cell_at : (p : ℕ) → p < store_room per count → (x : C) → x ≡ get_or xs (p / places) x → get_or xs (p / per) form.blank ≡ x
  cell_at p h x e =
      let within = within_cells per p count laws.some h in
      sym (get_or_read_under xs (p / per) count x form.blank (e ∙ ap (λ n. get_or xs (p / n) x) is) within long)

  module _ (held : ℕ) (room : held < store_room per count) (x y : C) (read : x ≡ get_or xs (held / places) x) (b : Bit) (wrote : Written form x (held % places) b y) where
    stored : (stored_bits per form (set xs (held / per) y) (held + 1) ≡ stored_bits per form xs held ++ (b ∷ [])) × Stores per form xs (set xs (held / per) y) held (held + 1)
    stored =
        let w : Written form (get_or xs (held / per) form.blank) (held % per) b y = subst (λ z. Written form z (held % per) b y) (sym (cell_at held room x read)) (subst (λ n. Written form x (held % n) b y) is wrote) in
        put_cell per form laws xs held b y (omega (arith, within_cells per held count laws.some room, long)) w

    -- `n` is how many bits are held after it, as they were counted
    pub take_bits : (n : ℕ) → n ≡ held + 1 → stored_bits per form (set xs (held / places) y) n ≡ taken (b ∷ []) (stored_bits per form xs held) (store_room per count)
    take_bits n one =
        let many = length-map-range_with_len (stored_bit per form xs) 0 held in
        ap₂ (λ c k. stored_bits per form (set xs (held / c) y) k) is one
        ∙ stored.0
        ∙ sym (cond-true (leb (length (stored_bits per form xs held) + 1) (store_room per count)) (stored_bits per form xs held ++ (b ∷ [])) (stored_bits per form xs held) (le-leb (length (stored_bits per form xs held) + 1) (store_room per count) (omega (arith, many, room))))

    pub take_stores : (n : ℕ) → n ≡ held + 1 → Stores per form xs (set xs (held / places) y) held n
    take_stores n one = subst (λ k. Stores per form xs (set xs (held / places) y) held k) (sym one) (subst (λ c. Stores per form xs (set xs (held / c) y) held (held + 1)) (sym is) stored.1)

  -- the bit at a place that holds one
  pub bit_held : (held p : ℕ) → held ≤ store_room per count → p < held → (x : C) → x ≡ get_or xs (p / places) x → (b : Bit) → b ≡ form.bit x (p % places) → done b ≡ bit_answer (stored_bits per form xs held) p
  unfolding stored_bit
  bit_held held p fits h x read b e =
      let many = length-map-range_with_len (stored_bit per form xs) 0 held in
      let is_bit : b ≡ stored_bit per form xs p = e ∙ ap₂ (λ (z : C) n. form.bit z (p % n)) (sym (cell_at p (omega arith) x read)) is in
      let at = get_or-map-range_with_len (stored_bit per form xs) 0 held p p Zero h (omega arith) in
      ap done (is_bit ∙ sym at)
      ∙ sym (cond-true (ltb p (length (stored_bits per form xs held))) (done (get_or (stored_bits per form xs held) p Zero)) (refused (place_fault NotHeld)) (lt-ltb p (length (stored_bits per form xs held)) (omega (arith, many))))
