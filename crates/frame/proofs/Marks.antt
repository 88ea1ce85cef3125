-- Bits of the marker, and distances from it and from its complement.
use Rattle.std.proofs.Common.{◌≡◌, ℕ, zero, suc, ◌+◌, ◌-◌, ◌<◌, ◌≤◌, Bool, true, false, not, cond, leb, List, get_or, Some, None, Option, sym, refl, ap, ◌∙◌, subst, inl, inr, arith}
use Rattle.std.proofs.lemmas.Bool.{cases_Bool, cond-true, cond-false, le-leb, lt-leb, leb-true}
use Rattle.element.specs.declared.bits.Bit.{Bit}
use Rattle.element.specs.declared.bits.Bit.TheVariants.{Zero, One}
use Rattle.element.specs.Bits.{bit_plus, bit_if, weight}
use Rattle.frame.specs.declared.faults.Orientation.{Orientation}
use Rattle.frame.specs.declared.faults.Orientation.TheVariants.{Upright, Complemented}
use Rattle.frame.specs.Marker.{mark, differing, distance, found, Marked}

pub some_same : {A : Type 0} (x y : A) → ◌≡◌ {A = Option A} (Some x) (Some y) → x ≡ y
some_same x y e = cc

pub none_some : {A : Type 0} (x : A) → ◌≡◌ {A = Option A} None (Some x) → ⊥
none_some x e = let z : ◌≡◌ {A = ℕ} 0 1 = cc in absurd (omega arith)

-- the bit of a test that says no
pub bit_unless : (b : Bool) → bit_if (not b) ≡ cond b Zero One
bit_unless true = refl
bit_unless false = refl

either_differs : (x y : Bit) → weight (bit_plus x (bit_plus y Zero)) + weight (bit_plus x (bit_plus y One)) ≡ 1
either_differs Zero Zero = refl
either_differs Zero One = refl
either_differs One Zero = refl
either_differs One One = refl

-- each bit differs from one of two complements
pub complements : (x y : ℕ → Bit) (n : ℕ) → differing x (λ i. bit_plus (y i) Zero) n + differing x (λ i. bit_plus (y i) One) n ≡ n
complements x y zero = refl
complements x y (suc n) = omega (arith, complements x y n, either_differs (x n) (y n))

pub distances : (held : List Bit) (place : ℕ) → distance Upright held place + distance Complemented held place ≡ 64
unfolding distance
distances held place = complements (λ i. get_or held (place + i) Zero) mark 64

module _ (held : List Bit) (place tolerance d : ℕ) (e : d ≡ distance Upright held place) where
  pub found_upright : d ≤ tolerance → Some (Upright, d) ≡ found held place tolerance
  found_upright h =
      ap (λ n. Some (Upright, n)) e
      ∙ sym (cond-true _ _ _ (le-leb (distance Upright held place) tolerance (omega arith)))

  pub found_complemented : tolerance < d → (o : ℕ) → o ≡ 64 - d → o ≤ tolerance → Some (Complemented, o) ≡ found held place tolerance
  found_complemented h o f l =
      let t = distances held place in
      ap (λ n. Some (Complemented, n)) (omega (arith, t))
      ∙ sym (cond-true _ _ _ (le-leb (distance Complemented held place) tolerance (omega (arith, t))))
      ∙ sym (cond-false _ _ _ (lt-leb (distance Upright held place) tolerance (omega arith)))

  pub found_none : tolerance < d → tolerance < 64 - d → None ≡ found held place tolerance
  found_none h l =
      let t = distances held place in
      sym (cond-false _ _ _ (lt-leb (distance Complemented held place) tolerance (omega (arith, t))))
      ∙ sym (cond-false _ _ _ (lt-leb (distance Upright held place) tolerance (omega arith)))

-- within a lawful tolerance the bits at a place can not stand both ways
pub one_way : (held : List Bit) (place tolerance : ℕ) → tolerance ≤ 15 → (d e : ℕ) → Marked held place tolerance Upright d → Marked held place tolerance Complemented e → ⊥
one_way held place tolerance h d e up down = absurd (omega (arith, distances held place, up.far, up.tolerated, down.far, down.tolerated))

-- the marker that is found is the one that is there
pub marked_found : (held : List Bit) (place tolerance : ℕ) → tolerance ≤ 15 → (way : Orientation) (d : ℕ) → Marked held place tolerance way d → Some (way, d) ≡ found held place tolerance
marked_found held place tolerance h Upright d up = found_upright held place tolerance d up.far up.tolerated
marked_found held place tolerance h Complemented d down =
    let t = distances held place in
    found_complemented held place tolerance (distance Upright held place) refl (omega (arith, t, down.far, down.tolerated)) d (omega (arith, t, down.far)) down.tolerated

pub found_marked : (held : List Bit) (place tolerance : ℕ) (way : Orientation) (d : ℕ) → Some (way, d) ≡ found held place tolerance → Marked held place tolerance way d
found_marked held place tolerance way d e = elim (cases_Bool (leb (distance Upright held place) tolerance)) [
  | inl t ↦
      let f : ◌≡◌ {A = Option (Orientation × ℕ)} (Some (way, d)) (Some (Upright, distance Upright held place)) = e ∙ cond-true _ _ _ t in
      subst (λ w. Marked held place tolerance w.0 w.1) (sym (some_same _ _ f)) (record { far = refl; tolerated = leb-true _ _ t })
  | inr t ↦ elim (cases_Bool (leb (distance Complemented held place) tolerance)) [
    | inl u ↦
        let f : ◌≡◌ {A = Option (Orientation × ℕ)} (Some (way, d)) (Some (Complemented, distance Complemented held place)) = e ∙ cond-false _ _ _ t ∙ cond-true _ _ _ u in
        subst (λ w. Marked held place tolerance w.0 w.1) (sym (some_same _ _ f)) (record { far = refl; tolerated = leb-true _ _ u })
    | inr u ↦
        let f : ◌≡◌ {A = Option (Orientation × ℕ)} (Some (way, d)) None = e ∙ cond-false _ _ _ t ∙ cond-false _ _ _ u in
        absurd (none_some _ (sym f))
  ]
]
