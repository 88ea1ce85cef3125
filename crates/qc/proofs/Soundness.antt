-- What the computed test of a shape says, entry by entry.
use Rattle.std.proofs.Common.{◌≡◌, ℕ, zero, suc, ◌+◌, ◌*◌, ◌<◌, ◌≤◌, Bool, true, ltb, List, [], ◌∷◌, length, get_or, sym, ap, mul-le-mul_right, mul_assoc, mul_comm, arith}
use native.Mathlib.Decide.{dec_lt}
use Rattle.std.specs.List.{list_all}
use Rattle.std.proofs.lemmas.Nat.{mul-le}
use Rattle.std.proofs.lemmas.List.{get_or_past}
use Rattle.std.proofs.lemmas.List.Elements.{AllWithin-from_all}
use Rattle.std.proofs.lemmas.List.Sums.{AllPass-from_list_all}
use Rattle.std.proofs.lemmas.Bool.{and_parts, ltb-true, leb-true}
use Rattle.qc.specs.declared.terms.Permutation.{Permutation}
use Rattle.qc.specs.declared.terms.Term.{Term}
use Rattle.qc.specs.Permutation.{absent}
use Rattle.qc.specs.Shape.{Shape, M, permutations, whole, first, second, known}
use Rattle.qc.specs.Sound.{permutation_sound, term_sound, sound}
use Rattle.qc.specs.Terms.{terms}
use Rattle.qc.specs.Segments.{AllReadable}

pub all_at : {X : Type 0} (test : X → Bool) (xs : List X) → list_all test xs ≡ true → (i : ℕ) (d : X) → i < length xs → test (get_or xs i d) ≡ true
all_at test xs e i d h = AllWithin-from_all (λ x. test x ≡ true) xs (AllPass-from_list_all test xs e) i d (omega arith) h

pub record Sound (c : Shape) : Type 0 where
  pub few : c.K < 1000
  pub some_long : 0 < c.m
  pub short : c.m ≤ 512
  pub roomy : 1024 ≤ whole c
  pub permuted : list_all (permutation_sound c.m) (permutations c) ≡ true
  pub u2_sound : list_all (term_sound c.K (length (permutations c))) (terms c.u2) ≡ true
  pub u3_sound : list_all (term_sound c.K (length (permutations c))) (terms c.u3) ≡ true
  pub first_sound : list_all (term_sound (c.K + 3) (length (permutations c))) (terms (first c)) ≡ true
  pub second_sound : list_all (term_sound (c.K + 3) (length (permutations c))) (terms (second c)) ≡ true
  pub known_sound : list_all (term_sound (c.K + 2) (length (permutations c))) (terms (known c)) ≡ true

pub sounds : (c : Shape) → sound c ≡ true → Sound c
unfolding sound
sounds c e =
    let e4 = and_parts _ (list_all (term_sound (c.K + 2) (length (permutations c))) (terms (known c))) e in
    let e3 = and_parts _ (list_all (term_sound (c.K + 3) (length (permutations c))) (terms (second c))) e4.0 in
    let e2 = and_parts _ (list_all (term_sound (c.K + 3) (length (permutations c))) (terms (first c))) e3.0 in
    let e6 = and_parts _ (list_all (term_sound c.K (length (permutations c))) (terms c.u3)) e2.0 in
    let e5 = and_parts _ (list_all (term_sound c.K (length (permutations c))) (terms c.u2)) e6.0 in
    let e1 = and_parts _ (list_all (permutation_sound c.m) (permutations c)) e5.0 in
    let sizes = and_parts _ _ e1.0 in
    let upper = and_parts _ _ sizes.0 in
    let lower = and_parts _ _ upper.0 in
    record {
      few = ltb-true _ _ lower.0;
      some_long = ltb-true _ _ lower.1;
      short = leb-true _ _ upper.1;
      roomy = leb-true _ _ sizes.1;
      permuted = e1.1;
      u2_sound = e5.1;
      u3_sound = e6.1;
      first_sound = e2.1;
      second_sound = e3.1;
      known_sound = e4.1;
    }

-- a place that a list of shifts lacks has the shift 0
shift_below : (m : ℕ) (fs : List ℕ) → 0 < m → list_all (λ f. ltb f m) fs ≡ true → (j : ℕ) → get_or fs j 0 < m
shift_below m [] pos e j = pos
shift_below m (f ∷ fs) pos e zero = ltb-true f m (and_parts (ltb f m) _ e).0
shift_below m (f ∷ fs) pos e (suc j) = shift_below m fs pos (and_parts (ltb f m) _ e).1 j

-- no shift passes the segment's length
pub shift_most : (c : Shape) → Sound c → (t j : ℕ) → get_or (get_or (permutations c) t absent).phi j 0 ≤ c.m
shift_most c ok t j = go (dec_lt t (length (permutations c)))
  where
    go : Dec (t < length (permutations c)) → get_or (get_or (permutations c) t absent).phi j 0 ≤ c.m
    go (yes listed) =
        let shifts = and_parts _ _ (all_at (permutation_sound c.m) (permutations c) ok.permuted t absent listed) in
        omega (arith, shift_below c.m (get_or (permutations c) t absent).phi ok.some_long shifts.1 j)
    go (no past) =
        let none_listed = get_or_past (permutations c) t absent (omega arith) in
        omega (arith, ap (λ (p : Permutation). get_or p.phi j 0) none_listed)

-- terms of the first few groups can be read in a list that holds these groups
pub readable : (c : Shape) → Sound c → (count len : ℕ) → count * (4 * c.m) ≤ len
    → (ts : List Term) → list_all (term_sound count (length (permutations c))) ts ≡ true → AllReadable c.m len (permutations c) ts
readable c ok count len fits ts e i d h =
    let t = get_or ts i d in
    let both = and_parts _ _ (all_at (term_sound count (length (permutations c))) ts e i d h) in
    let group : t.group < count = ltb-true _ _ both.0 in
    let listed : t.permutation < length (permutations c) = ltb-true _ _ both.1 in
    let p = get_or (permutations c) t.permutation absent in
    let shifts = and_parts _ _ (all_at (permutation_sound c.m) (permutations c) ok.permuted t.permutation absent listed) in
    let more : t.group + 1 ≤ count = omega arith in
    let a = mul-le-mul_right (4 * c.m) more in
    let b : (t.group + 1) * (4 * c.m) ≡ (4 * t.group + 4) * c.m = omega (arith, sym (mul_assoc (t.group + 1) 4 c.m), mul_comm (t.group + 1) 4) in
    record {
      listed = listed;
      quarter = ltb-true _ _ shifts.0;
      turned = λ j hj. shift_below c.m p.phi ok.some_long shifts.1 j;
      within = omega (arith, a, b, fits);
    }

-- a block is far shorter than any machine word can count, and so are three groups more than a message has
pub groups_small : (c : Shape) → Sound c → (n : ℕ) → n ≤ 3 → (c.K + n) * M c ≤ 1002 * 2048
groups_small c ok n h = mul-le (c.K + n) (4 * c.m) 1002 2048 (omega (arith, ok.few)) (omega (arith, ok.short))
