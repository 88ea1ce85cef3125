-- Sums of a code's own terms, of groups before or after the one that they are written to.
use Rattle.std.proofs.Common.{◌≡◌, ℕ, zero, suc, ◌+◌, ◌-◌, ◌*◌, ◌<◌, ◌≤◌, true, ◌⊎◌, List, [], ◌∷◌, ◌++◌, length, get_or, sym, refl, ap, ◌∙◌, subst, inl, inr, mul-le-mul_right, mul_assoc, mul_comm, add-mul, arith}
use native.Mathlib.Decide.{dec_lt}
use Rattle.std.specs.List.{list_all}
use Rattle.std.proofs.lemmas.Bool.{and_parts, and_from, ltb-true, lt-ltb}
use Rattle.std.proofs.lemmas.List.Folds.{list_all-append}
use Rattle.std.proofs.lemmas.List.{length-append, get_or_append_left, get_or-append_right}
use Rattle.qc.specs.declared.terms.Permutation.{Permutation}
use Rattle.qc.specs.declared.terms.Term.{Term}
use Rattle.qc.specs.Equation.{Operator, Equation, Operator.Identity, Operator.Π, Operator.◌⊞◌}
use Rattle.qc.specs.Shape.{Shape, M, z, whole, permutations, asked, closing, known}
use Rattle.qc.specs.Sound.{term_sound}
use Rattle.qc.specs.Terms.{operator_terms, terms}
use Rattle.qc.specs.Segments.{AllReadable, Apart, AllApart}
use Rattle.qc.proofs.Soundness.{Sound, all_at}
use Rattle.qc.proofs.Equations.{all_append}
use Rattle.qc.proofs.Views.{View, view_is, read_given}

apart_append : (m from : ℕ) (ts us : List Term) → AllApart m from ts → AllApart m from us → AllApart m from (ts ++ us)
apart_append m from ts us a b i d h = go (dec_lt i (length ts))
  where
    go : Dec (i < length ts) → Apart m from (get_or (ts ++ us) i d)
    go (yes low) = subst (Apart m from) (sym (get_or_append_left ts us d i low)) (a i d low)
    go (no high) =
        let e = length-append ts us in
        let le : length ts ≤ i = omega arith in
        subst (Apart m from) (sym (get_or-append_right ts us (length ts) i d refl le)) (b (i - length ts) d (omega (arith, e)))

-- an operator on group g
operator_apart : (m from g : ℕ) → ((4 * g + 4) * m ≤ from) ⊎ (from + 4 * m ≤ 4 * g * m) → (A : Operator) → AllApart m from (operator_terms A g)
operator_apart m from g away Identity zero d h = away
operator_apart m from g away Identity (suc i) d h = absurd (omega arith)
operator_apart m from g away (Π t) zero d h = away
operator_apart m from g away (Π t) (suc i) d h = absurd (omega arith)
operator_apart m from g away (A ⊞ B) i d h = apart_append m from (operator_terms A g) (operator_terms B g) (operator_apart m from g away A) (operator_apart m from g away B) i d h

-- terms of the first few groups, before a group that begins after these
below_apart : (c : Shape) (count listed from : ℕ) → count * (4 * c.m) ≤ from → (ts : List Term) → list_all (term_sound count listed) ts ≡ true → AllApart c.m from ts
below_apart c count listed from fits ts e i d h =
    let t = get_or ts i d in
    let low : t.group < count = ltb-true _ _ (and_parts _ _ (all_at (term_sound count listed) ts e i d h)).0 in
    let more : t.group + 1 ≤ count = omega arith in
    let a = mul-le-mul_right (4 * c.m) more in
    let b : (t.group + 1) * (4 * c.m) ≡ (4 * t.group + 4) * c.m = omega (arith, sym (mul_assoc (t.group + 1) 4 c.m), mul_comm (t.group + 1) 4) in
    inl (omega (arith, a, b, fits))

-- terms of the first few groups are terms of the first few more
more_groups : (count more listed : ℕ) → count ≤ more → (ts : List Term) → list_all (term_sound count listed) ts ≡ true → list_all (term_sound more listed) ts ≡ true
more_groups count more listed fits [] e = refl
more_groups count more listed fits (t ∷ ts) e =
    let parts = and_parts _ _ e in
    let both = and_parts _ _ parts.0 in
    let low : t.group < count = ltb-true _ _ both.0 in
    and_from _ _ (and_from _ _ (lt-ltb t.group more (omega arith)) both.1) (more_groups count more listed fits ts parts.1)

-- an equation that reads groups of the block alone, and not the group `to`
pub record Own (c : Shape) (q : Equation) (to : ℕ) : Type 0 where
  pub reads : list_all (term_sound (c.K + 3) (length (permutations c))) (terms q) ≡ true
  pub apart : AllApart c.m (to * M c) (terms q)
  pub there : to < c.K + 3

-- terms apart, by what a loop is given
pub apart_given : (c : Shape) (q : Equation) (from' : ℕ) → AllApart c.m from' (terms q) → (m from : ℕ) (table : List Permutation) (ts : List Term)
    → m ≡ c.m → table ≡ permutations c → ts ≡ terms q → from ≡ from' → AllApart m from ts
apart_given c q from' away m from table ts em et es ef =
    subst (λ k. AllApart m k ts) (sym ef) (subst (λ (v : View ℕ). AllApart v.m from' v.ts) (sym (view_is c q m table ts [] em et es)) away)

-- what the loop that writes a group asks
abbrev pub Write : ℕ → ℕ → ℕ → List Permutation → List Term → Type 0
Write m len from table ts = record { short : m ≤ 512; readable : AllReadable m len table ts; apart : AllApart m from ts; there : from + 4 * m ≤ len }

module _ (c : Shape) (ok : Sound c) where
  groups_at : (k : ℕ) → 4 * k * c.m ≡ k * M c
  groups_at k = ap (λ n. n * c.m) (mul_comm 4 k) ∙ mul_assoc k 4 c.m

  pub asked_sound : list_all (term_sound (c.K + 3) (length (permutations c))) (terms (asked c)) ≡ true
  asked_sound =
      let test = term_sound (c.K + 3) (length (permutations c)) in
      let parts = all_append test (terms c.u2) (operator_terms Identity (c.K + 1) ++ operator_terms c.P (z c)) ok.second_sound in
      list_all-append test (terms c.u2) (operator_terms c.P (z c)) ∙ and_from _ _ parts.0 (and_parts _ _ parts.1).1

  pub closing_sound : list_all (term_sound (c.K + 3) (length (permutations c))) (terms (closing c)) ≡ true
  closing_sound = (and_parts _ _ ok.first_sound).1

  pub known_apart : AllApart c.m ((c.K + 2) * M c) (terms (known c))
  known_apart = below_apart c (c.K + 2) _ _ (omega arith) (terms (known c)) ok.known_sound

  pub message_apart : AllApart c.m ((c.K + 2) * M c) (terms c.u3)
  message_apart = below_apart c c.K _ _ (omega (arith, mul-le-mul_right (M c) more)) (terms c.u3) ok.u3_sound
    where
      more : c.K ≤ c.K + 2
      more = omega arith

  punctured_apart : (A : Operator) → AllApart c.m (c.K * M c) (operator_terms A (z c))
  punctured_apart A = operator_apart c.m (c.K * M c) (z c) (inr (omega (arith, groups_at (c.K + 2), add_two))) A
    where
      add_two : (c.K + 2) * M c ≡ c.K * M c + 2 * M c
      add_two = omega (arith, add-mul c.K 2 (4 * c.m))

  pub asked_apart : AllApart c.m (c.K * M c) (terms (asked c))
  asked_apart =
      apart_append c.m (c.K * M c) (terms c.u2) (operator_terms c.P (z c))
      (below_apart c c.K _ _ (omega arith) (terms c.u2) ok.u2_sound) (punctured_apart c.P)

  pub closing_apart : AllApart c.m (c.K * M c) (terms (closing c))
  closing_apart = punctured_apart (Identity ⊞ c.Π1)

  -- what the check and the coders write, and to which group
  pub known_own : Own c (known c) (c.K + 2)
  known_own = record { reads = more_groups (c.K + 2) (c.K + 3) _ (omega arith) (terms (known c)) ok.known_sound; apart = known_apart; there = omega arith }

  pub message_own : Own c c.u3 (c.K + 2)
  message_own = record { reads = more_groups c.K (c.K + 3) _ (omega arith) (terms c.u3) ok.u3_sound; apart = message_apart; there = omega arith }

  pub asked_own : Own c (asked c) c.K
  asked_own = record { reads = asked_sound; apart = asked_apart; there = omega arith }

  pub closing_own : Own c (closing c) c.K
  closing_own = record { reads = closing_sound; apart = closing_apart; there = omega arith }

  -- by what the loop is given
  pub write_given : (q : Equation) (to : ℕ) → Own c q to → (m len from : ℕ) (table : List Permutation) (ts : List Term)
      → whole c ≤ len → m ≡ c.m → from ≡ to * M c → table ≡ permutations c → ts ≡ terms q → Write m len from table ts
  write_given q to own m len from table ts fits em ef et es = record {
    short = (read_given c ok q own.reads m len table ts fits em et es).short;
    readable = (read_given c ok q own.reads m len table ts fits em et es).readable;
    apart = apart_given c q (to * M c) own.apart m from table ts em et es ef;
    there =
        let more : to + 1 ≤ c.K + 3 = omega (arith, own.there) in
        omega (arith, mul-le-mul_right (M c) more, add-mul to 1 (M c));
  }
