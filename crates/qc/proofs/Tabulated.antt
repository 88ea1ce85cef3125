-- What the computed test of a code's tables says, entry by entry.
use Rattle.std.proofs.Common.{◌≡◌, ℕ, zero, suc, ◌+◌, ◌*◌, ◌/◌, ◌%◌, ◌<◌, ◌≤◌, Bool, true, ◌&&◌, eqb, length, arith, below_more}
use lib.Bits.{bit_xor}
use Rattle.std.proofs.lemmas.Bool.{and_parts, eqb-true, leb-true}
use Rattle.qc.specs.Shape.{Shape}
use Rattle.qc.specs.Circulant.{sum, mul, unit}
use Rattle.qc.specs.Coding.{Tables, first_row}
use Rattle.qc.specs.Rules.{each, folded_firsts, table_first, table_second, generator_rows, inverse_after, inverse_before, tabulated}
use Rattle.qc.proofs.Generator.{Generates}
use Rattle.qc.proofs.Solving.{Inverse}

each_at : (n : ℕ) (f : ℕ → Bool) → each n f ≡ true → (i : ℕ) → i < n → f i ≡ true
each_at zero f e i h = absurd (omega arith)
each_at (suc n) f e i h =
    let both = and_parts (f n) (each n f) e in
    below_more (λ i. f i ≡ true) n (each_at n f both.1) both.0 i (omega arith)

pub record Tabulated (c : Shape) (t : Tables) : Type 0 where
  pub words : c.m % 32 ≡ 0
  pub generator_long : 4 * c.K * 8 * (c.m / 32) ≤ length t.generator
  pub inverse_long : 4 * 4 * (c.m / 32) ≤ length t.inverse
  pub generates : Generates c (λ r j. first_row c.m t.generator (8 * r + j)) (λ r j. first_row c.m t.generator (8 * r + (4 + j)))
  pub inverse : Inverse c (λ l n. first_row c.m t.inverse (4 * l + n))

pub tables_hold : (c : Shape) (t : Tables) → tabulated c t ≡ true → Tabulated c t
unfolding tabulated
tables_hold c t e =
    let e5 = and_parts _ (inverse_before c v) e in
    let e4 = and_parts _ (inverse_after c v) e5.0 in
    let e3 = and_parts _ (generator_rows c a b) e4.0 in
    let e2 = and_parts _ _ e3.0 in
    let e1 = and_parts _ _ e2.0 in
    record {
      words = eqb-true _ _ e1.0;
      generator_long = leb-true _ _ e1.1;
      inverse_long = leb-true _ _ e2.1;
      generates = record {
        first = λ r j hr hj. eqb-true _ _ (and_parts _ _ (rows e3.1 r j hr hj)).0;
        second = λ r j hr hj. eqb-true _ _ (and_parts _ _ (rows e3.1 r j hr hj)).1;
      };
      inverse = record {
        after = λ l n hl hn. eqb-true _ _ (each_at 4 (λ n. eqb (folded_firsts c (v l) n) (unit c.m l n)) (each_at 4 (λ l. each 4 (λ n. eqb (folded_firsts c (v l) n) (unit c.m l n))) e4.1 l hl) n hn);
        before = λ l n hl hn.
            eqb-true _ _ (each_at 4 (λ n. eqb (sum 0 bit_xor 4 (λ j. mul c.m (v j n) (folded_firsts c (unit c.m l) j))) (unit c.m l n))
            (each_at 4 (λ l. each 4 (λ n. eqb (sum 0 bit_xor 4 (λ j. mul c.m (v j n) (folded_firsts c (unit c.m l) j))) (unit c.m l n))) e5.1 l hl) n hn);
      };
    }
  where
    a : ℕ → ℕ → ℕ
    a r j = first_row c.m t.generator (8 * r + j)

    b : ℕ → ℕ → ℕ
    b r j = first_row c.m t.generator (8 * r + (4 + j))

    v : ℕ → ℕ → ℕ
    v l n = first_row c.m t.inverse (4 * l + n)

    rows : generator_rows c a b ≡ true → (r j : ℕ) → r < 4 * c.K → j < 4 → (eqb (table_first c a b r j) 0 && eqb (table_second c b r j) 0) ≡ true
    rows g r j hr hj =
        each_at 4 (λ j. eqb (table_first c a b r j) 0 && eqb (table_second c b r j) 0)
        (each_at (4 * c.K) (λ r. each 4 (λ j. eqb (table_first c a b r j) 0 && eqb (table_second c b r j) 0)) g r hr) j hj
