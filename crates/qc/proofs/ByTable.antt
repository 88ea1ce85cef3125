-- The table coder's product is the parity.
use Rattle.std.proofs.Common.{◌≡◌, ℕ, ◌+◌, ◌-◌, ◌*◌, ◌/◌, ◌%◌, ◌≤◌, Bool, List, length, ap, ◌∙◌, zero-add, arith}
use Rattle.element.specs.Laws.{Laws}
use Rattle.qc.specs.Shape.{Shape, M, whole}
use Rattle.qc.specs.Segments.{segments, Written}
use Rattle.qc.specs.Circulant.{sum, act}
use Rattle.qc.specs.Coding.{Tables, first_row, parity, with_parity}
use Rattle.qc.proofs.Sums.{sum_ext}
use Rattle.qc.proofs.Soundness.{Sound}
use Rattle.qc.proofs.Encoded.{segment_start, parts, parity_by_writing}

-- a loop given m for the segment's length, the words of the table, and four times the message groups
pub record Given : Type 0 where
  pub m : ℕ
  pub words : List ℕ
  pub segments_of : ℕ

abbrev pub given_as : ℕ → List ℕ → ℕ → Given
given_as m ws n = record { m = m; words = ws; segments_of = n }

-- place s of segment q of the product with all message segments
abbrev pub by_generator : {E : Type 0} → E → (E → E → E) → Given → (ℕ → ℕ → E) → ℕ → ℕ → E
by_generator none plus g x q s = sum none plus g.segments_of (λ r. act none plus g.m (first_row g.m g.words (8 * r + q)) (x (0 + r)) s)

-- what the loop wrote
abbrev pub Produced : {E : Type 0} → E → (E → E → E) → List E → List E → Given → Type 0
Produced none plus xs ys g =
    Written none (λ p. by_generator none plus g (segments none g.m xs) ((p - g.segments_of * g.m) / g.m) ((p - g.segments_of * g.m) % g.m))
    (g.segments_of * g.m) xs ys (g.segments_of * g.m + 8 * g.m)

module _ {E : Type 0} {none : E} {plus : E → E → E} {same : E → E → Bool} (laws : Laws none plus same) (c : Shape) (ok : Sound c) (t : Tables) (xs ys : List E) (fits : whole c ≤ length xs) where
  pub made_by_table : length ys ≡ length xs → Produced none plus xs ys (given_as c.m t.generator (4 * c.K)) → ys ≡ with_parity none plus c t xs
  made_by_table long w =
      parity_by_writing laws c ok t xs fits ys long
      (record {
        before = λ p h. w.before p (omega (arith, start));
        made = λ p h g.
            w.made p (omega (arith, start, parts laws c ok t)) (omega (arith, start))
            ∙ sum_ext laws (4 * c.K) _ _ (λ r hr. ap (λ n. act none plus c.m (first_row c.m t.generator (8 * r + (p - 4 * c.K * c.m) / c.m)) (segments none c.m xs n) ((p - 4 * c.K * c.m) % c.m)) (zero-add r))
            ∙ ap (λ k. parity none plus c t (segments none c.m xs) ((p - k) / c.m) ((p - k) % c.m)) start;
        after = λ p h. w.after p (omega (arith, start, parts laws c ok t));
      })
    where
      start : 4 * c.K * c.m ≡ c.K * M c
      start = segment_start laws c ok t c.K
