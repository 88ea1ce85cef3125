-- A loop that wrote whole segments, seen segment by segment.
use Rattle.std.proofs.Common.{◌≡◌, ℕ, ◌+◌, ◌-◌, ◌*◌, ◌/◌, ◌%◌, ◌<◌, ◌≤◌, List, get_or, sym, refl, ap, ◌∙◌, subst, ap₂, mul-le-mul_right, mul_assoc, mul_comm, add-mul, arith}
use Rattle.std.proofs.lemmas.Nat.{mul-add-lt, div-mul-add, mod-mul-add}
use Rattle.qc.specs.declared.terms.Permutation.{Permutation}
use Rattle.qc.specs.declared.terms.Term.{Term}
use Rattle.qc.specs.Equation.{Equation}
use Rattle.qc.specs.Shape.{Shape, M, permutations}
use Rattle.qc.specs.Terms.{terms}
use Rattle.qc.specs.Segments.{segments, segment_sum, Written}
use Rattle.qc.specs.Circulant.{sum, act}
use Rattle.qc.specs.Coding.{first_row}
use Rattle.qc.proofs.Views.{View, given, viewed, view_is}

-- in ys the segments t to t + k - 1 are f's, and all else is as in xs
pub record SegmentsWritten {E : Type 0} (none : E) (m : ℕ) (f : ℕ → ℕ → E) (t : ℕ) (xs ys : List E) (k : ℕ) : Type 0 where
  pub before : (n s : ℕ) → n < t → s < m → segments none m ys n s ≡ segments none m xs n s
  pub made : (q s : ℕ) → q < k → s < m → segments none m ys (t + q) s ≡ f q s
  pub after : (n s : ℕ) → t + k ≤ n → s < m → segments none m ys n s ≡ segments none m xs n s
  pub rest : (p : ℕ) → (t + k) * m ≤ p → get_or ys p none ≡ get_or xs p none

pub by_segments : {E : Type 0} (none : E) (m : ℕ) (f : ℕ → ℕ → E) (t k : ℕ) (xs ys : List E) (from upto : ℕ) → from ≡ t * m → upto ≡ (t + k) * m
    → Written none (λ p. f ((p - from) / m) ((p - from) % m)) from xs ys upto → SegmentsWritten none m f t xs ys k
by_segments none m f t k xs ys from upto is to w = record {
  before = λ n s hn hs. w.before (n * m + s) (omega (arith, mul-add-lt n m s t hn hs, mul_comm m t));
  made = λ q s hq hs.
      let off : (t + q) * m + s - from ≡ q * m + s = omega (arith, add-mul t q m) in
      w.made ((t + q) * m + s) (omega (arith, mul-add-lt q m s k hq hs, mul_comm m k, add-mul t q m, add-mul t k m)) (omega (arith, add-mul t q m))
      ∙ ap₂ f (ap (λ p. p / m) off ∙ div-mul-add q m s hs) (ap (λ p. p % m) off ∙ mod-mul-add q m s hs);
  after = λ n s hn hs. w.after (n * m + s) (omega (arith, mul-le-mul_right m hn));
  rest = λ p h. w.after p (omega arith);
}

-- a group that was written from terms, by what the loop was given
pub group_written : {E : Type 0} (none : E) (plus : E → E → E) (c : Shape) (q : Equation) (g m : ℕ) (table : List Permutation) (ts : List Term) (xs ys : List E) (from : ℕ)
    → m ≡ c.m → table ≡ permutations c → ts ≡ terms q → from ≡ g * M c
    → Written none (λ p. viewed none plus (given m table ts xs) (p - from)) from xs ys (from + 4 * m)
    → SegmentsWritten none c.m (segment_sum none plus c.m (permutations c) (terms q) (segments none c.m xs)) (4 * g) xs ys 4
group_written {E = E} none plus c q g m table ts xs ys from em et es ef w =
    let start : g * M c ≡ 4 * g * c.m = sym (ap (λ n. n * c.m) (mul_comm 4 g) ∙ mul_assoc g 4 c.m) in
    by_segments none c.m (segment_sum none plus c.m (permutations c) (terms q) (segments none c.m xs)) (4 * g) 4 xs ys from (from + 4 * c.m) (ef ∙ start) (omega (arith, ef, start, add-mul (4 * g) 4 c.m))
    (subst (λ (v : View E). Written none (λ p. viewed none plus v (p - from)) from xs ys (from + 4 * v.m)) (view_is c q m table ts xs em et es) w)

-- what a product was given
pub record Factors : Type 0 where
  pub m : ℕ
  pub words : List ℕ
  pub source : ℕ
  pub target : ℕ

abbrev pub factors : ℕ → List ℕ → ℕ → ℕ → Factors
factors m ws s t = record { m = m; words = ws; source = s; target = t }

-- place s of target n of a product with four sources and four targets
abbrev multiplied : {E : Type 0} → E → (E → E → E) → Factors → (ℕ → ℕ → E) → ℕ → ℕ → E
multiplied none plus f x n s = sum none plus 4 (λ l. act none plus f.m (first_row f.m f.words (4 * l + n)) (x (f.source + l)) s)

abbrev pub Multiplied : {E : Type 0} → E → (E → E → E) → List E → List E → Factors → Type 0
Multiplied none plus xs ys f =
    Written none (λ p. multiplied none plus f (segments none f.m xs) ((p - f.target * f.m) / f.m) ((p - f.target * f.m) % f.m)) (f.target * f.m) xs ys (f.target * f.m + 4 * f.m)

pub product_written : {E : Type 0} (none : E) (plus : E → E → E) (f : Factors) (xs ys : List E) → Multiplied none plus xs ys f
    → SegmentsWritten none f.m (multiplied none plus f (segments none f.m xs)) f.target xs ys 4
product_written none plus f xs ys w = by_segments none f.m (multiplied none plus f (segments none f.m xs)) f.target 4 xs ys _ _ refl (sym (add-mul f.target 4 f.m)) w
