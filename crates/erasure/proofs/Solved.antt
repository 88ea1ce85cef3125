-- Rows of a block taken in a segment at a time.
use Rattle.std.proofs.Common.{◌≡◌, ℕ, ◌+◌, ◌-◌, ◌*◌, ◌<◌, ◌≤◌, Bool, cond, List, length, get_or, sym, ap, ◌∙◌, subst, arith}
use native.Mathlib.Decide.{dec_lt}
use Rattle.std.proofs.lemmas.List.FromFn.{length-map-range_with_len, get_or-map-range_with_len}
use Rattle.std.proofs.lemmas.Bool.{and_from, le-leb, eq-eqb, lt-ltb}
use Rattle.element.specs.declared.bits.Bit.{Bit}
use Rattle.element.specs.declared.bits.Bit.TheVariants.{Zero}
use Rattle.element.specs.declared.forms.Form.{Form}
use Rattle.element.specs.Forms.{form_zero, form_plus}
use Rattle.qc.specs.Shape.{Shape, M, whole}
use Rattle.qc.specs.Codeblock.{row, groups}
use Rattle.qc.specs.SegmentRows.{rows_there, segment_rows}
use Rattle.qc.proofs.Rows.{next_segment}
use Rattle.erasure.specs.Unknowns.{value, Solves}
use Rattle.erasure.specs.Demands.{Same, Zeros, RowsZero}
use Rattle.erasure.proofs.Inserting.{adds_more}

module _ (u : ℕ) (c : Shape) (run : List Form) (n : ℕ) where
  f : ℕ → Form
  f s = row form_zero form_plus c (groups form_zero (M c) run) (n * c.m + s)

  -- what a call for the rows leaves, where they are there
  pub rows_are : (before after : List Form) → whole c ≤ length run → n < 8 → length before ≡ c.m
      → after ≡ cond (rows_there c (length run) n (length before)) (segment_rows form_zero form_plus c run n) before → after ≡ segment_rows form_zero form_plus c run n
  rows_are before after fits low room is =
      is ∙ ap (λ (t : Bool). cond t (segment_rows form_zero form_plus c run n) before)
      (and_from _ _ (and_from _ _ (le-leb _ _ fits) (eq-eqb _ _ room)) (lt-ltb n 8 low))

  -- a segment of rows is zero
  module _ (rows : List Form) (is : rows ≡ segment_rows form_zero form_plus c run n) (s : ℕ → Bit) where
    long : length rows ≡ c.m
    unfolding f
    long = ap length is ∙ length-map-range_with_len f 0 c.m

    at : (i : ℕ) → i < c.m → get_or rows i form_zero ≡ f i
    unfolding f
    at i h = ap (λ (l : List Form). get_or l i form_zero) is ∙ get_or-map-range_with_len f 0 c.m i i form_zero h (omega arith)

    pub rows_join : RowsZero u c run (n * c.m) s → Zeros u rows (length rows) s → RowsZero u c run ((n + 1) * c.m) s
    unfolding f
    rows_join old new r h = go (dec_lt r (n * c.m))
      where
        go : Dec (r < n * c.m) → value u s (row form_zero form_plus c (groups form_zero (M c) run) r) ≡ Zero
        go (yes low) = old r low
        go (no high) =
            let i : ℕ = r - n * c.m in
            let on : n * c.m + i ≡ r = omega arith in
            let low : i < c.m = omega (arith, next_segment n c.m) in
            ap (λ k. value u s (row form_zero form_plus c (groups form_zero (M c) run) k)) (sym on) ∙ sym (ap (value u s) (at i low)) ∙ new i (omega (arith, long))

    pub rows_part : RowsZero u c run ((n + 1) * c.m) s → RowsZero u c run (n * c.m) s × Zeros u rows (length rows) s
    unfolding f
    rows_part all = (
      (λ r h. all r (omega (arith, next_segment n c.m))),
      (λ i h.
          let low : i < c.m = omega (arith, long) in
          ap (value u s) (at i low) ∙ all (n * c.m + i) (omega (arith, next_segment n c.m))),
    )

  pub segment_more : (rows : List Form) → rows ≡ segment_rows form_zero form_plus c run n → (t v w : List Form)
      → Same (Solves u v) (λ s. Solves u t s × RowsZero u c run (n * c.m) s) → Same (Solves u w) (λ s. Solves u v s × Zeros u rows (length rows) s)
      → Same (Solves u w) (λ s. Solves u t s × RowsZero u c run ((n + 1) * c.m) s)
  segment_more rows is t v w a b =
      adds_more u t v w (λ k. RowsZero u c run (k * c.m)) (Zeros u rows (length rows)) n (n + 1) (rows_join rows is) (rows_part rows is) a b

-- eight segments are two block rows
pub rows_eight : (u : ℕ) (c : Shape) (run : List Form) (n : ℕ) → n ≡ 8 → (t v : List Form)
    → Same (Solves u v) (λ s. Solves u t s × RowsZero u c run (n * c.m) s) → Same (Solves u v) (λ s. Solves u t s × RowsZero u c run (2 * M c) s)
rows_eight u c run n e t v a =
    let is : n * c.m ≡ 2 * M c = ap (λ k. k * c.m) e ∙ omega arith in
    subst (λ k. Same (Solves u v) (λ s. Solves u t s × RowsZero u c run k s)) is a
