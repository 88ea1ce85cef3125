-- Assignments of the unknowns that make all rows zero are the codeblocks that fit the marks.
use Rattle.std.proofs.Common.{◌≡◌, ℕ, ◌+◌, ◌*◌, ◌<◌, ◌≤◌, Some, None, List, map, length, get_or, sym, refl, ap, ◌∙◌, subst, mul_comm, arith}
use Rattle.std.proofs.lemmas.Nat.{mul-add-lt}
use Rattle.std.proofs.lemmas.List.{length-map, get_or-map, ext_get_or}
use Rattle.element.specs.declared.bits.Bit.{Bit}
use Rattle.element.specs.declared.bits.Bit.TheVariants.{Zero, One}
use Rattle.element.specs.declared.forms.Form.{Form}
use Rattle.element.specs.Bits.{bit_plus, bit_laws}
use Rattle.element.specs.Forms.{form_zero, form_plus}
use Rattle.qc.specs.Shape.{Shape, M, sent, whole}
use Rattle.qc.specs.Codeblock.{groups, Codeblock}
use Rattle.qc.proofs.Soundness.{Sound}
use Rattle.qc.proofs.Completion.{group_more}
use Rattle.qc.proofs.Mapped.{mapped_codeblock, codeblock_mapped, codeblock_same}
use Rattle.erasure.specs.Unknowns.{member, value}
use Rattle.erasure.specs.Demands.{RowsZero}
use Rattle.erasure.specs.Solutions.{Only, Many}
use Rattle.erasure.specs.Marks.{Mark, mark_at, rank, erasures, form_of, form_at, marked_forms, laid, written, filled_of, Marked}
use Rattle.erasure.specs.Fits.{Agrees, Fits, NoneFits, OnlyFits, TwoFit, Open}
use Rattle.erasure.proofs.Values.{value_keeps, value_ext}
use Rattle.erasure.proofs.Assignments.{taken, taken_at, unknown_at, value_known, value_erased}
use Rattle.erasure.proofs.Laying.{marked_length, marked_at, laid_length, laid_front}
use Rattle.erasure.proofs.Ranks.{rank_lt}

module _ (c : Shape) (ok : Sound c) (ms : List Mark) (size : length ms ≡ sent c) (xs : List Form) (fits : whole c ≤ length xs) where
  abbrev u : ℕ
  u = erasures ms

  pub room : length ms ≤ length xs
  room = omega (arith, size, fits, group_more form_zero form_plus c xs fits)

  -- the block that an assignment makes
  abbrev block : (ℕ → Bit) → List Bit
  block s = map (value u s) (marked_forms ms)

  block_length : (s : ℕ → Bit) → length (block s) ≡ length ms
  block_length s = length-map (marked_forms ms) (value u s) ∙ marked_length ms

  block_at : (s : ℕ → Bit) (i : ℕ) → i < length ms → get_or (block s) i Zero ≡ value u s (form_at ms i)
  block_at s i h = get_or-map (value u s) (marked_forms ms) i form_zero Zero (omega (arith, marked_length ms)) ∙ ap (value u s) (marked_at ms i h)

  block_known : (s : ℕ → Bit) (i : ℕ) (x : Bit) → i < length ms → mark_at ms i ≡ Some x → get_or (block s) i Zero ≡ x
  block_known s i x h e = block_at s i h ∙ ap (λ m. value u s (form_of m (rank ms i))) e ∙ value_known u s x (rank ms i)

  block_erased : (s : ℕ → Bit) (i : ℕ) → i < length ms → mark_at ms i ≡ None → get_or (block s) i Zero ≡ s (rank ms i)
  block_erased s i h e = block_at s i h ∙ ap (λ m. value u s (form_of m (rank ms i))) e ∙ value_erased u s (rank ms i) (rank_lt ms i (length ms) h e)

  -- it is a codeblock exactly when the assignment makes the rows zero
  abbrev Coded : (ℕ → Bit) → Type 0
  Coded s = Codeblock Zero bit_plus c (groups Zero (M c) (block s))

  abbrev Rows : (ℕ → Bit) → Type 0
  Rows = RowsZero u c (written c ms xs) (2 * M c)

  front_same : (s : ℕ → Bit) (g i : ℕ) → g < c.K + 2 → i < M c → groups Zero (M c) (map (value u s) (laid ms xs)) g i ≡ groups Zero (M c) (block s) g i
  front_same s g i hg hi =
      get_or-map (value u s) (laid ms xs) (g * M c + i) form_zero Zero (omega (arith, low, laid_length ms xs room, room))
      ∙ ap (value u s) (laid_front ms xs room (g * M c + i) low) ∙ sym (block_at s (g * M c + i) low)
    where
      low : g * M c + i < length ms
      low = omega (arith, size, mul-add-lt g (M c) i (c.K + 2) hg hi, mul_comm (4 * c.m) (c.K + 2))

  long : whole c ≤ length (laid ms xs)
  long = omega (arith, laid_length ms xs room, fits)

  pub rows_coded : (s : ℕ → Bit) → Rows s → Coded s
  rows_coded s z = codeblock_same bit_laws c ok _ _ (front_same s) (mapped_codeblock (value u s) (value_keeps u s) c bit_laws ok (laid ms xs) long z)

  pub coded_rows : (s : ℕ → Bit) → Coded s → Rows s
  coded_rows s b = codeblock_mapped (value u s) (value_keeps u s) c bit_laws ok (laid ms xs) long (codeblock_same bit_laws c ok _ _ (λ g i hg hi. sym (front_same s g i hg hi)) b)

  pub fits_under : (s : ℕ → Bit) → Rows s → Fits c ms (block s)
  fits_under s z = record { long = block_length s; agrees = λ i h. go i h (mark_at ms i) refl; coded = rows_coded s z }
    where
      go : (i : ℕ) → i < length ms → (m : Mark) → mark_at ms i ≡ m → Agrees m (get_or (block s) i Zero)
      go i h (Some x) e = sym (block_known s i x h e)
      go i h None e = tt

  -- the assignment that a block makes
  abbrev back : List Bit → ℕ → Bit
  back b = taken ms (λ i. get_or b i Zero) (length ms)

  back_block : (b : List Bit) → ((i : ℕ) → i < length ms → Agrees (mark_at ms i) (get_or b i Zero)) → (i : ℕ) → i < length ms → get_or (block (back b)) i Zero ≡ get_or b i Zero
  back_block b agrees i h = go (mark_at ms i) refl (agrees i h)
    where
      go : (m : Mark) → mark_at ms i ≡ m → Agrees m (get_or b i Zero) → get_or (block (back b)) i Zero ≡ get_or b i Zero
      go (Some x) e a = block_known (back b) i x h e ∙ a
      go None e a = block_erased (back b) i h e ∙ taken_at ms (λ i. get_or b i Zero) (length ms) i h e

  pub back_same : (b : List Bit) → Fits c ms b → block (back b) ≡ b
  back_same b f = ext_get_or Zero (block (back b)) b (block_length (back b) ∙ sym f.long) (λ i h. back_block b f.agrees i (omega (arith, block_length (back b))))

  pub rows_back : (b : List Bit) → Fits c ms b → Rows (back b)
  rows_back b f = coded_rows (back b) (subst (λ (l : List Bit). Codeblock Zero bit_plus c (groups Zero (M c) l)) (sym (back_same b f)) f.coded)

  pub none_fits : ((s : ℕ → Bit) → Rows s → ⊥) → NoneFits c ms
  none_fits no_way b f = no_way (back b) (rows_back b f)

  -- one assignment is left
  module _ (bits : List Bit) (one : Only u Rows bits) where
    abbrev given : ℕ → Bit
    given k = get_or bits k Zero

    pub only_fits : OnlyFits c ms (block given)
    only_fits =
        record {
          fits = fits_under given (one.fits given (λ k h. refl));
          only = λ b f. sym (back_same b f) ∙ ext_get_or Zero (block (back b)) (block given) (block_length (back b) ∙ sym (block_length given))
              (λ i h. let l : i < length ms = omega (arith, block_length (back b)) in
              block_at (back b) i l ∙ value_ext u (back b) given (form_at ms i) (one.only (back b) (rows_back b f)) ∙ sym (block_at given i l));
        }

    pub filled_known : (vs : List Mark) → length vs ≡ length ms → ((i : ℕ) → i < length ms → mark_at vs i ≡ filled_of (mark_at ms i) (get_or bits (rank ms i) Zero)) → vs ≡ map Some (block given)
    filled_known vs same made =
        ext_get_or (Some Zero) vs (map Some (block given)) (same ∙ sym (length-map (block given) Some ∙ block_length given))
        (λ i h. let l : i < length ms = omega arith in
        made i l ∙ go i l (mark_at ms i) refl ∙ sym (get_or-map Some (block given) i Zero (Some Zero) (omega (arith, block_length given))))
      where
        go : (i : ℕ) → i < length ms → (m : Mark) → mark_at ms i ≡ m → filled_of m (get_or bits (rank ms i) Zero) ≡ Some (get_or (block given) i Zero)
        go i h (Some x) e = ap Some (sym (block_known given i x h e))
        go i h None e = ap Some (sym (block_erased given i h e))

  -- several assignments are left
  module _ (set : ℕ) (many : Many u Rows set) where
    pub marked_open : (i : ℕ) → i < length ms → Marked ms set i → Open c ms i
    marked_open i h (e, o) =
        let d = many.inside (rank ms i) (rank_lt ms i (length ms) h e) o in
        let s = d.0 in
        let t = d.1.0 in
        (block s, (block t, (fits_under s d.1.1.0, (fits_under t d.1.1.1.0, (λ q. d.1.1.1.1 (sym (block_erased s i h e) ∙ q ∙ block_erased t i h e))))))

    pub open_marked : (i : ℕ) → i < length ms → Open c ms i → Marked ms set i
    open_marked i h (b, (other, (f, (g, ne)))) = go (mark_at ms i) refl (f.agrees i h) (g.agrees i h)
      where
        go : (m : Mark) → mark_at ms i ≡ m → Agrees m (get_or b i Zero) → Agrees m (get_or other i Zero) → Marked ms set i
        go (Some x) e a a' = absurd (ne (sym a ∙ a'))
        go None e a a' = (e, side (member set (rank ms i)) refl)
          where
            side : (w : Bit) → member set (rank ms i) ≡ w → member set (rank ms i) ≡ One
            side One q = q
            side Zero q =
                absurd (ne (sym (taken_at ms (λ i. get_or b i Zero) (length ms) i h e)
                ∙ many.outside (rank ms i) (rank_lt ms i (length ms) h e) q (back b) (back other) (rows_back b f) (rows_back other g)
                ∙ taken_at ms (λ i. get_or other i Zero) (length ms) i h e))

    -- a place that is marked
    pub some_marked : (i : ℕ) × ((i < length ms) × Marked ms set i)
    some_marked =
        let k = many.some in
        let a = unknown_at ms (length ms) k.0 k.1.0 in
        (a.0, (a.1.0, (a.1.1.0, ap (member set) a.1.1.1 ∙ k.1.1)))

    pub two_fit : TwoFit c ms
    two_fit =
        let a = some_marked in
        let d = marked_open a.0 a.1.0 a.1.1 in
        (d.0, (d.1.0, (d.1.1.0, (d.1.1.1.0, (λ q. d.1.1.1.1 (ap (λ (l : List Bit). get_or l a.0 Zero) q))))))
