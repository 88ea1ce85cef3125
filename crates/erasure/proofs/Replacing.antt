-- One mark more, filled where it is erased.
use Rattle.std.proofs.Common.{◌≡◌, ℕ, ◌+◌, ◌<◌, ◌≤◌, true, false, Some, None, List, length, get_or, set, sym, refl, ap, ap₂, ◌∙◌, arith}
use Rattle.std.specs.Option.{is_some}
use Rattle.std.proofs.lemmas.Bool.{false≢true}
use Rattle.std.proofs.lemmas.List.{get_or_default}
use Rattle.element.specs.declared.bits.Bit.{Bit}
use Rattle.element.specs.declared.bits.Bit.TheVariants.{Zero}
use Rattle.qc.specs.Segments.{Written}
use Rattle.qc.proofs.Written.{written_more}
use Rattle.erasure.specs.Marks.{Mark, mark_at, rank, erasures, filled_of}
use Rattle.erasure.proofs.Ranks.{erased, count_lt}

kept : (m : Mark) (x : Bit) → is_some m ≡ true → m ≡ filled_of m x
kept None x e = absurd (false≢true e)
kept (Some y) x e = refl

module _ (ms : List Mark) (bits : List Bit) where
  abbrev pub filled_at : ℕ → Mark
  filled_at i = filled_of (mark_at ms i) (get_or bits (rank ms i) Zero)

  module _ (vs : List Mark) (i : ℕ) (low : i < length vs) (so : Written (Some Zero) filled_at 0 ms vs i) where
    pub mark_left : get_or vs i None ≡ mark_at ms i
    mark_left = get_or_default vs i None (Some Zero) low ∙ so.after i (omega arith)

    pub fill_few : {k : ℕ} → k ≡ rank ms i → is_some (get_or vs i None) ≡ false → length vs ≡ length ms → erasures ms ≤ 64 → k < 64
    fill_few {k} count e long few = omega (arith, count_lt ms i k count (get_or vs i None) mark_left (omega arith) e)

    pub fill_erased : (k : ℕ) → k ≡ rank ms i → is_some (get_or vs i None) ≡ false → Written (Some Zero) filled_at 0 ms (set vs i (Some (get_or bits k Zero))) (i + 1)
    fill_erased k count e =
        written_more vs i _ so (omega arith) low (ap₂ (λ (j : ℕ) (m : Mark). filled_of m (get_or bits j Zero)) count (sym (sym mark_left ∙ erased _ e)))

    pub fill_known : is_some (get_or vs i None) ≡ true → Written (Some Zero) filled_at 0 ms (set vs i (get_or vs i None)) (i + 1)
    fill_known e =
        written_more vs i _ so (omega arith) low (mark_left ∙ kept (mark_at ms i) (get_or bits (rank ms i) Zero) (ap is_some (sym mark_left) ∙ e))
