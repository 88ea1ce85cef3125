-- The assignment that a block makes of the unknowns of the erased places.
use Rattle.std.proofs.Common.{◌≡◌, ℕ, zero, suc, ◌^◌, ◌<◌, ◌≤◌, Bool, true, false, cond, eqb, ◌≢◌, ◌⊎◌, Some, None, List, sym, refl, ap, ◌∙◌, inl, inr, arith}
use native.Mathlib.Decide.{dec_lt}
use Rattle.std.proofs.lemmas.Bool.{cases_eq, eq-eqb, ne_eqb}
use Rattle.element.specs.declared.bits.Bit.{Bit}
use Rattle.element.specs.declared.bits.Bit.TheVariants.{Zero}
use Rattle.element.specs.Bits.{bit_plus, bit_laws}
use Rattle.erasure.specs.Unknowns.{member, both, value}
use Rattle.erasure.specs.Marks.{Mark, mark_at, gap, rank, form_of}
use Rattle.erasure.proofs.Sets.{member_own, member_other}
use Rattle.qc.proofs.Sums.{right}
use Rattle.erasure.proofs.Values.{dot_constant}
use Rattle.erasure.proofs.Repairing.{dot_one}
use Rattle.erasure.proofs.Ranks.{rank_lt}

-- the bit of b at the erased place below n that has the unknown k
unfoldable pub taken : List Mark → (ℕ → Bit) → ℕ → ℕ → Bit
taken ms b zero k = Zero
taken ms b (suc n) k = cond (eqb (gap (mark_at ms n)) 1) (cond (eqb (rank ms n) k) (b n) (taken ms b n k)) (taken ms b n k)

pub taken_at : (ms : List Mark) (b : ℕ → Bit) (n i : ℕ) → i < n → mark_at ms i ≡ None → taken ms b n (rank ms i) ≡ b i
unfolding taken
taken_at ms b zero i h e = absurd (omega arith)
taken_at ms b (suc n) i h e = go (cases_eq i n) (λ l. taken_at ms b n i l e)
  where
    go : ((i ≡ n) ⊎ (i ≢ n)) → (i < n → taken ms b n (rank ms i) ≡ b i) → taken ms b (suc n) (rank ms i) ≡ b i
    go (inl q) less =
        ap (λ t. cond t (cond (eqb (rank ms n) (rank ms i)) (b n) (taken ms b n (rank ms i))) (taken ms b n (rank ms i))) (eq-eqb (gap (mark_at ms n)) 1 (ap (λ i. gap (mark_at ms i)) (sym q) ∙ ap gap e))
        ∙ ap (λ t. cond t (b n) (taken ms b n (rank ms i))) (eq-eqb (rank ms n) (rank ms i) (ap (rank ms) (sym q))) ∙ ap b (sym q)
    go (inr ne) less =
        let lt : rank ms i < rank ms n = rank_lt ms i n (omega arith) e in
        alike (eqb (gap (mark_at ms n)) 1) (ap (λ t. cond t (b n) (taken ms b n (rank ms i))) (ne_eqb (rank ms n) (rank ms i) (λ q. omega arith)))
        ∙ less (omega arith)
      where
        alike : {x y : Bit} (t : Bool) → x ≡ y → cond t x y ≡ y
        alike true q = q
        alike false q = refl

-- each unknown is that of an erased place
pub unknown_at : (ms : List Mark) (n k : ℕ) → k < rank ms n → (i : ℕ) × ((i < n) × ((mark_at ms i ≡ None) × (rank ms i ≡ k)))
unknown_at ms zero k h = absurd (omega arith)
unknown_at ms (suc n) k h = go (dec_lt k (rank ms n)) (λ l. unknown_at ms n k l)
  where
    there : (m : Mark) → mark_at ms n ≡ m → rank ms n ≤ k → mark_at ms n ≡ None
    there (Some x) e l = absurd (omega (arith, ap gap e))
    there None e l = e

    go : Dec (k < rank ms n) → (k < rank ms n → (i : ℕ) × ((i < n) × ((mark_at ms i ≡ None) × (rank ms i ≡ k)))) → (i : ℕ) × ((i < suc n) × ((mark_at ms i ≡ None) × (rank ms i ≡ k)))
    go (yes l) less = let a = less l in (a.0, (omega (arith, a.1.0), a.1.1))
    go (no l) less = let e = there (mark_at ms n) refl (omega arith) in (n, (omega arith, (e, omega (arith, ap gap e))))

-- what the form of a mark stands for
pub value_known : (u : ℕ) (s : ℕ → Bit) (x : Bit) (k : ℕ) → value u s (form_of (Some x) k) ≡ x
value_known u s x k = ap (bit_plus x) (dot_constant u s) ∙ right bit_laws x

pub value_erased : (u : ℕ) (s : ℕ → Bit) (k : ℕ) → k < u → value u s (form_of None k) ≡ s k
value_erased u s k h =
    bit_laws.neutral _ ∙ dot_one u (member (2 ^ k)) s k h (λ q hq ne. ap (λ b. both b (s q)) (member_other k q ne)) ∙ ap (λ b. both b (s k)) (member_own k)
