-- A reduced table has solutions, and what they are at each unknown.
use Rattle.std.proofs.Common.{◌≡◌, ℕ, zero, suc, ◌^◌, ◌<◌, ◌≢◌, ◌⊎◌, List, sym, refl, ap, ◌∙◌, ap₂, inl, inr, arith}
use Rattle.std.proofs.lemmas.Bool.{cases_eq}
use Rattle.element.specs.declared.bits.Bit.{Bit}
use Rattle.element.specs.declared.bits.Bit.TheVariants.{Zero, One}
use Rattle.element.specs.declared.forms.Form.{Form}
use Rattle.element.specs.Bits.{bit_plus, bit_laws}
use Rattle.element.specs.Forms.{form_zero}
use Rattle.erasure.specs.Unknowns.{member, both, dot, value, pivot, Solves, Reduced}
use Rattle.erasure.proofs.Sets.{member_xor, member_own, member_other, member_turned}
use Rattle.erasure.specs.Solutions.{Differ, Settled}
use lib.Bits.{bit_xor}
use Rattle.qc.proofs.Sums.{right, equal}
use Rattle.erasure.proofs.Values.{apart, dot_ext, dot_none, dot_plus_right, value_zero}

-- one place alone
pub dot_one : (n : ℕ) (c s : ℕ → Bit) (k : ℕ) → k < n → ((q : ℕ) → q < n → q ≢ k → both (c q) (s q) ≡ Zero) → dot n c s ≡ both (c k) (s k)
dot_one zero c s k hk h = absurd (omega arith)
dot_one (suc n) c s k hk h = go (cases_eq k n) (λ l. dot_one n c s k l (λ q l. h q (omega arith)))
  where
    go : ((k ≡ n) ⊎ (k ≢ n)) → (k < n → dot n c s ≡ both (c k) (s k)) → dot (suc n) c s ≡ both (c k) (s k)
    go (inl e) less =
        ap (λ b. bit_plus b (both (c n) (s n))) (dot_none n c s (λ q l. h q (omega arith) (omega arith))) ∙ bit_laws.neutral _ ∙ ap (λ i. both (c i) (s i)) (sym e)
    go (inr ne) less =
        ap₂ bit_plus (less (omega arith)) (h n (omega arith) (omega arith)) ∙ right bit_laws (both (c k) (s k))

both_zero : (b : Bit) → both b Zero ≡ Zero
both_zero Zero = refl
both_zero One = refl

-- w made a solution: each unknown with a row takes what its row wants
unfoldable pub repair : ℕ → List Form → (ℕ → Bit) → ℕ → Bit
repair u t w k = bit_plus (w k) (value u w (pivot t k))

module _ (u : ℕ) (t : List Form) (red : Reduced u t) (w : ℕ → Bit) where
  pub repaired : Solves u t (repair u t w)
  unfolding repair
  repaired p hp = go (member (pivot t p).unknowns p) refl
    where
      c : ℕ → Bit
      c = member (pivot t p).unknowns

      v : ℕ → Bit
      v q = value u w (pivot t q)

      none : pivot t p ≡ form_zero → value u (repair u t w) (pivot t p) ≡ Zero
      none e = ap (value u (repair u t w)) e ∙ value_zero u (repair u t w)

      others : (q : ℕ) → q < u → q ≢ p → (b : Bit) → c q ≡ b → both b (v q) ≡ Zero
      others q hq ne Zero e = refl
      others q hq ne One e = ap (value u w) (red.apart p q hp hq (λ e'. ne (sym e')) e) ∙ value_zero u w

      go : (b : Bit) → c p ≡ b → value u (repair u t w) (pivot t p) ≡ Zero
      go Zero e = none (red.empty p hp e)
      go One e =
          ap (bit_plus (pivot t p).bit)
          (dot_plus_right u c w v ∙ ap (bit_plus (dot u c w)) (dot_one u c v p hp (λ q hq ne. others q hq ne (c q) refl) ∙ ap (λ b. both b (v p)) e))
          ∙ sym (bit_laws.assoc (pivot t p).bit (dot u c w) (v p)) ∙ bit_laws.cancels (v p)

-- the row of k has the unknown k and no other
pub settled : (u : ℕ) (t : List Form) (k : ℕ) → k < u → ((q : ℕ) → q < u → member (bit_xor (pivot t k).unknowns (2 ^ k)) q ≡ Zero) → Settled (Solves u t) k (pivot t k).bit
settled u t k hk h s z =
    sym (equal bit_laws (pivot t k).bit (s k)
    (ap (bit_plus (pivot t k).bit)
    (sym (dot_ext u (member (pivot t k).unknowns) (member (2 ^ k)) s s
    (λ q hq. ap (λ b. both b (s q)) (equal bit_laws (member (pivot t k).unknowns q) (member (2 ^ k) q) (sym (member_xor (pivot t k).unknowns (2 ^ k) q) ∙ h q hq)))
    ∙ dot_one u (member (2 ^ k)) s k hk (λ q hq ne. ap (λ b. both b (s q)) (member_other k q ne)) ∙ ap (λ b. both b (s k)) (member_own k)))
    ∙ z k hk))

turned_bit : (m b c : Bit) → bit_plus c m ≡ One → b ≡ bit_plus m (bit_plus b c) → ⊥
turned_bit Zero Zero Zero h e = apart h
turned_bit Zero Zero One h e = apart e
turned_bit Zero One Zero h e = apart h
turned_bit Zero One One h e = apart (sym e)
turned_bit One Zero Zero h e = apart e
turned_bit One Zero One h e = apart h
turned_bit One One Zero h e = apart (sym e)
turned_bit One One One h e = apart h

-- or it has not
pub undecided : (u : ℕ) (t : List Form) → Reduced u t → (k q : ℕ) → q < u → member (bit_xor (pivot t k).unknowns (2 ^ k)) q ≡ One → Differ (Solves u t) k
unfolding repair
undecided u t red k q hq h =
    (repair u t (λ _. Zero), (repair u t (member (2 ^ q)), (repaired u t red (λ _. Zero), (repaired u t red (member (2 ^ q)), differ))))
  where
    c : ℕ → Bit
    c = member (pivot t k).unknowns

    low : repair u t (λ _. Zero) k ≡ (pivot t k).bit
    low = bit_laws.neutral _ ∙ ap (bit_plus (pivot t k).bit) (dot_none u c (λ _. Zero) (λ i hi. both_zero (c i))) ∙ right bit_laws (pivot t k).bit

    both_one : (b : Bit) → both b One ≡ b
    both_one Zero = refl
    both_one One = refl

    high : repair u t (member (2 ^ q)) k ≡ bit_plus (member (2 ^ q) k) (bit_plus (pivot t k).bit (c q))
    high =
        ap (λ d. bit_plus (member (2 ^ q) k) (bit_plus (pivot t k).bit d))
        (dot_one u c (member (2 ^ q)) q hq (λ i hi ne. ap (both (c i)) (member_other q i ne) ∙ both_zero (c i)) ∙ ap (both (c q)) (member_own q) ∙ both_one (c q))

    differ : repair u t (λ _. Zero) k ≢ repair u t (member (2 ^ q)) k
    differ e =
        turned_bit (member (2 ^ q) k) (pivot t k).bit (c q)
        (ap (bit_plus (c q)) (member_turned q k) ∙ sym (member_xor (pivot t k).unknowns (2 ^ k) q) ∙ h) (sym low ∙ e ∙ high)
