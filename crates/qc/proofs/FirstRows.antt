-- Circulants by their first rows: sums, turns and products of first rows are sums, turns and products of what they do.
use Rattle.std.proofs.Common.{◌≡◌, ℕ, zero, suc, ◌+◌, ◌-◌, ◌*◌, ◌/◌, ◌%◌, ◌^◌, ◌<◌, ◌≤◌, Bool, cond, sym, refl, ap, ◌∙◌, ap₂, add_assoc, mod-lt, mod-eq_of_lt, add_comm, one-mul, arith, pow_pos, pow-add, shr-shr, shr_lt}
use native.Mathlib.Nat.{mod-add-mod, add-mod_right, zero-div, mul-mod_left}
use native.Mathlib.Decide.{dec_le}
use lib.Bits.{bit_xor, xor_shr, xor_mod}
use lib.Pow.{field, mod-mod-pow, high, low, shl-shr}
use Rattle.std.proofs.lemmas.Bool.{eq-eqb, ne_eqb}
use Rattle.element.specs.Laws.{Laws}
use Rattle.qc.specs.Circulant.{shift, sum, times, bit, act, left, mul, unit}
use Rattle.qc.proofs.Sums.{sum_ext, sum_plus, sum_round, sum_none, sum_one}

-- the low bits of a number are those of its remainder
pub bit_mod : (q n e : ℕ) → e < n → bit (q % 2 ^ n) e ≡ bit q e
bit_mod q n e h =
    let j : ℕ = n - e - 1 in
    let p : n ≡ (j + 1) + e = omega arith in
    ap (λ k. q % 2 ^ k / 2 ^ e % 2) p ∙ ap (λ y. y % 2) (field q (j + 1) e) ∙ mod-mod-pow (q / 2 ^ e) j 1

bit_left_low : (q n k e : ℕ) → e < n → bit ((q % 2 ^ n) * 2 ^ k + q % 2 ^ (k + n) / 2 ^ n) (k + e) ≡ bit q e
bit_left_low q n k e h =
    ap (λ y. y % 2) (sym (shr-shr _ k e)) ∙ ap (λ y. y / 2 ^ e % 2) (high (q % 2 ^ n) k (shr_lt k n (mod-lt q (pow_pos (k + n))))) ∙ bit_mod q n e h

bit_left_high : (q n k d : ℕ) → d < k → bit ((q % 2 ^ n) * 2 ^ k + q % 2 ^ (k + n) / 2 ^ n) d ≡ bit q (n + d)
bit_left_high q n k d h =
    sym (bit_mod _ k d h) ∙ ap (λ y. y / 2 ^ d % 2) (low (q % 2 ^ n) k (shr_lt k n (mod-lt q (pow_pos (k + n)))))
    ∙ ap (λ y. y % 2) (shr-shr (q % 2 ^ (k + n)) n d) ∙ bit_mod q (k + n) (n + d) (omega arith)

-- the bits of a first row that is turned left by k
pub bit_left : (m k q e : ℕ) → k ≤ m → e < m → bit (left m k q) ((e + k) % m) ≡ bit q e
bit_left m k q e hk he = go (dec_le (m - k) e)
  where
    whole : m ≡ k + (m - k)
    whole = omega arith

    spread : left m k q ≡ (q % 2 ^ (m - k)) * 2 ^ k + q % 2 ^ (k + (m - k)) / 2 ^ (m - k)
    spread = ap (λ n. (q % 2 ^ (m - k)) * 2 ^ k + q % 2 ^ n / 2 ^ (m - k)) whole

    go : Dec ((m - k) ≤ e) → bit (left m k q) ((e + k) % m) ≡ bit q e
    go (no low) =
        let small : e + k < m = omega arith in
        ap₂ bit spread (mod-eq_of_lt small ∙ add_comm e k) ∙ bit_left_low q (m - k) k e (omega arith)
    go (yes high) =
        let d : ℕ = e - (m - k) in
        let p : e + k ≡ d + m = omega arith in
        let small : d < m = omega arith in
        let back : (m - k) + d ≡ e = omega arith in
        ap₂ bit spread (ap (λ n. n % m) p ∙ add-mod_right d m ∙ mod-eq_of_lt small) ∙ bit_left_high q (m - k) k d (omega arith) ∙ ap (bit q) back

bit_of_xor : (p q e : ℕ) → bit (bit_xor p q) e ≡ bit_xor (bit p e) (bit q e)
bit_of_xor p q e = ap (λ y. y % 2) (xor_shr p q e) ∙ xor_mod (p / 2 ^ e) (q / 2 ^ e) 1

bit_pow : (k : ℕ) → bit (2 ^ k) k ≡ 1
bit_pow k = ap (λ n. n % 2) (ap (λ n. n / 2 ^ k) (sym (one-mul (2 ^ k))) ∙ shl-shr 1 k)

bit_pow_other : (k e : ℕ) → e < k → bit (2 ^ k) e ≡ 0
bit_pow_other k e h =
    let d : ℕ = k - e - 1 in
    let p : k ≡ (d + 1) + e = omega arith in
    ap (λ n. n % 2) (ap (λ n. 2 ^ n / 2 ^ e) p ∙ ap (λ n. n / 2 ^ e) (pow-add 2 (d + 1) e) ∙ shl-shr (2 ^ (d + 1)) e ∙ pow-add 2 d 1) ∙ mul-mod_left (2 ^ d) 2

pub shift_comm : {E : Type 0} (m k l : ℕ) (x : ℕ → E) (s : ℕ) → shift m k (shift m l x) s ≡ shift m l (shift m k x) s
shift_comm m k l x s = shift_shift m k l x s ∙ ap (λ n. shift m n x s) (add_comm k l) ∙ sym (shift_shift m l k x s)
  where
    shift_shift : {E : Type 0} (m k l : ℕ) (x : ℕ → E) (s : ℕ) → shift m k (shift m l x) s ≡ shift m (k + l) x s
    shift_shift m k l x s = ap x (mod-add-mod (s + k) m l ∙ ap (λ n. n % m) (add_assoc s k l))

module _ {E : Type 0} {none : E} {plus : E → E → E} {same : E → E → Bool} (laws : Laws none plus same) where
  times_xor : (a b : ℕ) (x : E) → a < 2 → b < 2 → times none (bit_xor a b) x ≡ plus (times none a x) (times none b x)
  times_xor zero b x ha hb = sym (laws.neutral _)
  times_xor (suc zero) zero x ha hb = sym (laws.comm x none ∙ laws.neutral x)
  times_xor (suc zero) (suc zero) x ha hb = sym (laws.cancels x)
  times_xor (suc zero) (suc (suc b)) x ha hb = absurd (omega arith)
  times_xor (suc (suc a)) b x ha hb = absurd (omega arith)

  pub act_xor : (m p q : ℕ) (x : ℕ → E) (s : ℕ) → act none plus m (bit_xor p q) x s ≡ plus (act none plus m p x s) (act none plus m q x s)
  act_xor m p q x s =
      sum_ext laws m _ _ (λ e h. ap (λ n. times none n (x ((s + (1 + e)) % m))) (bit_of_xor p q e) ∙ times_xor (bit p e) (bit q e) _ (mod-lt _ (omega arith)) (mod-lt _ (omega arith)))
      ∙ sum_plus laws m _ _

  pub act_left : (m k q : ℕ) (x : ℕ → E) (s : ℕ) → k ≤ m → act none plus m (left m k q) x s ≡ shift m k (act none plus m q x) s
  act_left m k q x s hk =
      sum_ext laws m _ f (λ e h. ap (λ n. times none (bit (left m k q) n) (x ((s + (1 + e)) % m))) (sym (mod-eq_of_lt h)))
      ∙ sym (sum_round laws m f period k)
      ∙ sum_ext laws m _ _ (λ e h. ap₂ (λ n i. times none n (x i)) (bit_left m k q e hk h) (ap (λ n. n % m) (omega arith) ∙ sym (mod-add-mod (s + k) m (1 + e))))
    where
      f : ℕ → E
      f e = times none (bit (left m k q) (e % m)) (x ((s + (1 + e)) % m))

      period : (e : ℕ) → f (e + m) ≡ f e
      period e = ap₂ (λ n i. times none (bit (left m k q) n) (x i)) (add-mod_right e m) (ap (λ n. n % m) (omega arith) ∙ add-mod_right (s + (1 + e)) m)

  pub act_none : (m : ℕ) (x : ℕ → E) (s : ℕ) → act none plus m 0 x s ≡ none
  act_none m x s = sum_ext laws m _ (λ e. none) (λ e h. ap (λ n. times none n (x ((s + (1 + e)) % m))) (ap (λ n. n % 2) (zero-div (2 ^ e)))) ∙ sum_none laws m

  times_plus : (n : ℕ) (x y : E) → times none n (plus x y) ≡ plus (times none n x) (times none n y)
  times_plus zero x y = sym (laws.neutral none)
  times_plus (suc n) x y = refl

  -- a circulant is linear, and commutes with each shift
  pub act_plus : (m q : ℕ) (x y : ℕ → E) (s : ℕ) → act none plus m q (λ i. plus (x i) (y i)) s ≡ plus (act none plus m q x s) (act none plus m q y s)
  act_plus m q x y s = sum_ext laws m _ _ (λ e h. times_plus (bit q e) _ _) ∙ sum_plus laws m _ _

  pub act_shift : (m q k : ℕ) (x : ℕ → E) (s : ℕ) → act none plus m q (shift m k x) s ≡ shift m k (act none plus m q x) s
  act_shift m q k x s = sum_ext laws m _ _ (λ e h. ap (times none (bit q e)) (shift_comm m (1 + e) k x s))

  pub act_same : (m q : ℕ) (x y : ℕ → E) (s : ℕ) → ((i : ℕ) → i < m → x i ≡ y i) → act none plus m q x s ≡ act none plus m q y s
  act_same m q x y s same = sum_ext laws m _ _ (λ e h. ap (times none (bit q e)) (same _ (mod-lt _ (omega arith))))

  times_none : (n : ℕ) → times none n none ≡ none
  times_none zero = refl
  times_none (suc n) = refl

  pub act_of_none : (m q s : ℕ) → act none plus m q (λ i. none) s ≡ none
  act_of_none m q s = sum_ext laws m _ (λ e. none) (λ e h. times_none (bit q e)) ∙ sum_none laws m

  pub act_of_sum : (m q n : ℕ) (x : ℕ → ℕ → E) (s : ℕ) → act none plus m q (λ i. sum none plus n (λ l. x l i)) s ≡ sum none plus n (λ l. act none plus m q (x l) s)
  act_of_sum m q zero x s = act_of_none m q s
  act_of_sum m q (suc n) x s = act_plus m q (λ i. sum none plus n (λ l. x l i)) (x n) s ∙ ap (λ y. plus y (act none plus m q (x n) s)) (act_of_sum m q n x s)

  pub act_xsum : (m n : ℕ) (q : ℕ → ℕ) (x : ℕ → E) (s : ℕ) → act none plus m (sum 0 bit_xor n q) x s ≡ sum none plus n (λ e. act none plus m (q e) x s)
  act_xsum m zero q x s = act_none m x s
  act_xsum m (suc n) q x s = act_xor m (sum 0 bit_xor n q) (q n) x s ∙ ap (λ y. plus y (act none plus m (q n) x s)) (act_xsum m n q x s)

  act_times : (m b q : ℕ) (x : ℕ → E) (s : ℕ) → act none plus m (times 0 b q) x s ≡ times none b (act none plus m q x s)
  act_times m zero q x s = act_none m x s
  act_times m (suc b) q x s = refl

  pub act_mul : (m p q : ℕ) (x : ℕ → E) (s : ℕ) → act none plus m (mul m p q) x s ≡ act none plus m p (act none plus m q x) s
  act_mul m p q x s =
      act_xsum m m (λ e. times 0 (bit p e) (left m (1 + e) q)) x s
      ∙ sum_ext laws m _ _ (λ e h. act_times m (bit p e) (left m (1 + e) q) x s ∙ ap (times none (bit p e)) (act_left m (1 + e) q x s (omega arith)))

  pub act_unit : (m : ℕ) (x : ℕ → E) (s : ℕ) → s < m → act none plus m (2 ^ (m - 1)) x s ≡ x s
  act_unit m x s h =
      sum_one laws m (λ e. times none (bit (2 ^ (m - 1)) e) (x ((s + (1 + e)) % m))) (m - 1) (omega arith)
      (λ e l d. ap (λ b. times none b (x ((s + (1 + e)) % m))) (bit_pow_other (m - 1) e (omega arith)))
      ∙ ap₂ (λ b i. times none b (x i)) (bit_pow (m - 1)) (ap (λ n. n % m) back ∙ add-mod_right s m ∙ mod-eq_of_lt h)
    where
      back : s + (1 + (m - 1)) ≡ s + m
      back = omega arith

  -- the first rows of one segment alone act as nothing on the others
  pub act_unit_at : (m n : ℕ) (x : ℕ → ℕ → E) (s : ℕ) → s < m → (count : ℕ) → n < count → sum none plus count (λ l. act none plus m (unit m l n) (x l) s) ≡ x n s
  act_unit_at m n x s hs count hn =
      sum_one laws count (λ l. act none plus m (unit m l n) (x l) s) n hn
      (λ l h d. ap (λ b. act none plus m (cond b (2 ^ (m - 1)) 0) (x l) s) (ne_eqb l n d) ∙ act_none m (x l) s)
      ∙ ap (λ b. act none plus m (cond b (2 ^ (m - 1)) 0) (x n) s) (eq-eqb n n refl) ∙ act_unit m (x n) s hs
