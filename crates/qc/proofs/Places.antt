-- The permutation π by segment and place: element j·m + s goes by segment (θ + j) mod 4, place (s + φ(j)) mod m.
use Rattle.std.proofs.Common.{◌≡◌, ℕ, zero, suc, ◌+◌, ◌*◌, ◌/◌, ◌%◌, ◌<◌, get_or, sym, refl, ap, ◌∙◌, ap₂, mod-lt, mul_assoc, mul_comm, add-mul, arith, lit<}
use native.Mathlib.Nat.{mul-div_cancel_left, mul-div-mul_left, add-mul-mod_self_right}
use Rattle.std.proofs.lemmas.Nat.{mul-add-lt, div-mul-add}
use Rattle.qc.specs.declared.terms.Permutation.{Permutation}
use Rattle.qc.specs.Permutation.{π, identity}

pub quarter : (m : ℕ) → 4 * m / 4 ≡ m
quarter m = mul-div_cancel_left m (lit< tt)

-- ⌊4i/M⌋ is the number of the segment
pub segment_of : (m j s : ℕ) → s < m → 4 * (j * m + s) / (4 * m) ≡ j
segment_of m j s h = mul-div-mul_left (j * m + s) m (lit< tt) ∙ div-mul-add j m s h

pub π_place : (m : ℕ) (p : Permutation) (j s : ℕ) → s < m → π (4 * m) p (j * m + s) ≡ (p.theta + j) % 4 * m + (s + get_or p.phi j 0) % m
π_place m p j s h =
    ap₂ (λ w k. w * ((p.theta + k) % 4) + (get_or p.phi k 0 + (j * m + s)) % w) (quarter m) (segment_of m j s h)
    ∙ ap₂ (λ x y. x + y) (mul_comm m ((p.theta + j) % 4)) (ap (λ n. n % m) regroup ∙ add-mul-mod_self_right (s + get_or p.phi j 0) j m)
  where
    regroup : get_or p.phi j 0 + (j * m + s) ≡ s + get_or p.phi j 0 + j * m
    regroup = omega arith

pub π_below : (m : ℕ) (p : Permutation) (i : ℕ) → 0 < m → π (4 * m) p i < 4 * m
π_below m p i pos =
    let q : ℕ = (p.theta + 4 * i / (4 * m)) % 4 in
    let r : ℕ = (get_or p.phi (4 * i / (4 * m)) 0 + i) % m in
    let low : q < 4 = mod-lt _ (lit< tt) in
    let e : π (4 * m) p i ≡ m * q + r = ap (λ w. w * q + (get_or p.phi (4 * i / (4 * m)) 0 + i) % w) (quarter m) in
    omega (arith, e, mul-add-lt q m r 4 low (mod-lt _ pos), mul_comm m q)

-- place q·m + r of group g, of groups of 4m elements
pub in_group : (m g q r : ℕ) → g * (4 * m) + (q * m + r) ≡ (4 * g + q) * m + r
in_group m g q r =
    let a = add-mul (4 * g) q m in
    let b : g * (4 * m) ≡ 4 * g * m = sym (mul_assoc g 4 m) ∙ ap (λ w. w * m) (mul_comm g 4) in
    omega (arith, a, b)

-- no place of the identity is moved
pub zeros : (j : ℕ) → get_or identity.phi j 0 ≡ 0
zeros zero = refl
zeros (suc zero) = refl
zeros (suc (suc zero)) = refl
zeros (suc (suc (suc zero))) = refl
zeros (suc (suc (suc (suc j)))) = refl
