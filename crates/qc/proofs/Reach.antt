-- Where a segment of a group lies in a list.
use Rattle.std.proofs.Common.{◌≡◌, ℕ, ◌+◌, ◌-◌, ◌*◌, ◌<◌, ◌≤◌, List, length, get_or, take, drop, ap, ◌∙◌, mul-le-mul_right, mul_comm, add-mul, arith}
use borrow.Rule.Slice.PartMut.{put_mid}
use Rattle.std.proofs.lemmas.Nat.{mul-le, mul-add-lt}
use Rattle.std.proofs.lemmas.List.{length-take-le, length-drop, get_or-take, get_or-drop, get_or_append_left, get_or-append-add}

pub record Inside (g q m len : ℕ) : Type 0 where
  pub part : (4 * g + q) * m + m ≤ len
  pub number : 4 * g + q ≤ len
  pub product : (4 * g + q) * m ≤ len

-- segment q of group g, in a list that holds the group
pub inside : (g q m len : ℕ) → q < 4 → 0 < m → (4 * g + 4) * m ≤ len → Inside g q m len
inside g q m len h pos fits =
    let most : 4 * g + q + 1 ≤ 4 * g + 4 = omega arith in
    let a = mul-le-mul_right m most in
    let b = add-mul (4 * g + q) 1 m in
    let one : 1 ≤ m = omega arith in
    let d = mul-le (4 * g + q) 1 (4 * g + q) m (omega arith) one in
    record { part = omega (arith, a, b, fits); number = omega (arith, a, b, d, fits); product = omega (arith, a, b, fits) }

-- the part of m elements from `from` on
pub length_part : {X : Type 0} (from m : ℕ) (xs : List X) → from + m ≤ length xs → length (take (from + m - from) (drop from xs)) ≡ m
length_part from m xs h =
    let wide : from + m - from ≡ m = omega arith in
    ap (λ k. length (take k (drop from xs))) wide ∙ length-take-le m (drop from xs) (omega (arith, length-drop from xs))

pub get_or_part : {X : Type 0} (from m : ℕ) (xs : List X) (i : ℕ) (d : X) → i < m → get_or (take (from + m - from) (drop from xs)) i d ≡ get_or xs (from + i) d
get_or_part from m xs i d h = get_or-take (from + m - from) (drop from xs) i d (omega arith) ∙ get_or-drop from xs i d

-- a list whose k places from `from` on were written over by ys
module _ {X : Type 0} (from k : ℕ) (xs ys : List X) (fits : from + k ≤ length xs) (long : length ys ≡ k) where
  pub mid_before : (p : ℕ) (d : X) → p < from → get_or (put_mid from k xs ys) p d ≡ get_or xs p d
  mid_before p d h =
      let e = length-take-le from xs (omega arith) in
      get_or_append_left (take from xs) _ d p (omega (arith, e)) ∙ get_or-take from xs p d h

  pub mid_made : (i : ℕ) (d : X) → i < k → get_or (put_mid from k xs ys) (from + i) d ≡ get_or ys i d
  mid_made i d h =
      let e = length-take-le from xs (omega arith) in
      let at : from + i ≡ length (take from xs) + i = omega (arith, e) in
      ap (λ p. get_or (put_mid from k xs ys) p d) at ∙ get_or-append-add (take from xs) _ i d ∙ get_or_append_left ys _ d i (omega arith)

  pub mid_after : (p : ℕ) (d : X) → from + k ≤ p → get_or (put_mid from k xs ys) p d ≡ get_or xs p d
  mid_after p d h =
      let e = length-take-le from xs (omega arith) in
      let n = p - (from + k) in
      let at : p ≡ length (take from xs) + (length ys + n) = omega (arith, e) in
      let on : from + (k + n) ≡ p = omega arith in
      ap (λ q. get_or (put_mid from k xs ys) q d) at ∙ get_or-append-add (take from xs) _ _ d ∙ get_or-append-add ys _ n d
      ∙ get_or-drop k (drop from xs) n d ∙ get_or-drop from xs (k + n) d ∙ ap (λ q. get_or xs q d) on

-- segment n of a list that holds `count` segments of m elements
pub record Held (n m len : ℕ) : Type 0 where
  pub part : n * m + m ≤ len
  pub number : n ≤ len
  pub place : n * m ≤ len

pub held : (n count m len : ℕ) → n < count → 0 < m → count * m ≤ len → Held n m len
held n count m len h pos fits =
    let most : n + 1 ≤ count = omega arith in
    let a = mul-le-mul_right m most in
    let b = add-mul n 1 m in
    let one : 1 ≤ m = omega arith in
    let d = mul-le n 1 n m (omega arith) one in
    record { part = omega (arith, a, b, fits); number = omega (arith, a, b, d, fits); place = omega (arith, a, b, fits) }

-- first row t * r + q of a table of s times t first rows
pub row_below : (t r q s : ℕ) → r < s → q < t → t * r + q < s * t
row_below t r q s hr hq = omega (arith, mul-add-lt r t q s hr hq, mul_comm t r, mul_comm t s)
