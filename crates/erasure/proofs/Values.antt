-- The value of a form under an assignment keeps zero and sums.
use Rattle.std.proofs.Common.{◌≡◌, ℕ, zero, suc, ◌<◌, ◌≢◌, sym, refl, ap, ◌∙◌, ap₂, arith}
use Rattle.element.specs.declared.bits.Bit.{Bit}
use Rattle.element.specs.declared.bits.Bit.TheVariants.{Zero, One}
use Rattle.element.specs.declared.forms.Form.{Form}
use Rattle.element.specs.Bits.{bit_plus, bit_laws}
use Rattle.element.specs.Forms.{form_zero, form_plus}
use Rattle.qc.specs.Keeps.{Keeps}
use Rattle.qc.proofs.Sums.{right, swap}
use Rattle.erasure.specs.Unknowns.{member, both, dot, value}
use Rattle.erasure.proofs.Sets.{member_xor, member_zero}

pub apart : Zero ≢ One
apart e = cc

pub both_plus_left : (a b x : Bit) → both (bit_plus a b) x ≡ bit_plus (both a x) (both b x)
both_plus_left Zero Zero x = refl
both_plus_left Zero One x = sym (bit_laws.neutral x)
both_plus_left One Zero x = sym (right bit_laws x)
both_plus_left One One x = sym (bit_laws.cancels x)

pub both_plus_right : (a x y : Bit) → both a (bit_plus x y) ≡ bit_plus (both a x) (both a y)
both_plus_right Zero x y = refl
both_plus_right One x y = refl

pub dot_ext : (n : ℕ) (c d s t : ℕ → Bit) → ((k : ℕ) → k < n → both (c k) (s k) ≡ both (d k) (t k)) → dot n c s ≡ dot n d t
dot_ext zero c d s t h = refl
dot_ext (suc n) c d s t h = ap₂ bit_plus (dot_ext n c d s t (λ k l. h k (omega arith))) (h n (omega arith))

pub dot_plus_left : (n : ℕ) (c d s : ℕ → Bit) → dot n (λ k. bit_plus (c k) (d k)) s ≡ bit_plus (dot n c s) (dot n d s)
dot_plus_left zero c d s = refl
dot_plus_left (suc n) c d s = ap₂ bit_plus (dot_plus_left n c d s) (both_plus_left (c n) (d n) (s n)) ∙ swap bit_laws (dot n c s) (dot n d s) (both (c n) (s n)) (both (d n) (s n))

pub dot_plus_right : (n : ℕ) (c s t : ℕ → Bit) → dot n c (λ k. bit_plus (s k) (t k)) ≡ bit_plus (dot n c s) (dot n c t)
dot_plus_right zero c s t = refl
dot_plus_right (suc n) c s t = ap₂ bit_plus (dot_plus_right n c s t) (both_plus_right (c n) (s n) (t n)) ∙ swap bit_laws (dot n c s) (dot n c t) (both (c n) (s n)) (both (c n) (t n))

pub dot_none : (n : ℕ) (c s : ℕ → Bit) → ((k : ℕ) → k < n → both (c k) (s k) ≡ Zero) → dot n c s ≡ Zero
dot_none zero c s h = refl
dot_none (suc n) c s h = ap₂ bit_plus (dot_none n c s (λ k l. h k (omega arith))) (h n (omega arith))

pub value_plus : (u : ℕ) (s : ℕ → Bit) (f g : Form) → value u s (form_plus f g) ≡ bit_plus (value u s f) (value u s g)
value_plus u s f g =
    ap (bit_plus (bit_plus f.bit g.bit))
    (dot_ext u _ (λ k. bit_plus (member f.unknowns k) (member g.unknowns k)) s s (λ k h. ap (λ b. both b (s k)) (member_xor f.unknowns g.unknowns k))
    ∙ dot_plus_left u (member f.unknowns) (member g.unknowns) s)
    ∙ swap bit_laws f.bit g.bit (dot u (member f.unknowns) s) (dot u (member g.unknowns) s)

-- a form with no unknowns is its bit
pub dot_constant : (u : ℕ) (s : ℕ → Bit) → dot u (member 0) s ≡ Zero
dot_constant u s = dot_none u (member 0) s (λ k h. ap (λ b. both b (s k)) (member_zero k))

pub value_zero : (u : ℕ) (s : ℕ → Bit) → value u s form_zero ≡ Zero
value_zero u s = ap (bit_plus Zero) (dot_constant u s)

pub value_keeps : (u : ℕ) (s : ℕ → Bit) → Keeps form_zero form_plus Zero bit_plus (value u s)
value_keeps u s = record { keeps_zero = value_zero u s; keeps_sum = value_plus u s }

-- only the unknowns below u count
pub value_ext : (u : ℕ) (s t : ℕ → Bit) (f : Form) → ((k : ℕ) → k < u → s k ≡ t k) → value u s f ≡ value u t f
value_ext u s t f e = ap (bit_plus f.bit) (dot_ext u (member f.unknowns) (member f.unknowns) s t (λ k h. ap (both (member f.unknowns k)) (e k h)))
