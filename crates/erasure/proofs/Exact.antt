-- Each answer of a fill comes exactly when it is due.
use Rattle.std.proofs.Common.{◌≡◌, ℕ, ◌≢◌, ◌↔◌, List, sym, refl, ap, ◌∙◌, arith}
use Rattle.refusal.specs.Outcome.{Outcome.done, Outcome.refused}
use Rattle.element.specs.declared.forms.Form.{Form}
use Rattle.qc.specs.Shape.{Shape}
use Rattle.erasure.specs.Marks.{Mark}
use Rattle.erasure.specs.Fits.{NoneFits, OneFits, TwoFit}
use Rattle.erasure.specs.declared.faults.FillFault.TheVariants as fault
use Rattle.erasure.specs.Fill.{Answer, refusal, Fillable, Answers}

-- the number of an answer
told : Answer → ℕ
told (done x) = 0
told (refused f) = f.number

neither : {A B : Type 0} → (A → ⊥) → (B → ⊥) → A ↔ B
neither a b = ((λ x. absurd (a x)), (λ y. absurd (b y)))

-- an answer that was not given, and what it would say
apart : {B : Type 0} (o p : Answer) → told o ≢ told p → (B → ⊥) → (o ≡ p) ↔ B
unfolding told
apart o p ne b = neither (λ e. ne (ap told e)) b

apart_several : {B : Type 0} (o : Answer) → told o ≢ 12 → (B → ⊥) → ((n : ℕ) × (o ≡ refusal (fault.SeveralFit n))) ↔ B
unfolding told
apart_several o ne b = neither (λ e. ne (ap told e.1)) b

given : {B : Type 0} (o : Answer) → B → (o ≡ o) ↔ B
given o b = ((λ _. b), (λ _. refl))

-- one and several, none and one, none and several exclude each other
one_two : (c : Shape) (ms : List Mark) → OneFits c ms → TwoFit c ms → ⊥
one_two c ms (b, o) (x, (y, (f, (g, ne)))) = ne (o.only x f ∙ sym (o.only y g))

module _ {c : Shape} {ms : List Mark} {xs : List Form} {ws : List ℕ} where
  module _ (able : Fillable c ms xs ws) where
    pub none_answer : NoneFits c ms → Answers c ms xs ws (refusal fault.NoneFits)
    unfolding told
    none_answer no-fit =
        record {
          lengths = apart _ _ (λ e. omega arith) (λ d. d able.sized);
          short = apart _ _ (λ e. omega arith) (λ d. omega (arith, d.1, able.room));
          many = apart _ _ (λ e. omega arith) (λ d. omega (arith, d.1.1, able.few));
          none = given _ (able, no-fit);
          two = apart_several _ (λ e. omega arith) (λ d. no-fit d.1.0 d.1.1.1.0);
          one = apart _ _ (λ e. omega arith) (λ d. no-fit d.1.0 d.1.1.fits);
        }

    pub several_answer : (n : ℕ) → TwoFit c ms → Answers c ms xs ws (refusal (fault.SeveralFit n))
    unfolding told
    several_answer n both =
        record {
          lengths = apart _ _ (λ e. omega arith) (λ d. d able.sized);
          short = apart _ _ (λ e. omega arith) (λ d. omega (arith, d.1, able.room));
          many = apart _ _ (λ e. omega arith) (λ d. omega (arith, d.1.1, able.few));
          none = apart _ _ (λ e. omega arith) (λ d. d.1 both.0 both.1.1.0);
          two = ((λ _. (able, both)), (λ _. (n, refl)));
          one = apart _ _ (λ e. omega arith) (λ d. one_two c ms d.1 both);
        }

    pub one_answer : OneFits c ms → Answers c ms xs ws (done tt)
    unfolding told
    one_answer one-fit =
        record {
          lengths = apart _ _ (λ e. omega arith) (λ d. d able.sized);
          short = apart _ _ (λ e. omega arith) (λ d. omega (arith, d.1, able.room));
          many = apart _ _ (λ e. omega arith) (λ d. omega (arith, d.1.1, able.few));
          none = apart _ _ (λ e. omega arith) (λ d. d.1 one-fit.0 one-fit.1.fits);
          two = apart_several _ (λ e. omega arith) (λ d. one_two c ms one-fit d.1);
          one = given _ (able, one-fit);
        }
