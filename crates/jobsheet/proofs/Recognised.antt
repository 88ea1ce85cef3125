-- Words and lines that are told by the text that they are.
use Rattle.std.proofs.Common.{◌≡◌, ℕ, false, cond, List, Some, None, Ok, Option, Result, sym, refl, ap, ◌∙◌, inl, inr}
use Rattle.std.specs.Option.{ok_or}
use Rattle.std.specs.Str.{bytes_eq}
use Rattle.std.proofs.lemmas.Slice.Eq.{bytes_eq-Decides}
use Rattle.std.proofs.lemmas.Bool.{cases_Bool, cond-false}
use Rattle.jobsheet.specs.declared.faults.ValueFault.{ValueFault}
use Rattle.jobsheet.specs.declared.faults.ValueFault.TheVariants.{Unreadable}
use Rattle.jobsheet.specs.declared.names.CoderName.{CoderName}
use Rattle.jobsheet.specs.declared.names.CoderName.TheVariants.{Table, Check}
use Rattle.jobsheet.specs.Values.{coder_word, coder_value}
use Rattle.jobsheet.specs.Recognition.{CoderNamed}

-- a text that is another is told as such, and else not
pub different : (w p : List ℕ) → (w ≡ p → ⊥) → bytes_eq w p ≡ false
different w p apart = elim (cases_Bool (bytes_eq w p)) [
  | inl t ↦ absurd (apart ((bytes_eq-Decides w p).0 t))
  | inr f ↦ f
]

-- the first of two choices is not taken
pub not_this : {X : Type 0} (w p : List ℕ) (x y z : X) → (w ≡ p → ⊥) → y ≡ z → cond (bytes_eq w p) x y ≡ z
not_this w p x y z apart e = cond-false (bytes_eq w p) x y (different w p apart) ∙ e

known_coder : (c : CoderName) → ◌≡◌ {A = Result CoderName ValueFault} (Ok c) (coder_value (coder_word c))
known_coder Table = refl
known_coder Check = refl

pub coder_told : (w : List ℕ) (o : Option CoderName) → CoderNamed w o → ok_or o Unreadable ≡ coder_value w
coder_told w (Some c) e = known_coder c ∙ ap coder_value (sym e)
coder_told w None apart = sym (not_this w (coder_word Table) _ _ _ (apart Table) (not_this w (coder_word Check) _ _ _ (apart Check) refl))
