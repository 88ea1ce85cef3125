-- A job read value by value is what the order of the columns says.
use Rattle.std.proofs.Common.{◌≡◌, ℕ, List, [], ◌∷◌, length, Some, None, Ok, Err, Option, Result, sym, refl, ap, ◌∙◌, arith}
use Rattle.std.specs.Option.{ok_or}
use mathlib.Core.Path.{fun_ext}
use Rattle.ar4ja.specs.declared.codes.Code.{Code}
use Rattle.jobsheet.specs.declared.names.CoderName.{CoderName}
use Rattle.jobsheet.specs.declared.names.Order.{Order}
use Rattle.jobsheet.specs.declared.names.Order.TheVariants.{CodeCoderMessage, CodeMessageCoder, CoderCodeMessage, CoderMessageCode, MessageCodeCoder, MessageCoderCode}
use Rattle.jobsheet.specs.declared.faults.ValueFault.{ValueFault}
use Rattle.jobsheet.specs.declared.faults.LineFault.{LineFault}
use Rattle.jobsheet.specs.declared.faults.LineFault.TheVariants.{Count}
use Rattle.jobsheet.specs.declared.token.Words.{Words}
use Rattle.jobsheet.specs.Tokens.{Three}
use Rattle.jobsheet.specs.Values.{code_value, coder_value, message_value}
use Rattle.jobsheet.specs.Recognition.{first_name, second_name, third_name}
use Rattle.jobsheet.specs.Jobs.{Asked, column, job_of, line_job}
use Rattle.jobsheet.specs.JobSteps.{set_code, set_coder, set_message, with_code, with_coder, with_message, filled}

-- what follows a job, or the line's fault
then : Result Asked LineFault → (Asked → Result Asked LineFault) → Result Asked LineFault
then (Ok a) next = next a
then (Err f) next = Err f

-- a value put into a job, and then what follows
module _ (k : ℕ) (a : Asked) (next : Asked → Result Asked LineFault) where
  into_code : (r : Result Code ValueFault) → then (column k (with_code a r) (λ b. Ok b)) next ≡ column k r (λ c. next (set_code a c))
  unfolding then
  into_code (Ok c) = refl
  into_code (Err f) = refl

  into_coder : (r : Result CoderName ValueFault) → then (column k (with_coder a r) (λ b. Ok b)) next ≡ column k r (λ c. next (set_coder a c))
  unfolding then
  into_coder (Ok c) = refl
  into_coder (Err f) = refl

  into_message : (r : Result (List ℕ) ValueFault) → then (column k (with_message a r) (λ b. Ok b)) next ≡ column k r (λ m. next (set_message a m))
  unfolding then
  into_message (Ok m) = refl
  into_message (Err f) = refl

-- the three values put into a job, one after another
abbrev behind : Order → List ℕ → List ℕ → Asked → Result Asked LineFault
behind o y z b = then (filled 2 b (second_name o) y) (λ c. then (filled 3 c (third_name o) z) (λ d. Ok d))

chained : (o : Order) (x y z : List ℕ) (a : Asked) → then (filled 1 a (first_name o) x) (behind o y z) ≡ job_of o x y z
chained CodeCoderMessage x y z a =
    into_code 1 a _ (code_value x)
    ∙ ap (column 1 (code_value x)) (fun_ext (λ p. into_coder 2 (set_code a p) _ (coder_value y)
    ∙ ap (column 2 (coder_value y)) (fun_ext (λ q. into_message 3 (set_coder (set_code a p) q) (λ d. Ok d) (message_value z)))))
chained CodeMessageCoder x y z a =
    into_code 1 a _ (code_value x)
    ∙ ap (column 1 (code_value x)) (fun_ext (λ p. into_message 2 (set_code a p) _ (message_value y)
    ∙ ap (column 2 (message_value y)) (fun_ext (λ q. into_coder 3 (set_message (set_code a p) q) (λ d. Ok d) (coder_value z)))))
chained CoderCodeMessage x y z a =
    into_coder 1 a _ (coder_value x)
    ∙ ap (column 1 (coder_value x)) (fun_ext (λ p. into_code 2 (set_coder a p) _ (code_value y)
    ∙ ap (column 2 (code_value y)) (fun_ext (λ q. into_message 3 (set_code (set_coder a p) q) (λ d. Ok d) (message_value z)))))
chained CoderMessageCode x y z a =
    into_coder 1 a _ (coder_value x)
    ∙ ap (column 1 (coder_value x)) (fun_ext (λ p. into_message 2 (set_coder a p) _ (message_value y)
    ∙ ap (column 2 (message_value y)) (fun_ext (λ q. into_code 3 (set_message (set_coder a p) q) (λ d. Ok d) (code_value z)))))
chained MessageCodeCoder x y z a =
    into_message 1 a _ (message_value x)
    ∙ ap (column 1 (message_value x)) (fun_ext (λ p. into_code 2 (set_message a p) _ (code_value y)
    ∙ ap (column 2 (code_value y)) (fun_ext (λ q. into_coder 3 (set_code (set_message a p) q) (λ d. Ok d) (coder_value z)))))
chained MessageCoderCode x y z a =
    into_message 1 a _ (message_value x)
    ∙ ap (column 1 (message_value x)) (fun_ext (λ p. into_coder 2 (set_message a p) _ (coder_value y)
    ∙ ap (column 2 (coder_value y)) (fun_ext (λ q. into_code 3 (set_coder (set_message a p) q) (λ d. Ok d) (code_value z)))))

settled : (r : Result Asked LineFault) → r ≡ then r (λ d. Ok d)
unfolding then
settled (Ok a) = refl
settled (Err f) = refl

module _ (o : Order) (x y z : List ℕ) (a : Asked) where
  pub first_fault : (f : LineFault) → Err f ≡ filled 1 a (first_name o) x → Err f ≡ job_of o x y z
  unfolding then
  first_fault f e = ap (λ r. then r (behind o y z)) e ∙ chained o x y z a

  module _ (b : Asked) (first : Ok b ≡ filled 1 a (first_name o) x) where
    pub second_fault : (f : LineFault) → Err f ≡ filled 2 b (second_name o) y → Err f ≡ job_of o x y z
    unfolding then
    second_fault f e =
        ap (λ r. then r (λ c. then (filled 3 c (third_name o) z) (λ d. Ok d))) e
        ∙ ap (λ r. then r (behind o y z)) first ∙ chained o x y z a

    pub last : (c : Asked) → Ok c ≡ filled 2 b (second_name o) y → (r : Result Asked LineFault) → r ≡ filled 3 c (third_name o) z → r ≡ job_of o x y z
    unfolding then
    last c second r e =
        e ∙ settled (filled 3 c (third_name o) z)
        ∙ ap (λ r. then r (λ c. then (filled 3 c (third_name o) z) (λ d. Ok d))) second
        ∙ ap (λ r. then r (behind o y z)) first ∙ chained o x y z a

-- a line with another number of words
not_three : (o : Order) (ws : List (List ℕ)) → (length ws ≡ 3 → ⊥) → Err Count ≡ line_job o ws
unfolding line_job
not_three o [] none_is = refl
not_three o (x ∷ []) none_is = refl
not_three o (x ∷ y ∷ []) none_is = refl
not_three o (x ∷ y ∷ z ∷ []) none_is = absurd (none_is refl)
not_three o (x ∷ y ∷ z ∷ w ∷ ws) none_is = refl

-- as the words are told
pub not_counted : (o : Order) (ws : List (List ℕ)) (w : Option Words) (f : LineFault) → Three w ws → ◌≡◌ {A = Result Words LineFault} (Err f) (ok_or w Count) → Err f ≡ line_job o ws
not_counted o ws None f none_is e = let same : f ≡ Count = cc in ap (λ g. Err g) same ∙ not_three o ws none_is
not_counted o ws (Some x) f is e = let z : ◌≡◌ {A = ℕ} 0 1 = cc in absurd (omega arith)

pub three : (o : Order) (ws : List (List ℕ)) (x y z : List ℕ) → ws ≡ x ∷ y ∷ z ∷ [] → job_of o x y z ≡ line_job o ws
unfolding line_job
three o ws x y z e = ap (line_job o) (sym e)
