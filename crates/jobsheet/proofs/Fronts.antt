-- Texts printed one after another.
use Rattle.std.proofs.Common.{◌≡◌, ℕ, ◌+◌, ◌^◌, ◌<◌, ◌≤◌, List, ◌++◌, length, drop, decimal, refl, ap, ◌∙◌, ap₂, subst, zero-add, arith, length-append, rules}
use Rattle.std.proofs.lemmas.List.{same_lists, places}
use Rattle.std.proofs.lemmas.Fmt.{decimal_digit, length-decimal-le}
use Rattle.ar4ja.specs.declared.codes.Code.{Code}
use Rattle.ar4ja.specs.declared.codes.Code.TheVariants.{Half1024, TwoThirds1024, FourFifths1024}
use Rattle.ar4ja.specs.Codes.{number_of}
use Rattle.jobsheet.specs.declared.names.CoderName.{CoderName}
use Rattle.jobsheet.specs.declared.names.CoderName.TheVariants.{Table, Check}
use Rattle.jobsheet.specs.Values.{coder_word}
use Rattle.jobsheet.specs.Printing.{front, job_start}
use Rattle.jobsheet.specs.declared.printing.Printer.{Printer}
use Rattle.jobsheet.specs.Printers.{printed, Adds}

-- one text after another
pub printed_more : (old : List ℕ) (at : ℕ) (a b : List ℕ) (next : ℕ) → next ≡ at + length a → at + length a + length b ≤ length old → printed (printed old at a) next b ≡ printed old at (a ++ b)
printed_more old at a b next e h = same_lists _ _ (search (rules, places)) (λ k d l. grind (arith, places))

-- one text after another, as a printer prints them
pub adds_more : {p q r : Printer} {a b : List ℕ} → Adds p q a → Adds q r b → Adds p r (a ++ b)
adds_more {p} {q} {r} {a} {b} f g =
    let l = length-append a b in
    let long = f.long in
    record {
      buffer = g.buffer ∙ f.buffer;
      at = omega (arith, f.at, g.at);
      out = g.out ∙ ap (λ o. printed o q.at b) f.out ∙ printed_more p.out.now p.at a b q.at f.at (omega (arith, f.at, g.room));
      long = g.long ∙ f.long;
      room = omega (arith, f.at, g.room);
    }

pub adds_same : {p q : Printer} {a b : List ℕ} → Adds p q a → a ≡ b → Adds p q b
adds_same {p} {q} f e = subst (Adds p q) e f

-- what a printer printed at the front of a buffer
pub printed_front : (old text : List ℕ) → printed old 0 text ≡ front text old
printed_front old text = ap (λ n. text ++ drop n old) (zero-add (length text))

pub adds_front : {p q : Printer} {a : List ℕ} (old : List ℕ) → Adds p q a → p.out.now ≡ old → p.at ≡ 0 → q.out.now ≡ front a old
adds_front {p} {q} {a} old f e z = f.out ∙ ap₂ (λ o k. printed o k a) e z ∙ printed_front old a

-- how long a number is in decimal
pub ten : (n : ℕ) → n < 2 ^ 32 → length (decimal n) ≤ 10
ten n h = length-decimal-le 10 n (omega arith) (omega arith) (omega arith)

pub five : (n : ℕ) → n < 10 ^ 5 → length (decimal n) ≤ 5
five n h = length-decimal-le 5 n (omega arith) h (omega arith)

pub one : (code : Code) → length (decimal (number_of code)) ≡ 1
one Half1024 = ap length (decimal_digit 1 (omega arith))
one TwoThirds1024 = ap length (decimal_digit 2 (omega arith))
one FourFifths1024 = ap length (decimal_digit 3 (omega arith))

pub word_five : (coder : CoderName) → length (coder_word coder) ≡ 5
word_five Table = refl
word_five Check = refl

-- a good line up to its parity
pub start_short : (line : ℕ) (code : Code) (coder : CoderName) → line < 10 ^ 5 → length (job_start line code coder) ≤ 14
start_short line code coder h =
    simp length-append (omega (arith, five line h, one code, word_five coder))
