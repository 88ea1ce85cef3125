use Rattle.std.proofs.Common.{◌≡◌, ℕ, List, length, Err, ap, ◌∙◌, arith, rules}
use Rattle.jobsheet.specs.Refusals.{told}
use Rattle.jobsheet.specs.Printing.{front}
use Rattle.jobsheet.specs.Printout.{refusal_of}
use Rattle.jobsheet.specs.Sheets.{standing, job_printed}
use Rattle.jobsheet.proofs.Fronts.{adds_front}
use Rattle.jobsheet.proofs.Stepping.{none_left}
use Rattle.jobsheet.proofs.Answering.{left_there, worked_text, over_answer, over_text, over_standing}
use Rattle.jobsheet.proofs.sheet.Sheet.job_line.Goals as goal

pub returns-then-self : goal.returns-then-self
returns-then-self c =
    let sheet = c.args.self.now in
    let old = c.args.out.now in
    let none = none_left sheet.text.now sheet.at (omega (arith, c.if-self.true)) in
    let text = over_text (length old) (standing sheet) c.if-out-lt-ROOM.false none in
    record {
      count = c.nothing-then-self.ensures.0 ∙ ap length text;
      fault = ap told c.nothing-then-self.ensures.1 ∙ ap refusal_of (over_answer (length old) (standing sheet) c.if-out-lt-ROOM.false none);
      out = ap (λ (t : List ℕ). front t old) text;
      sheet = over_standing (length old) (standing sheet) c.if-out-lt-ROOM.false none;
    }

pub returns-in-Err-clause-count : goal.returns-in-Err-clause-count
returns-in-Err-clause-count c =
    let sheet = c.args.self.now in
    let some = left_there sheet.text.now sheet.at (omega (arith, sheet.inside, c.if-self.false)) in
    omega (arith, c.refusal.ensures.at, c.new-printer.ensures.1, ap length (worked_text (length c.args.out.now) (standing sheet) c.if-out-lt-ROOM.false (Err c.in-Err.fault) c.in-Err.ensures.answer some))

pub returns-in-Err-clause-out : goal.returns-in-Err-clause-out
returns-in-Err-clause-out c =
    let sheet = c.args.self.now in
    let old = c.args.out.now in
    let some = left_there sheet.text.now sheet.at (omega (arith, sheet.inside, c.if-self.false)) in
    let e : c.refusal.new.self.out.now ≡ front (job_printed (length old) (standing sheet)) old
    = adds_front old c.refusal.ensures (ap (λ b. b.now) c.new-printer.ensures.0) c.new-printer.ensures.1
    ∙ ap (λ (t : List ℕ). front t old) (worked_text (length old) (standing sheet) c.if-out-lt-ROOM.false (Err c.in-Err.fault) c.in-Err.ensures.answer some) in
    search rules
