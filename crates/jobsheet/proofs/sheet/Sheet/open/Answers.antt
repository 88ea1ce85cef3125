use Rattle.std.proofs.Common.{◌≡◌, List, ℕ, length, Err, ap, ◌∙◌, rules}
use Rattle.jobsheet.specs.Printing.{front}
use Rattle.jobsheet.specs.Sheets.{open_printed}
use Rattle.jobsheet.proofs.Fronts.{adds_more, adds_front}
use Rattle.jobsheet.proofs.Answering.{open_printed_is}
use Rattle.jobsheet.proofs.sheet.Sheet.open.Goals as goal

pub returns-in-Err-clause-out : goal.returns-in-Err-clause-out
returns-in-Err-clause-out c =
    let old = c.args.out.now in
    let e : c.refusal.new.self.out.now ≡ front (open_printed (length old) c.args.text.now) old
    = adds_front old (adds_more c.text.ensures c.refusal.ensures) (ap (λ b. b.now) c.new-printer.ensures.0) c.new-printer.ensures.1
    ∙ ap (λ (t : List ℕ). front t old) (open_printed_is (length old) c.args.text.now c.if-out-lt-ROOM.false (Err c.in-Err.fault) c.in-Err.ensures) in
    search rules
