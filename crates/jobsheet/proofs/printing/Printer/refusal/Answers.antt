use Rattle.std.proofs.Common.{ℕ, ◌++◌, codes, decimal, ap, ◌∙◌, ap₂}
use Rattle.jobsheet.specs.Refusals.{fault_line, fault_column}
use Rattle.jobsheet.proofs.Fronts.{adds_more, adds_same}
use Rattle.jobsheet.proofs.printing.Printer.refusal.Goals as goal

pub returns : goal.returns
returns c =
    adds_same
    (adds_more (adds_more c.decimal.ensures (adds_more c.text.ensures (adds_more c.decimal-2.ensures (adds_more c.text-2.ensures c.decimal-3.ensures)))) c.text-3.ensures)
    (ap₂ (λ (l k : ℕ). (decimal l ++ (codes ",refused," ++ (decimal k ++ (codes "," ++ decimal c.number.result)))) ++ codes "\n") c.line.ensures c.column.ensures
    ∙ ap (λ (n : ℕ). (decimal (fault_line c.args.fault) ++ (codes ",refused," ++ (decimal (fault_column c.args.fault) ++ (codes "," ++ decimal n)))) ++ codes "\n") c.number.ensures)
