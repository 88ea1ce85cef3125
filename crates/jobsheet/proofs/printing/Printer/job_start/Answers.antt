use Rattle.std.proofs.Common.{ℕ, List, ◌++◌, codes, decimal, ap₂}
use Rattle.jobsheet.proofs.Fronts.{adds_more, adds_same}
use Rattle.jobsheet.proofs.printing.Printer.job_start.Goals as goal

pub returns : goal.returns
returns c =
    adds_same
    (adds_more c.decimal.ensures (adds_more c.text.ensures (adds_more c.decimal-2.ensures (adds_more c.text-2.ensures (adds_more c.text-3.ensures c.text-4.ensures)))))
    (ap₂ (λ (k : ℕ) (v : List ℕ). decimal c.args.line ++ (codes "," ++ (decimal k ++ (codes "," ++ (v ++ codes ","))))) c.from.ensures c.word.ensures)
