use Rattle.std.proofs.Common.{◌+◌, ◌≤◌, List, length, get_or, drop, ap, ◌∙◌, arith, length-drop}
use Rattle.element.specs.declared.bits.Bit.{Bit}
use Rattle.element.specs.declared.bits.Bit.TheVariants.{Zero}
use Rattle.element.specs.Bits.{bit_plus}
use Rattle.qc.specs.Shape.{whole}
use Rattle.qc.specs.Coding.{encoded}
use Rattle.ar4ja.specs.Codes.{shape_of, tables_of}
use Rattle.jobsheet.proofs.Coded.{parity_there}
use Rattle.jobsheet.proofs.coding.code_message.Goals as goal

pub returns : goal.returns
returns c = λ i h.
    let rest = drop 1024 c.args.run.now in
    let fits : whole (shape_of c.args.job.code) ≤ 1024 + length rest = omega (arith, length-drop 1024 c.args.run.now, c.requires) in
    ap (λ (l : List Bit). get_or l (1024 + i) Zero)
    (c.encode.ensures ∙ ap (encoded Zero bit_plus (shape_of c.args.job.code) (tables_of c.args.job.code)) c.spread.ensures)
    ∙ parity_there c.args.job.code c.args.job.message.digits.now rest fits i h
