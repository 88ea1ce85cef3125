use Rattle.std.proofs.Common.{◌≡◌, ℕ, ◌-◌, ◌/◌, List, ◌++◌, length, get_or, take, drop, codes, ap, arith, length-drop}
use Rattle.std.proofs.lemmas.List.{length-take-le}
use Rattle.std.proofs.lemmas.List.FromFn.{length-map-range_with_len}
use Rattle.element.specs.declared.bits.Bit.{Bit}
use Rattle.element.specs.declared.bits.Bit.TheVariants.{Zero}
use Rattle.qc.specs.Shape.{sent}
use Rattle.ar4ja.specs.declared.codes.Code.{Code}
use Rattle.ar4ja.specs.Codes.{shape_of}
use Rattle.jobsheet.specs.Parity.{digit_at, digits}
use Rattle.jobsheet.specs.Printing.{job_start}
use Rattle.jobsheet.proofs.Coded.{sizes, hex_there}
use Rattle.jobsheet.proofs.Fronts.{adds_more, adds_same, start_short}
use Rattle.jobsheet.proofs.printing.Printer.job.Goals as goal

-- the parity's bits, and their digits
bits_long : (code : Code) (ys : List Bit) (n : ℕ) → length ys ≡ 2560 → n ≡ sent (shape_of code) → length (take (n - 1024) (drop 1024 ys)) / 4 ≡ digits code
bits_long code ys n h e =
    let z = sizes code in
    omega (arith, e, z.sent, z.whole_digits, length-take-le (n - 1024) (drop 1024 ys) (omega (arith, e, z.sent, z.whole_digits, z.few_digits, length-drop 1024 ys)))

pub hex-requires : goal.hex-requires
hex-requires c =
    omega (
      arith,
      start_short c.args.line c.args.job.code c.args.job.coder c.requires.line,
      (sizes c.args.job.code).few_digits,
      bits_long c.args.job.code c.code_message.new.run c.block_len.result c.code_message.auto.run c.block_len.ensures,
    )

pub text-requires : goal.text-requires
text-requires c =
    let part = take (c.block_len.result - 1024) (drop 1024 c.code_message.new.run) in
    omega (
      arith,
      start_short c.args.line c.args.job.code c.args.job.coder c.requires.line,
      (sizes c.args.job.code).few_digits,
      bits_long c.args.job.code c.code_message.new.run c.block_len.result c.code_message.auto.run c.block_len.ensures,
      length-map-range_with_len (digit_at (λ i. get_or part i Zero)) 0 (length part / 4),
    )

pub returns : goal.returns
returns c =
    let code = c.args.job.code in
    adds_same (adds_more (adds_more c.job_start.ensures c.hex.ensures) c.text.ensures)
    (ap (λ (h : List ℕ). (job_start c.args.line code c.args.job.coder ++ h) ++ codes "\n")
    (hex_there code c.args.job.message.digits.now c.code_message.new.run c.code_message.ensures _ _ (omega (arith, c.block_len.ensures, (sizes code).sent))
    (bits_long code c.code_message.new.run c.block_len.result c.code_message.auto.run c.block_len.ensures)))
