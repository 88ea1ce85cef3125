use Rattle.std.proofs.Common.{◌≡◌, ℕ, ◌+◌, ◌/◌, ◌^◌, ◌<◌, ◌≤◌, length, decimal, ap, ◌∙◌, arith, length-append, rules}
use Rattle.std.proofs.lemmas.Fmt.{decimal_digit, decimal_step}
use Rattle.jobsheet.proofs.Fronts.{adds_more, adds_same}
use Rattle.jobsheet.proofs.printing.Printer.+decimal.Goals as goal

one_digit : (n : ℕ) → n < 10 → length (decimal n) ≡ 1
one_digit n h = ap length (decimal_digit n h)

more_digits : (n : ℕ) → 10 ≤ n → n < 2 ^ 32 → length (decimal n) ≡ length (decimal (n / 10)) + 1
more_digits n h k = ap length (decimal_step n h (omega arith)) ∙ length-append (decimal (n / 10)) _

pub byte-requires : goal.byte-requires
byte-requires t c = omega (arith, c.requires, one_digit c.args.n c.if-n-lt10.true)

pub returns-then-n-lt10 : goal.returns-then-n-lt10
returns-then-n-lt10 t c =
    let d = decimal_digit c.args.n c.if-n-lt10.true in
    adds_same c.byte.ensures (search rules)

pub decimal-requires : goal.decimal-requires
decimal-requires t c = let l = more_digits c.args.n c.if-n-lt10.false (search rules) in (omega arith, omega (arith, c.requires))

pub byte-requires-2 : goal.byte-requires-2
byte-requires-2 t c =
    let l = more_digits c.args.n c.if-n-lt10.false (search rules) in
    omega (arith, c.requires, c.decimal.ensures.at, c.decimal.ensures.long)

pub returns : goal.returns
returns t c =
    let d = decimal_step c.args.n c.if-n-lt10.false (search rules) in
    adds_same (adds_more c.decimal.ensures c.byte-2.ensures) (search rules)
