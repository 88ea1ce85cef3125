use Rattle.std.proofs.Common.{◌≡◌, ℕ, ◌<◌, List, length, get_or, take, ap, ◌∙◌, arith}
use Rattle.std.proofs.lemmas.List.{length-take, take_min}
use Rattle.element.specs.declared.bits.Bit.{Bit}
use Rattle.element.specs.declared.bits.Bit.TheVariants.{Zero}
use Rattle.element.specs.Bits.{number_of}
use Rattle.element.proofs.Sizes.{number_fits}
use Rattle.element.proofs.numbers.number_of.Goals as goal

pub overflow_mul-number : goal.overflow_mul-number
overflow_mul-number c =
    let i : c.loop-bit.bit-index < 32 = omega (arith, c.loop-bit-test.true, length-take c.min.result c.args.bits.now, c.min.ensures) in
    omega (arith, c.loop-bit.invariant, number_fits (λ j. get_or c.args.bits.now j Zero) c.loop-bit.bit-index i)

pub overflow_add-number : goal.overflow_add-number
overflow_add-number c =
    let i : c.loop-bit.bit-index < 32 = omega (arith, c.loop-bit-test.true, length-take c.min.result c.args.bits.now, c.min.ensures) in
    omega (arith, c.loop-bit.invariant, number_fits (λ j. get_or c.args.bits.now j Zero) c.loop-bit.bit-index i, c.from.ensures.1)

pub returns : goal.returns
returns c =
    let bits = c.args.bits.now in
    let all : c.loop-bit.bit-index ≡ length (take c.min.result bits) = omega (arith, c.loop-bit-test.false, c.loop-bit.auto.bit-index-end) in
    let first = ap (λ (n : ℕ). take n bits) c.min.ensures ∙ take_min 32 bits in
    c.loop-bit.invariant ∙ ap (number_of (λ i. get_or bits i Zero)) (all ∙ ap (λ (z : List Bit). length z) first)
