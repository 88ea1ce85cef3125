use Rattle.std.proofs.Common.{ℕ, ◌*◌, [], ◌∷◌, ◌++◌, map, length, get_or, drop, sym, ap, ◌∙◌, arith, length-append}
use Rattle.std.specs.List.{range_with_len}
use Rattle.std.proofs.lemmas.List.FromFn.{map-range_with_len_more, length-map-range_with_len}
use Rattle.element.specs.declared.bits.Bit.TheVariants.{Zero}
use Rattle.jobsheet.specs.Parity.{digit_at}
use Rattle.jobsheet.proofs.Chunks.{four_fits, rest_behind, digit_of_four}
use Rattle.jobsheet.proofs.Fronts.{adds_more, adds_same}
use Rattle.jobsheet.proofs.printing.Printer.hex.Goals as goal

pub byte-requires : goal.byte-requires
byte-requires c =
    let k = length c.loop-four.yielded in
    let s = c.loop-four.invariant in
    let step = c.in-Some.ensures.steps in
    let fits = four_fits c.args.bits.now c.in-Some.four.now _ k (sym s.2 ∙ step.1.0) (step.1.1 ∙ s.1) in
    omega (arith, c.requires, s.0.at, s.0.long, length-map-range_with_len (digit_at (λ i. get_or c.args.bits.now i Zero)) 0 k)

pub loop-four-preserved : goal.loop-four-preserved
loop-four-preserved c =
    let bits = c.args.bits.now in
    let f : ℕ → ℕ = digit_at (λ i. get_or bits i Zero) in
    let k = length c.loop-four.yielded in
    let s = c.loop-four.invariant in
    let step = c.in-Some.ensures.steps in
    let e = sym s.2 ∙ step.1.0 in
    let long = step.1.1 ∙ s.1 in
    let count = length-append c.loop-four.yielded (c.in-Some.four ∷ []) in (
      adds_same (adds_more s.0 c.byte.ensures)
          (ap (λ (n : ℕ). map f (range_with_len 0 k) ++ (n ∷ [])) (c.digit_of.ensures ∙ digit_of_four bits c.in-Some.four.now _ k e long)
          ∙ sym (map-range_with_len_more f 0 k k (omega arith)) ∙ ap (λ (n : ℕ). map f (range_with_len 0 n)) (sym count)),
      step.0 ∙ s.1,
      rest_behind bits c.in-Some.four.now _ k e long ∙ ap (λ (n : ℕ). drop (4 * n) bits) (sym count),
    )
