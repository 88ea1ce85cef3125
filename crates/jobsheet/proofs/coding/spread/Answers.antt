use Rattle.std.proofs.Common.{◌≡◌, ℕ, ◌/◌, List, [], ◌++◌, append-nil, map, take, drop, set, ap, ◌∙◌, arith}
use Rattle.std.specs.List.{range_with_len}
use Rattle.std.proofs.lemmas.List.{length-take-le, drop_all}
use Rattle.element.specs.declared.bits.Bit.{Bit}
use Rattle.element.specs.declared.bits.Bit.TheVariants.{Zero}
use Rattle.jobsheet.specs.Values.{message_bit}
use Rattle.jobsheet.proofs.Digits.{hex_at}
use Rattle.jobsheet.proofs.Filling.{filled_more}
use Rattle.jobsheet.proofs.coding.spread.Goals as goal

pub bounds-digits-i : goal.bounds-digits-i
bounds-digits-i c = omega (arith, c.args.message.long, length-take-le 1024 c.args.run.now c.requires)

pub bit_of-requires : goal.bit_of-requires
bit_of-requires c = (hex_at c.args.message.digits.now (c.loop-i.i / 4) c.args.message.hex (omega (arith, c.args.message.long, length-take-le 1024 c.args.run.now c.requires)), omega arith)

pub loop-i-preserved : goal.loop-i-preserved
unfolding message_bit
loop-i-preserved c =
    ap (λ (z : List Bit). set z c.loop-i.i c.bit_of.result) c.loop-i.invariant
    ∙ filled_more (message_bit c.args.message.digits.now) (take 1024 c.args.run.now) Zero c.loop-i.i c.bit_of.result (omega arith) c.bit_of.ensures

pub returns : goal.returns
returns c =
    let message = take 1024 c.args.run.now in
    let all : c.loop-i.i ≡ 1024 = omega (arith, length-take-le 1024 c.args.run.now c.requires) in
    let none : drop 1024 message ≡ [] = drop_all 1024 message (omega (arith, length-take-le 1024 c.args.run.now c.requires)) in
    ap (λ (z : List Bit). z ++ drop 1024 c.args.run.now)
    (c.loop-i.invariant ∙ ap (λ (i : ℕ). map (message_bit c.args.message.digits.now) (range_with_len 0 i) ++ drop i message) all
    ∙ ap (λ (z : List Bit). map (message_bit c.args.message.digits.now) (range_with_len 0 1024) ++ z) none ∙ append-nil (map (message_bit c.args.message.digits.now) (range_with_len 0 1024)))
