use Rattle.std.proofs.Common.{◌≡◌, ◌+◌, ◌-◌, ◌*◌, ◌/◌, ◌%◌, ◌<◌, length, get_or, ap, ◌∙◌, arith}
use Rattle.qc.specs.Circulant.{bit, number}
use Rattle.qc.proofs.Ones.{bit_number, ones_step}
use Rattle.qc.proofs.circulant.list_ones.Goals as goal

pub loop-e-preserved : goal.loop-e-preserved
loop-e-preserved c =
    let m = length c.args.places.now in
    let e = c.loop-e.e in
    let row = c.args.first_row.now in
    let bits = bit (number row 0 (length row)) in
    let word = get_or row ((m - 1 - e) / 32) 0 in
    let few = c.loop-e.invariant.1 in
    let room : c.loop-e.n < length c.loop-e.places = omega (arith, few, c.loop-e.auto.places, c.loop-e-test.true) in
    let at : 0 + (32 * length row - 1 - e) / 32 ≡ (m - 1 - e) / 32 = omega (arith, c.requires) in
    let here : bits e ≡ bit word (e % 32) = bit_number row 0 (length row) e (omega (arith, c.requires, c.loop-e-test.true)) ∙ ap (λ i. bit (get_or row i 0) (e % 32)) at in
    let small : bit word (e % 32) < 2 = omega arith in
    (ones_step bits e c.loop-e.n (bit word (e % 32)) c.loop-e.places room c.loop-e.invariant.0 here small, omega (arith, few, small))
