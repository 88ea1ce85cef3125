use Rattle.std.proofs.Common.{◌≡◌, ℕ, ◌+◌, ◌%◌, length, get_or, ap, ◌∙◌, arith}
use Rattle.qc.specs.Segments.{total}
use Rattle.qc.specs.Circulant.{sum, times, bit, number}
use Rattle.qc.proofs.Sums.{sum_ext}
use Rattle.qc.proofs.Ones.{ones_most, ones_total}
use Rattle.qc.proofs.circulant.add_circulant.Goals as goal

pub add_shifted-requires-clause-there : goal.add_shifted-requires-clause-there
add_shifted-requires-clause-there g c = λ k h.
    let room = c.args.scratch.now in
    let row = c.args.first_row.now in
    let listed = c.list_ones-n.ensures.listed in
    let low = ones_most (bit (number row 0 (length row))) (length room.places.now) k (omega (arith, h, ap length listed)) in
    omega (arith, low, ap (λ l. get_or l k 0) listed, c.write_twice.auto.wide, room.twice, room.listed)

pub returns-clause-added : goal.returns-clause-added
returns-clause-added g c = λ s h.
    let e = g.E.Element in
    let segment = c.args.segment.now in
    let m = length segment in
    let row = c.args.first_row.now in
    let bits = bit (number row 0 (length row)) in
    let read : ℕ → g.row.E.Denot = λ k. get_or c.write_twice.new.wide (k + s) e.zero in
    let all : length c.args.scratch.now.places.now ≡ m = c.args.scratch.now.listed ∙ c.requires.0 in
    c.add_shifted.ensures s h
    ∙ ap (e.plus (get_or c.args.scratch.now.sums.now s e.zero))
    (ap (total e.zero e.plus read) c.list_ones-n.ensures.listed
    ∙ ones_total e.laws read bits (length c.args.scratch.now.places.now)
    ∙ ap (λ n. sum e.zero e.plus n (λ i. times e.zero (bits i) (read (i + 1)))) all
    ∙ sum_ext e.laws m _ _ (λ i l.
    ap (times e.zero (bits i))
    (c.write_twice.ensures (i + 1 + s) (omega (arith, c.requires.0, l, h))
    ∙ (let on : i + 1 + s ≡ s + (1 + i) = omega arith in ap (λ p. get_or segment (p % m) e.zero) on))))
