use Rattle.std.proofs.Common.{◌≡◌, ℕ, ◌+◌, ◌-◌, ◌*◌, ◌/◌, ◌%◌, ◌<◌, ◌≤◌, length, get_or, take, drop, sym, ap, ◌∙◌, ap₂, add-one, arith, rules}
use Rattle.qc.specs.Segments.{segments}
use Rattle.qc.specs.Circulant.{sum, act, number}
use Rattle.qc.specs.Coding.{first_row}
use Rattle.qc.proofs.Ones.{number_part}
use Rattle.qc.proofs.Reach.{Held, held, row_below, length_part, get_or_part}
use Rattle.qc.proofs.FirstRows.{act_same}
use Rattle.qc.proofs.circulant.Product.sum_target.Goals as goal

-- where the first row lies
row_held : (m targets r q sources len : ℕ) → r < sources → q < targets → 0 < m → m % 32 ≡ 0 → sources * targets * (m / 32) ≤ len → Held (targets * r + q) (m / 32) len
row_held m targets r q sources len lt below some words fits = held (targets * r + q) (sources * targets) (m / 32) len (row_below targets r q sources lt below) (omega (arith, some, words)) fits

pub overflow_mul-start-in-loop-r : goal.overflow_mul-start-in-loop-r
overflow_mul-start-in-loop-r g c =
    let h = (row_held _ _ _ _ _ _ c.loop-r-test.true c.requires.target c.args.scratch.now.some c.args.scratch.now.words c.requires.table).place in
    search rules

pub offset_bounds-self-start : goal.offset_bounds-self-start
offset_bounds-self-start g c =
    let h = (row_held _ _ _ _ _ _ c.loop-r-test.true c.requires.target c.args.scratch.now.some c.args.scratch.now.words c.requires.table).place in
    search rules

pub slice_bounds-first_row-end : goal.slice_bounds-first_row-end
slice_bounds-first_row-end g c =
    (row_held _ _ _ _ _ _ c.loop-r-test.true c.requires.target c.args.scratch.now.some c.args.scratch.now.words c.requires.table).part

pub loop-r-preserved : goal.loop-r-preserved
loop-r-preserved g c = (
  c.add_circulant.ensures.kept ∙ c.loop-r.invariant.0,
  λ s h.
      let e = g.E.Element in
      let p = c.args.self in
      let r = c.loop-r.r in
      let m = length c.args.scratch.now.sums.now in
      let k = m / 32 in
      let run = c.args.run.now in
      let words = c.args.self.words.now in
      let from = (p.source + r) * m in
      let start = (p.targets * r + c.args.q) * k in
      let part = take (from + m - from) (drop from run) in
      let row = take (start + k - start) (drop start words) in
      let long = length_part from m run (held (p.source + r) (p.source + p.sources) m (length run) (omega (arith, c.loop-r-test.true)) c.args.scratch.now.some c.requires.there).part in
      let row_long = length_part start k words (row_held _ _ _ _ _ _ c.loop-r-test.true c.requires.target c.args.scratch.now.some c.args.scratch.now.words c.requires.table).part in
      c.add_circulant.ensures.added s (omega (arith, c.loop-r.invariant.0, h))
      ∙ ap₂ e.plus (c.loop-r.invariant.1 s h)
      (ap₂ (λ n q. act e.zero e.plus n q (λ i. get_or part i e.zero) s) long (ap (number row 0) row_long ∙ number_part words start k k (omega arith))
      ∙ act_same e.laws m (number words start k) (λ i. get_or part i e.zero) (segments e.zero m run (p.source + r)) s (λ i l. get_or_part from m run i e.zero l))
      ∙ sym (ap (λ n. sum e.zero e.plus n (λ r. act e.zero e.plus m (first_row m words (p.targets * r + c.args.q)) (segments e.zero m run (p.source + r)) s)) (add-one r)),
)
