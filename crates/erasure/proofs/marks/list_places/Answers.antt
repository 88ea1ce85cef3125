use Rattle.std.proofs.Common.{◌≡◌, ℕ, ◌<◌, length, sym, ap, ◌∙◌, subst, arith}
use Rattle.std.specs.Option.{is_some}
use Rattle.std.proofs.lemmas.Bool.{false≢true}
use Rattle.element.specs.declared.bits.Bit.TheVariants.{Zero, One}
use Rattle.erasure.specs.Unknowns.{member}
use Rattle.erasure.specs.Marks.{Marked}
use Rattle.erasure.proofs.Values.{apart}
use Rattle.erasure.proofs.Ranks.{erased, mark_read, count_few, count_erased, count_known, places_same, places_more}
use Rattle.erasure.proofs.marks.list_places.Goals as goal
use Rattle.erasure.proofs.marks.list_places.Goals.{Then-holds, then-is_none, then-holds, else-holds, else-is_none}

pub holds-requires : goal.holds-requires
holds-requires c = count_few c.args.marks.now c.loop-i.invariant.0 (omega arith) c.if-is_none.ensures c.requires.few

room : (c : Then-holds) → c.loop-i.n < 64
room c = omega (arith, count_few c.args.marks.now c.loop-i.invariant.0 (omega arith) c.if-is_none.ensures c.requires.few, c.loop-i.invariant.1)

pub offset_bounds-places-n : goal.offset_bounds-places-n
offset_bounds-places-n c = omega (arith, room c)

pub bounds-places-n : goal.bounds-places-n
bounds-places-n c = omega (arith, room c, c.requires.room, c.loop-i.auto.places)

pub overflow_add-n : goal.overflow_add-n
overflow_add-n c = omega (arith, room c)

pub overflow_add-k : goal.overflow_add-k
overflow_add-k c = omega (arith, count_few c.args.marks.now c.loop-i.invariant.0 (omega arith) c.if-is_none.ensures c.requires.few)

pub loop-i-preserved : goal.loop-i-preserved
loop-i-preserved c =
    let ms = c.args.marks.now in
    let i = c.loop-i.i in
    let k = c.loop-i.k in
    let n = c.loop-i.n in
    let low : i < length ms = omega arith in
    let read = mark_read ms i low in
    let k_is = c.loop-i.invariant.0 in
    let so = c.loop-i.invariant.2 in
    let P : ℕ → Type 0 = Marked ms c.args.open in
    elim c.if-is_none.branch [
      | then-is_none w ↦
          let step = count_erased ms i k k_is _ read w.if-is_none.ensures in
          let fits : n < length c.loop-i.places = omega (arith, count_few ms k_is low w.if-is_none.ensures c.requires.few, c.loop-i.invariant.1, c.requires.room, c.loop-i.auto.places) in
          elim w.if-holds.branch [
            | then-holds w' ↦
                let in_set = subst (λ (j : ℕ). member c.args.open j ≡ One) k_is (w.holds.ensures.in_set w'.if-holds.true) in
                rw (w.k-is, w.n-is, w.places-is, w'.n-is, w'.places-is)
                (step, omega arith, places_more P i n c.args.places.now c.loop-i.places so (sym read ∙ erased _ w.if-is_none.ensures, in_set) fits)
            | else-holds w' ↦
                let out = subst (λ (j : ℕ). member c.args.open j ≡ Zero) k_is (w.holds.ensures.not_in_set w'.if-holds.false) in
                rw (w.k-is, w.n-is, w.places-is, w'.n-is, w'.places-is)
                (step, omega arith, places_same P i n c.args.places.now c.loop-i.places so (λ p. apart (sym out ∙ p.1)))
          ]
      | else-is_none w ↦
          rw (w.k-is, w.n-is, w.places-is) (
            count_known ms i k k_is _ read w.if-is_none.ensures,
            omega arith,
            places_same P i n c.args.places.now c.loop-i.places so (λ p. absurd (false≢true (ap is_some (sym (read ∙ p.0)) ∙ w.if-is_none.ensures))),
          )
    ]
