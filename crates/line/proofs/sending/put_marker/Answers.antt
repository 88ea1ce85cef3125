use Rattle.std.proofs.Common.{◌≡◌, List, [], ◌∷◌, ◌++◌, map, sym, ap, ◌∙◌, arith}
use Rattle.std.specs.List.{range_with_len}
use Rattle.std.proofs.lemmas.List.FromFn.{map-range_with_len_more, length-map-range_with_len}
use Rattle.element.specs.declared.bits.Bit.{Bit}
use Rattle.frame.specs.Marker.{mark}
use Rattle.line.specs.Frames.{marker}
use Rattle.line.proofs.Putting.{put_more}
use Rattle.line.proofs.sending.put_marker.Goals as goal

pub loop-i-preserved : goal.loop-i-preserved
loop-i-preserved g c =
    let o = g.O.Outlet in
    let i = c.loop-i.i in
    let inv = c.loop-i.invariant in
    let base = o.bits c.args.out.now in
    let room : o.room c.loop-i.out ≡ o.room c.args.out.now = o.lawful.steady _ _ inv.1 in (
      put_more base (map mark (range_with_len 0 i)) _ _ _ (o.room c.loop-i.out) inv.0 c.take.ensures.after (omega (arith, room, length-map-range_with_len mark 0 i, c.requires))
          ∙ ap (λ (y : Bit). base ++ (map mark (range_with_len 0 i) ++ (y ∷ []))) c.marker_bit.ensures
          ∙ ap (λ (z : List Bit). base ++ z) (sym (map-range_with_len_more mark 0 i i (omega arith))),
      o.lawful.transitive _ _ _ inv.1 c.take.ensures.rest,
    )

pub returns-clause-bits : goal.returns-clause-bits
unfolding marker
returns-clause-bits g c =
    let o = g.O.Outlet in
    let all : c.loop-i.i ≡ 64 = omega arith in
    c.loop-i.invariant.0 ∙ ap (λ n. o.bits c.args.out.now ++ map mark (range_with_len 0 n)) all
