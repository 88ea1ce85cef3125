use Rattle.std.proofs.Common.{◌≡◌, ◌+◌, ◌*◌, ◌<◌, length, sym, ap, ◌∙◌, rules}
use Rattle.std.specs.Option.{option_map}
use Rattle.qc.specs.Shape.{first, second}
use Rattle.qc.proofs.Soundness.{sounds}
use Rattle.qc.proofs.Lowest.{found_at}
use Rattle.qc.proofs.Views.{given, viewed, view_is, lowest_viewed, first_found, second_rows, read_given}
use Rattle.qc.proofs.syndrome.lowest_failing.Goals as goal

pub lowest_row-requires : goal.lowest_row-requires
lowest_row-requires g c =
    let shape = g.C.QuasiCyclic.shape c.args.code in
    let ok = sounds shape (g.C.QuasiCyclic.lawful c.args.code) in
    read_given shape ok (first shape) ok.first_sound _ _ _ _ c.requires.there c.requires.segment c.of-first.ensures.table (c.of-first.ensures.listed ∙ c.first_terms.ensures)

pub returns-in-Some : goal.returns-in-Some
returns-in-Some g c =
    let e = g.E.Element in
    let shape = g.C.QuasiCyclic.shape c.args.code in
    let ok = sounds shape (g.C.QuasiCyclic.lawful c.args.code) in
    let run = c.args.run.now in
    let seen = ap (lowest_viewed e.zero e.plus e.same) (view_is shape (first shape) _ _ _ run c.requires.segment c.of-first.ensures.table (c.of-first.ensures.listed ∙ c.first_terms.ensures)) in
    sym (first_found e.laws shape ok run c.in-Some.r (sym seen ∙ sym c.in-Some.ensures))

pub lowest_row-requires-2 : goal.lowest_row-requires-2
lowest_row-requires-2 g c =
    let shape = g.C.QuasiCyclic.shape c.args.code in
    let ok = sounds shape (g.C.QuasiCyclic.lawful c.args.code) in
    read_given shape ok (second shape) ok.second_sound _ _ _ _ c.requires.there (c.lowest_row.auto.sums ∙ c.requires.segment) c.of-second.ensures.table (c.of-second.ensures.listed ∙ c.second_terms.ensures)

pub map-requires : goal.map-requires
map-requires g c =
    λ r is.
    let e = g.E.Element in
    let m = length c.lowest_row.new.sums in
    let v = given m c.of-second.result.table.now c.of-second.result.terms.now c.args.run.now in
    let low : r < 4 * m = (found_at (λ i. e.same (viewed e.zero e.plus v i) e.zero) (4 * m) r (sym c.lowest_row-2.ensures ∙ is)).0 in
    let short = (sounds _ (g.C.QuasiCyclic.lawful c.args.code)).short in
    let group = c.group_len-group.ensures in
    let same = c.lowest_row.auto.sums in
    let segment = c.requires.segment in
    search rules

pub returns : goal.returns
returns g c =
    let e = g.E.Element in
    let shape = g.C.QuasiCyclic.shape c.args.code in
    let ok = sounds shape (g.C.QuasiCyclic.lawful c.args.code) in
    let run = c.args.run.now in
    let one = ap (lowest_viewed e.zero e.plus e.same) (view_is shape (first shape) _ _ _ run c.requires.segment c.of-first.ensures.table (c.of-first.ensures.listed ∙ c.first_terms.ensures)) in
    let two = ap (lowest_viewed e.zero e.plus e.same) (view_is shape (second shape) _ _ _ run (c.lowest_row.auto.sums ∙ c.requires.segment) c.of-second.ensures.table (c.of-second.ensures.listed ∙ c.second_terms.ensures)) in
    let mapped : c.map.result ≡ option_map (λ r. c.group_len-group.result + r) c.lowest_row-2.result = search rules in
    mapped ∙ ap (λ m. option_map (λ r. m + r) c.lowest_row-2.result) c.group_len-group.ensures
    ∙ second_rows e.laws shape ok run c.lowest_row-2.result (sym one ∙ sym c.in_default.ensures) (c.lowest_row-2.ensures ∙ two)
