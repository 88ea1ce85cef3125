use Rattle.std.proofs.Common.{◌≡◌, ◌++◌, drop, ap, ◌∙◌}
use Rattle.std.specs.Option.{ok_or}
use Rattle.qc.specs.Shape.{sent}
use Rattle.ar4ja.specs.Codes.{shape_of}
use Rattle.frame.specs.declared.faults.ReadFault.TheVariants.{NoMarker}
use Rattle.element.specs.declared.bits.Bit.{Bit}
use Rattle.frame.specs.Reading.{received, received_run}
use Rattle.frame.proofs.Marks.{one_way}
use Rattle.frame.proofs.Readings.{turned_away, taken}
use Rattle.frame.proofs.reading.read.Goals as goal

pub returns-in_err-refusal_due-clause-one : goal.returns-in_err-refusal_due-clause-one
returns-in_err-refusal_due-clause-one g c = one_way (g.O.Outlet.bits c.args.outlet.now) c.args.place c.args.tolerance

pub returns-in-Some : goal.returns-in-Some
returns-in-Some g c =
    let a = c.args in
    let held = g.O.Outlet.bits a.outlet.now in
    let got : c.fetch.new.run ≡ received_run c.in_ok-way.way held a.place a.code a.run.now = c.fetch.ensures ∙ ap (λ (t : Bit). received t held a.place (sent (shape_of a.code)) ++ drop (sent (shape_of a.code)) a.run.now) c.from.ensures in
    let h = turned_away held a.place a.code a.tolerance a.message.now a.run.now c.held.result c.held.ensures _ c.in_ok-refusal_due.ensures
    c.in_ok-way.way c.in_ok-way.distance (c.in_ok-way.ensures.value ∙ ap (λ o. ok_or o NoMarker) c.find_marker.ensures)
    c.fetch.new.run got c.check.new.run c.check.ensures.after c.in_ok-row.field-0 c.in_ok-row.ensures.answer c.in_ok-row.ensures.passes c.in-Some.row c.in-Some.is in
    record { answer = h.answer; run = h.run; message = h.message; accepts = h.accepts; one = h.one }

pub returns : goal.returns
returns g c =
    let a = c.args in
    let held = g.O.Outlet.bits a.outlet.now in
    let got : c.fetch.new.run ≡ received_run c.in_ok-way.way held a.place a.code a.run.now = c.fetch.ensures ∙ ap (λ (t : Bit). received t held a.place (sent (shape_of a.code)) ++ drop (sent (shape_of a.code)) a.run.now) c.from.ensures in
    let h = taken held a.place a.code a.tolerance a.message.now a.run.now c.held.result c.held.ensures _ c.in_ok-refusal_due.ensures
    c.in_ok-way.way c.in_ok-way.distance (c.in_ok-way.ensures.value ∙ ap (λ o. ok_or o NoMarker) c.find_marker.ensures)
    c.fetch.new.run got c.check.new.run c.check.ensures.after c.in_ok-row.field-0 c.in_ok-row.ensures.answer c.in_ok-row.ensures.passes c.in_default.is c.gather.new.message c.gather.ensures in
    record { answer = h.answer; run = h.run; message = h.message; accepts = h.accepts; one = h.one }
