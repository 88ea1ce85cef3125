use Rattle.std.proofs.Common.{◌≡◌, ◌++◌, drop}
use Rattle.frame.specs.Reading.{received}
use Rattle.frame.proofs.place.Frame.fetch.Given as goal

abbrev pub invariant-loop-i : goal.invariant-loop-i
invariant-loop-i g l = l.block ≡ received l.turn (g.O.Outlet.bits l.self.outlet.now) l.self.start l.i ++ drop l.i l.initial.block
