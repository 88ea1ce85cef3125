use Rattle.qc.proofs.Written.{rotated}
use Rattle.qc.proofs.kernel.add_rotated.Goals as goal

pub returns : goal.returns
returns g c =
    rotated g.E.Element.zero g.E.Element.plus c.args.shift c.args.sums.now c.args.segment.now c.add_each.new.sums c.add_each-2.new.sums c.requires.lengths c.requires.within
    c.add_each.auto.sums c.add_each-2.auto.sums c.add_each.ensures c.add_each-2.ensures
