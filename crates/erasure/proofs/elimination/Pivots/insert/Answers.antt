use Rattle.std.proofs.Common.{sym, rules}
use denote.Enum.Bare.{same_false}
use Rattle.element.specs.contracts.bits.Bit.{the_type}
use Rattle.erasure.proofs.Inserting.{placed_reduced, placed_inserted, spent, unmet}
use Rattle.erasure.proofs.elimination.Pivots.insert.Goals as goal

pub invariant_of-self : goal.invariant_of-self
invariant_of-self c =
    let me = c.args.self.now in
    record {
      size = me.size;
      reduced = placed_reduced me.count me.rows me.reduced c.args.form c.reduce-left.result c.reduce-left.ensures c.in-Some.k c.in-Some.ensures c.substitute.new.rows (search rules) c.substitute.ensures;
    }

pub returns-in-Some-clause-inserted : goal.returns-in-Some-clause-inserted
returns-in-Some-clause-inserted c =
    let me = c.args.self.now in
    placed_inserted me.count me.rows me.reduced c.args.form c.reduce-left.result c.reduce-left.ensures c.in-Some.k c.in-Some.ensures c.substitute.new.rows (search rules) c.substitute.ensures

pub returns-in-None-clause-inserted : goal.returns-in-None-clause-inserted
returns-in-None-clause-inserted c =
    let me = c.args.self.now in
    spent me.count me.rows c.args.form c.reduce-left.result c.reduce-left.ensures c.in-None.ensures (search rules)

pub returns-in-None-2-clause-inserted : goal.returns-in-None-2-clause-inserted
returns-in-None-2-clause-inserted c =
    let me = c.args.self.now in
    unmet me.count me.rows c.args.form c.reduce-left.result c.reduce-left.ensures c.in-None.ensures (same_false the_type _ _ (sym c.if-eq.ensures))
