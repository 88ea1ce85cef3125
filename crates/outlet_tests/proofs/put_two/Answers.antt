use Rattle.outlet_tests.proofs.put_two.Goals as goal

pub returns-clause-rest : goal.returns-clause-rest
returns-clause-rest g c = g.O.Outlet.lawful.transitive _ _ _ c.take.ensures.rest c.take-2.ensures.rest
