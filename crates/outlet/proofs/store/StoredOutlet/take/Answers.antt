use Rattle.std.proofs.Common.{vec_len, arith}
use Rattle.outlet.proofs.Storings.{take_stores}
use Rattle.outlet.proofs.store.StoredOutlet.take.Goals as goal

pub returns-clause-rest : goal.returns-clause-rest
returns-clause-rest g c =
    let o = c.args.self.now in
    let s = g.C.Cell in
    take_stores s.PLACES s.form g.met.C.Cell.laws o.bytes.items (vec_len o.bytes) o.bytes.ok.0 _ c.PLACES-places.ensures o.held (omega (arith, c.capacity.ensures)) c.index.result.now _ c.index.ensures c.args.b c.with-cell.ensures _ (grind arith)
