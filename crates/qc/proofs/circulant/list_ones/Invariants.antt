use Rattle.std.proofs.Common.{◌≡◌, ◌≤◌, length, take}
use Rattle.qc.specs.Circulant.{bit, number, ones_of}
use Rattle.qc.proofs.circulant.list_ones.Given as goal

abbrev pub invariant-loop-e : goal.invariant-loop-e
invariant-loop-e l = (take l.n l.places ≡ ones_of (bit (number l.first_row 0 (length l.first_row))) l.e) × (l.n ≤ l.e)
