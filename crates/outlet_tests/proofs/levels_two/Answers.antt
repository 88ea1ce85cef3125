use Rattle.std.proofs.Common.{◌≤◌, length, vec_len, arith}
use Rattle.outlet.specs.LevelLaws.{leveled, levels_are, level_room_is}
use Rattle.outlet.proofs.Leveled.{levels_since}
use Rattle.outlet_tests.proofs.levels_two.Goals as goal

pub returns : goal.returns
returns c =
    let bytes = c.args.bytes in
    let empty = c.empty-levels.ensures in
    let now = c.put_two.new.o in
    let fits : now.held ≤ length now.bytes.items = omega (arith, now.fits, now.bytes.ok.0) in
    let rest = rw (empty.bytes, empty.held) at c.put_two.ensures.rest in
    let are = levels_are now.bytes.items now.held fits in
    let held = rw (empty.bytes, empty.held, level_room_is (vec_len bytes), are) at c.put_two.ensures.after in
    let since = levels_since bytes.items now.bytes.items 0 now.held fits (leveled bytes.items now.bytes.items 0 now.held rest) in
    rw c.into_bytes.ensures.bytes (rw held at since)
