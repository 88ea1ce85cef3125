-- Rows of the first two block rows, a segment of them at a time.
use Rattle.std.specs.Prelude.{ℕ, ◌+◌, ◌*◌, Bool, ◌&&◌, List, map, ◌==◌, nat_le, nat_lt}
use Rattle.std.specs.List.{range_with_len}
use Rattle.qc.specs.Shape.{Shape, M, whole}
use Rattle.qc.specs.Codeblock.{row, groups}

-- whether a list of that length holds a whole block, there is room for one segment, and the first two block
-- rows have a segment n of rows
abbrev pub rows_there : Shape → ℕ → ℕ → ℕ → Bool
rows_there c len n room = nat_le (whole c) len && room == c.m && nat_lt n 8

-- rows n·m to n·m + m - 1 of the whole block at the front of a list
abbrev pub segment_rows : {E : Type 0} → E → (E → E → E) → Shape → List E → ℕ → List E
segment_rows none plus c xs n = map (λ s. row none plus c (groups none (M c) xs) (n * c.m + s)) (range_with_len 0 c.m)
