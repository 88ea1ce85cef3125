use Rattle.std.proofs.Common.{◌≡◌, ◌*◌, map, length, get_or, drop}
use Rattle.std.specs.List.{range_with_len}
use Rattle.std.specs.Slice.Iter.{chunks_exact_rest, chunks_exact_size}
use Rattle.element.specs.declared.bits.Bit.TheVariants.{Zero}
use Rattle.jobsheet.specs.Parity.{digit_at}
use Rattle.jobsheet.specs.Printers.{Adds}
use Rattle.jobsheet.proofs.printing.Printer.hex.Given as goal

abbrev pub invariant-loop-four : goal.invariant-loop-four
invariant-loop-four l =
    Adds l.initial.self l.self (map (digit_at (λ i. get_or l.bits i Zero)) (range_with_len 0 (length l.yielded)))
    × (chunks_exact_size l.four-iterator ≡ 4)
    × (chunks_exact_rest l.four-iterator ≡ drop (4 * length l.yielded) l.bits)
