-- `listing::put_lines` meets its contract: the lines of the chunks that came are written.
use mathlib.Core.Path.{◌≡◌}
use Rattle.std.specs.Slice.Iter.{chunks_exact_rest, chunks_exact_size}
use Rattle.listing.proofs.Chunks.{LinesWritten}
use Rattle.listing.proofs.put_lines.Given as goal

abbrev pub invariant-loop-instruction : goal.invariant-loop-instruction
invariant-loop-instruction l =
    (goal.iterator-loop-instruction).can_next l.instruction-iterator
    × (goal.iterator-loop-instruction).is_finite l.instruction-iterator
    × (chunks_exact_size l.instruction-iterator ≡ 4)
    × LinesWritten l.program (chunks_exact_rest l.instruction-iterator) l.initial.out l.out l.at
