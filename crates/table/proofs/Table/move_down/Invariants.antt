-- `table::Table::move_down` meets its contract: the messages behind message i, up to message k, have moved.
use Rattle.table.specs.Words.{SlotChanged, Moved, down}
use Rattle.table.proofs.Table.move_down.Given as goal

abbrev pub invariant-loop-k : goal.invariant-loop-k
invariant-loop-k l = SlotChanged l.slot.number (Moved l.start (down l.i l.k)) l.initial.self.words l.self.words
