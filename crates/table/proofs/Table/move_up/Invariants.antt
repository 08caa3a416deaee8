-- `table::Table::move_up` meets its contract: the messages ahead of message i, from message k on, have moved.
use Rattle.table.specs.Words.{SlotChanged, Moved, up}
use Rattle.table.proofs.Table.move_up.Given as goal

abbrev pub invariant-loop-k : goal.invariant-loop-k
invariant-loop-k l = SlotChanged l.slot.number (Moved l.start (up l.i l.k)) l.initial.self.words l.self.words
