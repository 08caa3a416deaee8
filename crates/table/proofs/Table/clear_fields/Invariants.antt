-- `table::Table::clear_fields` meets its contract: the first i words are 0.
use Rattle.table.specs.Words.{SlotStored, cleared}
use Rattle.table.proofs.Table.clear_fields.Given as goal

abbrev pub invariant-loop-i : goal.invariant-loop-i
invariant-loop-i l = SlotStored l.slot.number (cleared l.i) l.initial.self.words l.self.words
