-- `table::Table::clear` meets its contract: a task of kind 0 is none.
use mathlib.Core.Path.{refl}
use native.Mathlib.Omega.{arith}
use Rattle.table.proofs.Slots.{clear_slots}
use Rattle.table.proofs.Table.clear.Goals as goal

pub returns : goal.returns
returns c = clear_slots c.args.self.now.words c.put.new.self.words c.args.slot.number 0 (omega arith) c.put.ensures c.args.slot.in_range refl
