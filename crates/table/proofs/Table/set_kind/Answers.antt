-- `table::Table::set_kind` meets its contract: the word that is stored is read as the kind alone.
use native.Mathlib.Omega.{arith}
use Rattle.table.proofs.Slots.{kind_slots}
use Rattle.table.proofs.Table.set_kind.Goals as goal

pub returns : goal.returns
returns c =
    let a = c.args in
    kind_slots a.self.now.words c.put.new.self.words a.slot.number a.x (omega arith) c.put.ensures c.requires
