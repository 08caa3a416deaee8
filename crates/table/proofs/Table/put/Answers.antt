-- `table::Table::put` meets its contract: the store is in the words of the slot.
use native.Mathlib.Omega.{arith}
use Rattle.table.proofs.Window.{stored_set}
use Rattle.table.proofs.Table.put.Goals as goal

pub returns : goal.returns
returns c =
    let a = c.args in
    stored_set a.self.now.words a.slot.number a.i a.x (omega arith) (omega arith) (omega arith)
