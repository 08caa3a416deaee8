-- `table::Table::put_task` meets its contract: what is read of the stored words is the new task, whatever stood there.
use mathlib.Core.Path.{ap}
use native.Mathlib.Omega.{arith}
use Rattle.table.specs.Table.{window, held}
use Rattle.table.specs.Change.{new_task}
use Rattle.table.proofs.Window.{stored_then}
use Rattle.table.proofs.Task.{task_stored}
use Rattle.table.proofs.Slots.{slots_set}
use Rattle.table.proofs.Table.put_task.Goals as goal

pub returns : goal.returns
returns c =
    let a = c.args in
    slots_set
    (stored_then
    (stored_then
    (stored_then
    (stored_then (stored_then c.clear_fields.ensures c.put.ensures) c.put-2.ensures)
    c.put-3.ensures)
    c.put-4.ensures)
    c.put-5.ensures)
    a.slot.in_range
    (held (new_task a.kind a.label a.clearance a.spare a.pc))
    (ap held
    (task_stored a.kind a.label a.clearance a.spare a.pc (window a.self.now.words a.slot.number) (omega arith) (omega arith) (omega arith) (omega arith) (omega arith)))
