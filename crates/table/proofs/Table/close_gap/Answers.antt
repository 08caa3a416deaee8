-- `table::Table::close_gap` meets its contract: those ahead move up and the start with them, or those behind move down.
use native.Mathlib.Omega.{arith}
use Rattle.table.specs.Table.{window}
use Rattle.table.specs.Words.{Closed}
use Rattle.table.proofs.Window.{window_length, changed_then, changed_as}
use Rattle.table.proofs.Ring.{closed_up, closed_down}
use Rattle.table.proofs.Table.close_gap.Goals as goal

pub returns-then-i-n : goal.returns-then-i-n
returns-then-i-n c =
    let a = c.args in
    changed_then (Closed a.i a.n) c.move_up.ensures c.put.ensures
    (closed_up a.i a.n c.ring_start-start.result (window a.self.now.words a.slot.number) (window c.move_up.new.self.words a.slot.number) (window c.put.new.self.words a.slot.number) c.ring_start-start.ensures
    (window_length c.move_up.new.self.words a.slot.number) (omega arith) (omega arith))

pub returns-else-i-n : goal.returns-else-i-n
returns-else-i-n c =
    let a = c.args in
    changed_as (Closed a.i a.n) c.move_down.ensures
    (closed_down a.i a.n c.ring_start-start.result (window a.self.now.words a.slot.number) (window c.move_down.new.self.words a.slot.number) c.ring_start-start.ensures (omega arith))
