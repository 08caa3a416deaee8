-- `table::Table::drop_first` meets its contract: the start moves on, and the planes down.
use native.Mathlib.Omega.{arith}
use Rattle.table.specs.Table.{window}
use Rattle.table.specs.Words.{up, Without}
use Rattle.table.proofs.Window.{window_length, changed_then}
use Rattle.table.proofs.Planes.{message_without}
use Rattle.table.proofs.Ring.{moved_none, up_none, closed_up}
use Rattle.table.proofs.Table.drop_first.Goals as goal

pub returns : goal.returns
returns c =
    let a = c.args in
    let w = window a.self.now.words a.slot.number in
    let still = moved_none c.ring_start-start.result (up 0 0) w (up_none 0) in
    changed_then (Without 0 a.n) c.put.ensures c.unmark.ensures
    (λ e p.
    message_without 0 a.n w (window c.put.new.self.words a.slot.number) (window c.unmark.new.self.words a.slot.number) (omega arith)
    (closed_up 0 a.n c.ring_start-start.result w w (window c.put.new.self.words a.slot.number) c.ring_start-start.ensures (window_length a.self.now.words a.slot.number) (omega arith) (omega arith) still e) p)
