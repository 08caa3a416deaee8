-- `table::Table::drop_message` meets its contract: the ring's gap is closed, and the planes'.
use mathlib.Core.Path.{◌≡◌}
use native.Mathlib.Omega.{arith}
use Rattle.table.specs.Table.{window}
use Rattle.table.specs.Words.{Without}
use Rattle.table.proofs.Window.{changed_then}
use Rattle.table.proofs.Planes.{message_without}
use Rattle.table.proofs.Table.drop_message.Goals as goal

pub returns-then-i-eq0 : goal.returns-then-i-eq0
returns-then-i-eq0 c =
    let a = c.args in
    let first : a.i ≡ 0 = omega arith in
    rw first c.drop_first.ensures

pub returns-else-i-eq0 : goal.returns-else-i-eq0
returns-else-i-eq0 c =
    let a = c.args in
    changed_then (Without a.i a.n) c.close_gap.ensures c.unmark.ensures
    (message_without a.i a.n (window a.self.now.words a.slot.number) (window c.close_gap.new.self.words a.slot.number) (window c.unmark.new.self.words a.slot.number) (omega arith))
