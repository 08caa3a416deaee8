-- `snapshot::View::write_mailbox` meets its contract: the first i messages are written.
use Prim.Native.Nat.{◌*◌, ◌≤◌}
use Rattle.wire.proofs.Output.{ItemsWritten}
use Rattle.table.specs.Table.{slots_in}
use Rattle.table.specs.Change.{task_at}
use Rattle.snapshot.specs.Writing.{shown_message}
use Rattle.snapshot.proofs.View.write_mailbox.Given as goal

abbrev pub invariant-loop-i : goal.invariant-loop-i
invariant-loop-i l =
    (l.at ≤ 6 * l.i) × ItemsWritten (shown_message l.self.observer) (task_at (slots_in l.self.table.now) l.slot.number).mailbox l.initial.out l.out l.at l.i
