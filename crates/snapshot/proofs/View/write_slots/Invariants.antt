-- `snapshot::View::write_slots` meets its contract: the first slots are written.
use Prim.Native.Nat.{◌*◌, ◌≤◌}
use Rattle.wire.proofs.Output.{ItemsWritten}
use Rattle.table.specs.Table.{slots_in}
use Rattle.snapshot.specs.Writing.{shown_slot}
use Rattle.snapshot.proofs.View.write_slots.Given as goal

abbrev pub invariant-loop-number : goal.invariant-loop-number
invariant-loop-number l = (l.at ≤ 424 * l.number) × ItemsWritten (shown_slot l.self.version l.self.observer) (slots_in l.self.table.now) l.initial.out l.out l.at l.number
