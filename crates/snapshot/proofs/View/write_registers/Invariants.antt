-- `snapshot::View::write_registers` meets its contract: the first a registers are written.
use Prim.Native.Nat.{◌*◌}
use Rattle.wire.specs.Numbers.{encode_number}
use Rattle.wire.proofs.Output.{ItemsWritten}
use Rattle.table.specs.Table.{slots_in}
use Rattle.table.specs.Change.{task_at}
use Rattle.snapshot.proofs.View.write_registers.Given as goal

abbrev pub invariant-loop-a : goal.invariant-loop-a
invariant-loop-a l = ItemsWritten (encode_number 4) (task_at (slots_in l.self.table.now) l.slot.number).registers l.initial.out l.out (4 * l.a) l.a
