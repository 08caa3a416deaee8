use Prim.Native.Nat.{◌<◌}
use native.Mathlib.Omega.{arith}
use lib.ListN.{length}
use Rattle.wire.proofs.Items.{count_next, count_all}
use Rattle.machine.specs.State.{unused}
use Rattle.table.specs.Table.{slots_in}
use Rattle.table.proofs.Change.{length_slots}
use Rattle.snapshot.specs.Writing.{shown_slot}
use Rattle.snapshot.proofs.View.slots_size.Goals as goal

pub loop-number-preserved : goal.loop-number-preserved
loop-number-preserved c =
    let v = c.args.self.now in
    let h = c.loop-number in
    let more : h.number < length (slots_in v.table.now) = omega (arith, length_slots v.table.now.words) in
    (omega arith, count_next (shown_slot v.version v.observer) (slots_in v.table.now) h.number h.n c.slot_size-n.result unused more c.slot_size-n.ensures.0 h.invariant.1)

pub returns : goal.returns
returns c =
    let v = c.args.self.now in
    let h = c.loop-number in
    (count_all (shown_slot v.version v.observer) (slots_in v.table.now) h.number h.n (omega (arith, length_slots v.table.now.words)) h.invariant.1, omega arith)
