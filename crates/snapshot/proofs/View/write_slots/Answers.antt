use Prim.Native.Nat.{◌<◌}
use native.Mathlib.Omega.{arith}
use lib.ListN.{length}
use Rattle.wire.proofs.Output.{item_part, items_more, items_all}
use Rattle.machine.specs.State.{unused}
use Rattle.table.specs.Table.{slots_in}
use Rattle.table.proofs.Change.{length_slots}
use Rattle.snapshot.specs.Writing.{shown_slot}
use Rattle.snapshot.proofs.View.write_slots.Goals as goal

pub write_slot-at-requires : goal.write_slot-at-requires
write_slot-at-requires c =
    let v = c.args.self.now in
    let h = c.loop-number in
    let ss = slots_in v.table.now in
    let more : h.number < length ss = omega (arith, length_slots v.table.now.words) in
    item_part (shown_slot v.version v.observer) ss c.args.out.now c.requires unused more h.invariant.1

pub loop-number-preserved : goal.loop-number-preserved
loop-number-preserved c =
    let v = c.args.self.now in
    let h = c.loop-number in
    let ss = slots_in v.table.now in
    let wrote = c.write_slot-at in
    let more : h.number < length ss = omega (arith, length_slots v.table.now.words) in
    let next = items_more (shown_slot v.version v.observer) ss c.args.out.now c.requires unused more h.invariant.1 wrote.ensures.2 in
    (omega arith, rw (← wrote.ensures.0) at next)

pub returns : goal.returns
returns c =
    let v = c.args.self.now in
    let a = c.args in
    items_all (shown_slot v.version v.observer) (slots_in v.table.now) a.out.now (omega (arith, length_slots v.table.now.words)) c.loop-number.invariant.1
