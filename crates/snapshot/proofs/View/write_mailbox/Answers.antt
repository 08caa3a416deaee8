use native.Mathlib.Omega.{arith}
use Rattle.wire.proofs.Output.{item_part, items_more, items_all}
use Rattle.table.specs.Table.{slots_in}
use Rattle.machine.specs.State.{no_message}
use Rattle.table.specs.Change.{task_at}
use Rattle.snapshot.specs.Writing.{shown_message}
use Rattle.snapshot.proofs.View.write_mailbox.Goals as goal

pub write_message-at-requires : goal.write_message-at-requires
write_message-at-requires c =
    let v = c.args.self.now in
    let ms = (task_at (slots_in v.table.now) c.args.slot.number).mailbox in
    (omega arith, item_part (shown_message v.observer) ms c.args.out.now c.requires.1 no_message (omega arith) c.loop-i.invariant.1)

pub loop-i-preserved : goal.loop-i-preserved
loop-i-preserved c =
    let v = c.args.self.now in
    let h = c.loop-i in
    let ms = (task_at (slots_in v.table.now) c.args.slot.number).mailbox in
    let wrote = c.write_message-at in
    let more = items_more (shown_message v.observer) ms c.args.out.now c.requires.1 no_message (omega arith) h.invariant.1 wrote.ensures.2 in
    (omega arith, rw (← wrote.ensures.0) at more)

pub returns : goal.returns
returns c =
    let v = c.args.self.now in
    let a = c.args in
    items_all (shown_message v.observer) (task_at (slots_in v.table.now) a.slot.number).mailbox a.out.now (omega arith) c.loop-i.invariant.1
