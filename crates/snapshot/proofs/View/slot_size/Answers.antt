-- `snapshot::View::slot_size` meets its contract: a task that the observer sees has a record, and no other.
use mathlib.Core.Path.{sym, ap, ◌∙◌}
use native.Mathlib.Omega.{arith}
use lib.ListN.{length}
use Rattle.machine.specs.State.{slot_at}
use Rattle.table.specs.Table.{slots_in}
use Rattle.snapshot.proofs.Writing.{shown_used, shown_length, slot_hidden}
use Rattle.snapshot.proofs.View.slot_size.Goals as goal

pub returns-then-is_shown : goal.returns-then-is_shown
returns-then-is_shown c =
    let v = c.args.self.now in
    let a = c.args in
    let shown = sym c.is_shown.ensures ∙ c.if-is_shown.true in
    let size = shown_length v.table.now a.slot.number v.version v.observer shown in
    (omega (arith, size, c.mailbox_size.ensures.0, c.task_size.ensures.0), omega arith)

pub returns-else-is_shown : goal.returns-else-is_shown
returns-else-is_shown c =
    let v = c.args.self.now in
    let a = c.args in
    let hidden = sym c.is_shown.ensures ∙ c.if-is_shown.false in
    (sym (ap length (slot_hidden v.version v.observer (slot_at (slots_in v.table.now) a.slot.number) hidden)), omega arith)

pub mailbox_size-requires : goal.mailbox_size-requires
mailbox_size-requires c =
    let v = c.args.self.now in
    let a = c.args in
    shown_used v.observer (slots_in v.table.now) a.slot.number (sym c.is_shown.ensures ∙ c.if-is_shown.true)
