-- `snapshot::is_shown` meets its contract: a task in the table is shown by its label.
use mathlib.Core.Path.{sym, ◌∙◌}
use Rattle.machine.specs.State.{slot_at}
use Rattle.table.specs.Table.{slots_in}
use Rattle.snapshot.proofs.Writing.{slot_used, slot_unused, shown_flows, shown_none}
use Rattle.snapshot.proofs.is_shown.Goals as goal

pub returns-then-is_used : goal.returns-then-is_used
returns-then-is_used c =
    let a = c.args in
    let ss = slots_in a.table.now in
    let here = slot_used (slot_at ss a.slot.number) (sym c.is_used.ensures ∙ c.if-is_used.true) in
    c.flows.ensures ∙ rw c.label.ensures (shown_flows a.observer ss a.slot.number here)

pub returns-else-is_used : goal.returns-else-is_used
returns-else-is_used c =
    let a = c.args in
    let x = slot_at (slots_in a.table.now) a.slot.number in
    c.if-is_used.false ∙ shown_none a.observer x (slot_unused x (sym c.is_used.ensures ∙ c.if-is_used.false))
