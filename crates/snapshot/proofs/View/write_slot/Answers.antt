-- `snapshot::View::write_slot` meets its contract: a task that the observer sees, or length 0.
use mathlib.Core.Path.{refl, sym, ◌∙◌}
use mathlib.Core.List.{[], ◌∷◌}
use Prim.Native.Nat.{◌≤◌}
use native.Mathlib.Omega.{arith}
use lib.ListN.{length}
use Rattle.wire.proofs.Output.{written_fits}
use Rattle.machine.specs.State.{slot_at}
use Rattle.table.specs.Table.{slots_in}
use Rattle.snapshot.proofs.Writing.{slot_shown, shown_used, shown_length, slot_hidden}
use Rattle.snapshot.proofs.View.write_slot.Goals as goal

pub write_task-requires : goal.write_task-requires
write_task-requires c =
    let v = c.args.self.now in
    let shown = sym c.is_shown.ensures ∙ c.if-is_shown.true in
    (shown_used v.observer (slots_in v.table.now) c.args.slot.number shown, rw (shown_length v.table.now c.args.slot.number v.version v.observer shown) at c.requires)

pub returns-then-is_shown : goal.returns-then-is_shown
returns-then-is_shown c =
    let v = c.args.self.now in
    let shown = sym c.is_shown.ensures ∙ c.if-is_shown.true in
    rw (slot_shown v.version v.observer (slot_at (slots_in v.table.now) c.args.slot.number) shown) c.write_task.ensures

pub returns-else-is_shown : goal.returns-else-is_shown
returns-else-is_shown c =
    let v = c.args.self.now in
    let hidden = sym c.is_shown.ensures ∙ c.if-is_shown.false in
    let e = slot_hidden v.version v.observer (slot_at (slots_in v.table.now) c.args.slot.number) hidden in
    let room : 2 ≤ length c.args.out.now = rw e at c.requires in
    rw e (refl, omega arith, c.encode_u16.ensures ∙ written_fits (0 ∷ 0 ∷ []) c.args.out.now room)
