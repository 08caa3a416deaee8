-- `turn::top_behind` meets its contract: a used slot and its spare lie within the sixteen.
use mathlib.Core.Path.{◌≡◌, refl, sym, ◌∙◌}
use mathlib.Core.Bool.{true, false, not}
use Rattle.machine.specs.State.{Slot, unused, used, slot_at, is_unused}
use Rattle.table.specs.Table.{slots_in}
use Rattle.table.specs.Change.{task_or}
use Rattle.turn.proofs.top_behind.Goals as goal

used_here : (x : Slot) → not (is_unused x) ≡ true → x ≡ used (task_or x)
used_here unused e = cc
used_here (used t) e = refl

unused_here : (x : Slot) → not (is_unused x) ≡ false → x ≡ unused
unused_here unused e = refl
unused_here (used t) e = cc

pub returns-then-is_used : goal.returns-then-is_used
returns-then-is_used c =
    let a = c.args in
    rw (used_here (slot_at (slots_in a.table.now) a.slot.number) (sym c.is_used.ensures ∙ c.if-is_used.true), c.spare.ensures)

pub returns-else-is_used : goal.returns-else-is_used
returns-else-is_used c =
    let a = c.args in
    rw (unused_here (slot_at (slots_in a.table.now) a.slot.number) (sym c.is_used.ensures ∙ c.if-is_used.false))
