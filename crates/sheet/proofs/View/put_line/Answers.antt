-- `sheet::View::put_line` meets its contract: a line of a task that the observer sees, and nothing of another slot.
use mathlib.Core.Path.{refl, sym, ◌∙◌}
use Rattle.table.specs.Table.{slots_in}
use Rattle.snapshot.proofs.Writing.{shown_used}
use Rattle.sheet.proofs.Shown.{line_shown, line_hidden}
use Rattle.sheet.proofs.View.put_line.Goals as goal

pub put_task_line-requires : goal.put_task_line-requires
put_task_line-requires c =
    let shown = sym c.is_shown.ensures ∙ c.if-is_shown.true in
    let ss = slots_in c.args.self.now.table.now in
    (shown_used c.args.self.now.observer ss c.args.slot.number shown, rw (line_shown c.args.self.now.observer ss c.args.slot.number shown) at c.requires)

pub returns-then-is_shown : goal.returns-then-is_shown
returns-then-is_shown c =
    let a = c.args in
    let shown = sym c.is_shown.ensures ∙ c.if-is_shown.true in
    rw (line_shown a.self.now.observer (slots_in a.self.now.table.now) a.slot.number shown) c.put_task_line.ensures

pub returns-else-is_shown : goal.returns-else-is_shown
returns-else-is_shown c =
    let a = c.args in
    let hidden = sym c.is_shown.ensures ∙ c.if-is_shown.false in
    rw (line_hidden a.self.now.observer (slots_in a.self.now.table.now) a.slot.number hidden) (refl, refl)
