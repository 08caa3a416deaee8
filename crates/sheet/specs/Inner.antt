-- Definitions for contracts of functions that are no calls, which no claim and no call's promise reaches: the sheet of the tasks in
-- the table as an observer sees them, and its lines.
use Rattle.std.specs.Prelude.{ℕ, List, ◌++◌}
use Rattle.wire.specs.Lists.{tabulate}
use Rattle.wire.specs.Items.{encode_items}
use Rattle.label.specs.Label.{flows}
use Rattle.machine.specs.State.{Task, Slot, used, slot_at}
use Rattle.machine.specs.View.{view_task, view_slot}
use Rattle.table.specs.declared.Table.{Table}
use Rattle.table.specs.Table.{slots_in}
use Rattle.table.specs.Change.{task_at}
use Rattle.sheet.specs.Sheet.{heading, slot_line}
use Rattle.sheet.specs.declared.View.{View}

-- the line of a task in slot s that the view for label v has, and the line of slot s in that view
unfoldable pub shown_task_line : ℕ → ℕ → Task → List ℕ
shown_task_line v s t = slot_line s (used (view_task (λ l. flows l v) t))

unfoldable pub shown_line : ℕ → List Slot → ℕ → List ℕ
shown_line v ss s = slot_line s (view_slot (λ l. flows l v) (slot_at ss s))

-- the lines of all slots, and the whole sheet
unfoldable pub shown_lines : ℕ → List Slot → List ℕ
shown_lines v ss = encode_items (shown_line v ss) (tabulate 16 (λ s. s))

unfoldable pub shown_sheet : ℕ → Table → List ℕ
shown_sheet v table = heading ++ shown_lines v (slots_in table)

-- ---- of a table as an observer sees it: the line of the task in slot s, of slot s and of all slots, and the whole sheet

abbrev pub seen_task_line : View → ℕ → List ℕ
seen_task_line v s = shown_task_line v.observer s (task_at (slots_in v.table.now) s)

abbrev pub seen_line : View → ℕ → List ℕ
seen_line v s = shown_line v.observer (slots_in v.table.now) s

abbrev pub seen_lines : View → List ℕ
seen_lines v = shown_lines v.observer (slots_in v.table.now)

abbrev pub seen_sheet : View → List ℕ
seen_sheet v = shown_sheet v.observer v.table.now
