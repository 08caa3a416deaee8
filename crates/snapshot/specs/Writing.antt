-- The bytes that are written of the table for an observer, and of each part of it.
use Rattle.std.specs.Prelude.{ℕ, Bool, false, cond, List, [], ◌∷◌}
use Rattle.wire.specs.Items.{encode_items}
use Rattle.label.specs.Label.{flows}
use Rattle.machine.specs.declared.Message.{Message}
use Rattle.machine.specs.State.{Task, Slot, unused, used, slot_at}
use Rattle.machine.specs.View.{view_task, view_slot}
use Rattle.machine.specs.Machine.{view}
use Rattle.image.specs.Record.{message_bytes}
use Rattle.image.specs.Image.{version_of, program_of, slot_bytes, image_bytes}
use Rattle.table.specs.declared.Table.{Table}
use Rattle.table.specs.Table.{state_in, slots_in}
use Rattle.table.specs.Change.{task_at, message_at}
use Rattle.snapshot.specs.declared.View.{View}

-- the image of the tasks in the table, with the image's version and program, in the view for label v
unfoldable pub snapshot_bytes : Table → List ℕ → ℕ → ℕ → List ℕ
snapshot_bytes table image turn_slot v = image_bytes (view v (state_in (version_of image) (program_of image) turn_slot table))

-- ---- its parts

-- a slot in the view, and a task that is in it
unfoldable pub shown_slot : ℕ → ℕ → Slot → List ℕ
shown_slot version v x = slot_bytes version (view_slot (λ l. flows l v) x)

unfoldable pub shown_task : ℕ → ℕ → Task → List ℕ
shown_task version v t = slot_bytes version (used (view_task (λ l. flows l v) t))

-- a message: no bytes where it is left out
unfoldable pub shown_message : ℕ → Message → List ℕ
shown_message v m = cond (flows m.label v) (message_bytes m) []

-- whether the view has a task in the slot
unfoldable pub is_shown : ℕ → Slot → Bool
is_shown v unused = false
is_shown v (used t) = flows t.label v

-- ---- what is written of a table in a view of it: message i of the task in slot s, its mailbox, its task, the slot and all slots

abbrev pub seen_message : View → ℕ → ℕ → List ℕ
seen_message v s i = shown_message v.observer (message_at (slots_in v.table.now) s i)

abbrev pub seen_mailbox : View → ℕ → List ℕ
seen_mailbox v s = encode_items (shown_message v.observer) (task_at (slots_in v.table.now) s).mailbox

abbrev pub seen_task : View → ℕ → List ℕ
seen_task v s = shown_task v.version v.observer (task_at (slots_in v.table.now) s)

abbrev pub seen_slot : View → ℕ → List ℕ
seen_slot v s = shown_slot v.version v.observer (slot_at (slots_in v.table.now) s)

abbrev pub seen_slots : View → List ℕ
seen_slots v = encode_items (shown_slot v.version v.observer) (slots_in v.table.now)

-- the numbers of a task's fields ahead of the registers
abbrev pub head_numbers : Task → List ℕ
head_numbers t = t.kind ∷ t.label ∷ t.clearance ∷ t.spare ∷ t.pc ∷ []
