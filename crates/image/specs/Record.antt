-- A slot's record: the task in it, and the task's bytes.
use Rattle.std.specs.Prelude.{ℕ, ◌/◌, List, [], ◌∷◌, ◌++◌, length, get_or, drop}
use Rattle.wire.specs.Items.{decode_items, encode_items}
use Rattle.wire.specs.Fields.{decode_fields, encode_fields}
use Rattle.machine.specs.declared.Message.{Message}
use Rattle.machine.specs.State.{Task, Slot, unused, used}
use Rattle.image.specs.Format.{task_fields, message_fields, task_size, message_size}

-- ---- the numbers in the fields of a message and of a task, in the format's order

abbrev pub message_numbers : Message → List ℕ
message_numbers m = m.label ∷ m.sender ∷ m.value ∷ []

abbrev pub message_from : List ℕ → Message
message_from xs = record { label = get_or xs 0 0; sender = get_or xs 1 0; value = get_or xs 2 0 }

abbrev pub task_numbers : Task → List ℕ
task_numbers t = t.kind ∷ t.label ∷ t.clearance ∷ t.spare ∷ t.pc ∷ t.registers

abbrev pub task_from : List ℕ → List Message → Task
task_from xs ms =
    record { kind = get_or xs 0 0; label = get_or xs 1 0; clearance = get_or xs 2 0; spare = get_or xs 3 0; pc = get_or xs 4 0; registers = drop 5 xs; mailbox = ms }

-- ---- bytes to a task

abbrev pub message_of : List ℕ → Message
message_of b = message_from (decode_fields message_fields b)

abbrev pub mailbox_of : List ℕ → List Message
mailbox_of b = decode_items message_size message_of (length b / message_size) b

-- its fields, and the messages behind them, in an image of version v
abbrev pub task_of : ℕ → List ℕ → Task
task_of v r = task_from (decode_fields (task_fields v) r) (mailbox_of (drop (task_size v) r))

-- an unused slot has no record
abbrev pub slot_of : ℕ → List ℕ → Slot
slot_of v [] = unused
slot_of v (x ∷ r) = used (task_of v (x ∷ r))

-- ---- a task to bytes

abbrev pub message_bytes : Message → List ℕ
message_bytes m = encode_fields message_fields (message_numbers m)

abbrev pub task_bytes : ℕ → Task → List ℕ
task_bytes v t = encode_fields (task_fields v) (task_numbers t) ++ encode_items message_bytes t.mailbox

abbrev pub record_bytes : ℕ → Slot → List ℕ
record_bytes v unused = []
record_bytes v (used t) = task_bytes v t
