-- What the table's functions read of the slots and change in them. An unused slot holds no task, and there is none above 15.
use Rattle.std.specs.Prelude.{ℕ, ◌≡◌, List, [], ◌∷◌, ◌++◌, set, replicate}
use Rattle.wire.specs.Lists.{tabulate}
use Rattle.machine.specs.declared.Message.{Message}
use Rattle.machine.specs.State.{Task, Slot, unused, used, slot_at, with_kind, with_mailbox, message}
use Rattle.table.specs.Table.{message_in, held}

-- ---- reading

abbrev pub no_task : Task
no_task = record { kind = 0; label = 0; clearance = 0; spare = 0; pc = 0; registers = []; mailbox = [] }

abbrev pub task_or : Slot → Task
task_or unused = no_task
task_or (used t) = t

-- the task in slot s, and message i of its mailbox
abbrev pub task_at : List Slot → ℕ → Task
task_at ss s = task_or (slot_at ss s)

-- slot s is used
abbrev pub Used : ℕ → List Slot → Type 0
Used s ss = slot_at ss s ≡ used (task_at ss s)

abbrev pub message_at : List Slot → ℕ → ℕ → Message
message_at ss s i = message (task_at ss s) i

-- ---- changing: what is not there stays so

abbrev pub change_slot : (Task → Task) → Slot → Slot
change_slot f unused = unused
change_slot f (used t) = used (f t)

-- f of the task in slot s
abbrev pub change : ℕ → (Task → Task) → List Slot → List Slot
change s f ss = set ss s (change_slot f (slot_at ss s))

-- kind 0 takes the task away
abbrev pub slot_with_kind : ℕ → Slot → Slot
slot_with_kind k unused = unused
slot_with_kind k (used t) = held (with_kind k t)

-- the message joins the end of the mailbox
abbrev pub with_message : Message → Task → Task
with_message m t = with_mailbox (t.mailbox ++ (m ∷ [])) t

-- message i gets a sender and a value, its mail; its label stays
abbrev pub with_mail : ℕ → ℕ → ℕ → Task → Task
with_mail i sender value t =
    with_mailbox (set t.mailbox i (record { label = (message t i).label; sender = sender; value = value })) t

-- n messages with these labels; senders and values are those that a slot's words w have in the ring already
unfoldable pub opened : ℕ → (ℕ → ℕ) → List ℕ → List Message
opened n label w = tabulate n (λ i. record { label = label i; sender = (message_in w i).sender; value = (message_in w i).value })

-- a task with registers 0 and no messages
abbrev pub new_task : ℕ → ℕ → ℕ → ℕ → ℕ → Task
new_task kind label clearance spare pc =
    record { kind = kind; label = label; clearance = clearance; spare = spare; pc = pc; registers = replicate 8 0; mailbox = [] }
