-- Posts (02, U1): between turns the host puts a message into a slot's mailbox.
use Rattle.std.specs.Prelude.{ℕ, Bool, List, [], ltb, length}
use Rattle.machine.specs.Limits.{host}
use Rattle.machine.specs.declared.Message.{Message}
use Rattle.machine.specs.State.{Slot, unused, used, State, slot_at, with_slots}
use Rattle.machine.specs.Effect.{deliver}
use Rattle.machine.specs.Turn.{perform}

-- "Sender 16 marks the host"
abbrev pub host_message : ℕ → ℕ → Message
host_message label value = record { label = label; sender = host; value = value }

-- "Delivery and dropping follow the send rule, less the sender check": what a send does once its sender was checked
unfoldable pub post : ℕ → ℕ → ℕ → State → State
post slot label value state = with_slots (perform (deliver slot (host_message label value)) state.slots) state

-- ---- "delivered or dropped": what became of the mailbox

abbrev pub mail_of : Slot → List Message
mail_of unused = []
mail_of (used t) = t.mailbox

-- slot s has more messages in the slots `after` than it had `before`
abbrev pub has_more : ℕ → List Slot → List Slot → Bool
has_more s before after = ltb (length (mail_of (slot_at before s))) (length (mail_of (slot_at after s)))

abbrev pub delivered : ℕ → ℕ → ℕ → State → Bool
delivered slot label value state = has_more slot state.slots (post slot label value state).slots
