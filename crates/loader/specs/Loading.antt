-- What loading an image does to the table's slots.
use Rattle.std.specs.Prelude.{ℕ, zero, suc, ◌*◌, ◌/◌, ◌<◌, ◌≤◌, List, length, get_or, drop}
use Rattle.wire.specs.Numbers.{decode_number}
use Rattle.wire.specs.Items.{decode_items}
use Rattle.machine.specs.Limits.{highest_label}
use Rattle.machine.specs.State.{Task, with_register}
use Rattle.image.specs.Format.{task_size, message_size}
use Rattle.image.specs.Record.{message_of, task_of}
use Rattle.image.specs.Image.{record_of, skip}
use Rattle.table.specs.Table.{mailbox_room}
use Rattle.table.specs.Change.{with_mail}

-- registers 0 to k - 1 as b has them, one set after another
unfoldable pub registers_set : ℕ → List ℕ → Task → Task
registers_set zero b t = t
registers_set (suc k) b t = with_register k (decode_number 4 (drop (4 * k) b)) (registers_set k b t)

-- messages 0 to k - 1 with the senders and values that b has, one set after another
unfoldable pub mail_set : ℕ → List ℕ → Task → Task
mail_set zero b t = t
mail_set (suc k) b t = with_mail k (message_of (drop (message_size * k) b)).sender (message_of (drop (message_size * k) b)).value (mail_set k b t)

-- the labels of the messages of b
abbrev pub labels_of : List ℕ → List ℕ
labels_of b = decode_items message_size (λ m. (message_of m).label) (length b / message_size) b

-- each is at most 15
abbrev pub LabelsFit : List ℕ → Type 0
LabelsFit b = (i : ℕ) → i < length b / message_size → get_or (labels_of b) i 0 ≤ highest_label

-- a record whose task the table can hold, in an image of version v: all fields, a kind, and no more messages than a mailbox has room
-- for, each with a label
pub record Loadable (v : ℕ) (r : List ℕ) : Type 0 where
  pub long : task_size v ≤ length r
  pub kind : 1 ≤ (task_of v r).kind
  pub messages : length (drop (task_size v) r) / message_size ≤ mailbox_room
  pub labels : LabelsFit (drop (task_size v) r)

-- no bytes are an unused slot
abbrev pub LoadableSlot : ℕ → List ℕ → Type 0
LoadableSlot v r = 0 < length r → Loadable v r

abbrev pub LoadableSlots : ℕ → List ℕ → Type 0
LoadableSlots v b = (i : ℕ) → i < 16 → LoadableSlot v (record_of (skip i b))
