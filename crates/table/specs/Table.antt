-- What the words of the table mean: sixteen slots of 84 words each.
use Rattle.std.specs.Prelude.{ℕ, ◌+◌, ◌*◌, ◌/◌, ◌%◌, min, cond, List, eqb, get_or, drop}
use Rattle.wire.specs.Lists.{tabulate}
use Rattle.planes.specs.Planes.{label_from}
use Rattle.machine.specs.declared.Message.{Message}
use Rattle.table.specs.declared.Table.{Table}
use Rattle.machine.specs.State.{Task, Slot, unused, used, State}

-- ---- the layout of a slot's words: one for each field, a plane for each bit of the messages' labels, and a ring of messages

abbrev pub kind_word : ℕ
kind_word = 0

abbrev pub label_word : ℕ
label_word = 1

abbrev pub spare_word : ℕ
spare_word = 2

abbrev pub pc_word : ℕ
pc_word = 3

abbrev pub registers_word : ℕ
registers_word = 4

-- how many messages, and where in the ring the oldest lies
abbrev pub count_word : ℕ
count_word = 12

abbrev pub start_word : ℕ
start_word = 13

abbrev pub clearance_word : ℕ
clearance_word = 14

abbrev pub planes_word : ℕ
planes_word = 16

abbrev pub ring_word : ℕ
ring_word = 20

abbrev pub slot_words : ℕ
slot_words = 84

-- how many messages a mailbox has room for
abbrev pub mailbox_room : ℕ
mailbox_room = 64

-- ---- words to slots: a field of one byte is its word's low byte, and one of four its low four

-- the words of slot s: words i of the sixteen slots stand side by side
unfoldable pub window : List ℕ → ℕ → List ℕ
window t s = tabulate slot_words (λ i. get_or t (16 * i + s) 0)

abbrev pub low_byte : ℕ → ℕ
low_byte x = x % 256

abbrev pub low_four : ℕ → ℕ
low_four x = x % 4294967296

-- plane b: its bit i is bit b of the label of message i
abbrev pub plane_in : List ℕ → ℕ → ℕ
plane_in w b = get_or (drop planes_word w) b 0

-- the word of the message i places behind a start of the ring
abbrev pub ring_in : ℕ → List ℕ → ℕ → ℕ
ring_in start w i = get_or (drop ring_word w) ((start + i) % mailbox_room) 0

-- message i, the oldest first: its sender stands above its value
unfoldable pub message_in : List ℕ → ℕ → Message
message_in w i =
    record {
      label = label_from 4 (plane_in w) i;
      sender = low_byte (ring_in (get_or w start_word 0) w i / 4294967296);
      value = low_four (ring_in (get_or w start_word 0) w i);
    }

unfoldable pub task_in : List ℕ → Task
task_in w =
    record {
      kind = low_byte (get_or w kind_word 0);
      label = low_byte (get_or w label_word 0);
      clearance = low_byte (get_or w clearance_word 0);
      spare = low_byte (get_or w spare_word 0);
      pc = low_four (get_or w pc_word 0);
      registers = tabulate 8 (λ a. low_four (get_or (drop registers_word w) a 0));
      mailbox = tabulate (min (get_or w count_word 0) mailbox_room) (message_in w);
    }

-- a task of kind 0 is none
abbrev pub held : Task → Slot
held t = cond (eqb t.kind 0) unused (used t)

-- slots 0 to 15 in order
unfoldable pub slots_of_words : List ℕ → List Slot
slots_of_words t = tabulate 16 (λ s. held (task_in (window t s)))

abbrev pub slots_in : Table → List Slot
slots_in t = slots_of_words t.words

-- the tasks in the table, with a version, a program and a turn slot
abbrev pub state_in : ℕ → List ℕ → ℕ → Table → State
state_in version program turn_slot t = record { version = version; program = program; turn_slot = turn_slot; slots = slots_in t }
