-- The highest numbers and the lengths that 01 and 02 allow, each once, in 01's order. How many slots, labels and registers there
-- are stands where they are gone through.
use Rattle.std.specs.Prelude.{ℕ, cond}
use Rattle.machine.specs.Version.{has_clearances}

-- labels, and so clearances and observers
abbrev pub highest_label : ℕ
highest_label = 15

-- the bytes of a program
abbrev pub longest_program : ℕ
longest_program = 1024

-- the lines of a program as text, and their bytes: none has more than seventeen
abbrev pub most_lines : ℕ
most_lines = 256

abbrev pub longest_listing : ℕ
longest_listing = 4352

abbrev pub highest_slot : ℕ
highest_slot = 15

-- the messages of a mailbox, and those of one label
abbrev pub most_messages : ℕ
most_messages = 64

abbrev pub limit_per_label : ℕ
limit_per_label = 4

-- kinds, in an image of version v
abbrev pub highest_kind : ℕ → ℕ
highest_kind v = cond (has_clearances v) 6 5

-- the sender of a post: the host, who stands in no slot. The senders below it are slots
abbrev pub host : ℕ
host = 16

abbrev pub highest_sender : ℕ
highest_sender = host

-- the bytes of an image
abbrev pub shortest_image : ℕ
shortest_image = 40

abbrev pub longest_image : ℕ
longest_image = 7812

-- the turns of one call
abbrev pub turn_limit : ℕ
turn_limit = 1000000

-- bytes that are enough for every sheet, and the most that the reading program takes
abbrev pub sheet_room : ℕ
sheet_room = 318

abbrev pub input_room : ℕ
input_room = 8192
