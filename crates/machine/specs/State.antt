-- Tasks taken apart: messages, tasks, slots, and the state of them all.
use Rattle.std.specs.Prelude.{ℕ, ◌+◌, Bool, true, false, List, eqb, get_or, set}
use Rattle.wire.specs.Lists.{without}
use Rattle.machine.specs.declared.Message.{Message}

-- kind: 1 live, 2 done, 3 ran off the program, 4 stopped by a label, 5 stopped for want of spare slots, 6 stopped by its clearance;
-- clearance: what its label may rise to; pc: 01's place, the index of the next instruction; mailbox: oldest message first
pub record Task : Type 0 where
  pub kind : ℕ
  pub label : ℕ
  pub clearance : ℕ
  pub spare : ℕ
  pub pc : ℕ
  pub registers : List ℕ
  pub mailbox : List Message

pub data Slot : Type 0 where
  unused : Slot
  used : Task → Slot

-- version: that of the image; program: its bytes; turn_slot: the slot whose turn is next; slots: 0 to 15 in order
pub record State : Type 0 where
  pub version : ℕ
  pub program : List ℕ
  pub turn_slot : ℕ
  pub slots : List Slot

abbrev pub slot_at : List Slot → ℕ → Slot
slot_at ss i = get_or ss i unused

-- a state with other slots
abbrev pub with_slots : List Slot → State → State
with_slots ss state = record { version = state.version; program = state.program; turn_slot = state.turn_slot; slots = ss }

-- ---- what is asked of a task and of a slot; an unused slot has no right to any other

abbrev pub is_live : Task → Bool
is_live t = eqb t.kind 1

abbrev pub has_live_task : Slot → Bool
has_live_task unused = false
has_live_task (used t) = is_live t

abbrev pub is_unused : Slot → Bool
is_unused unused = true
is_unused (used t) = false

abbrev pub spare_of : Slot → ℕ
spare_of unused = 0
spare_of (used t) = t.spare

-- ---- a task with one field changed

abbrev pub with_kind : ℕ → Task → Task
with_kind k t = record { kind = k; label = t.label; clearance = t.clearance; spare = t.spare; pc = t.pc; registers = t.registers; mailbox = t.mailbox }

abbrev pub with_label : ℕ → Task → Task
with_label l t = record { kind = t.kind; label = l; clearance = t.clearance; spare = t.spare; pc = t.pc; registers = t.registers; mailbox = t.mailbox }

abbrev pub with_spare : ℕ → Task → Task
with_spare k t = record { kind = t.kind; label = t.label; clearance = t.clearance; spare = k; pc = t.pc; registers = t.registers; mailbox = t.mailbox }

abbrev pub with_pc : ℕ → Task → Task
with_pc n t = record { kind = t.kind; label = t.label; clearance = t.clearance; spare = t.spare; pc = n; registers = t.registers; mailbox = t.mailbox }

abbrev pub with_registers : List ℕ → Task → Task
with_registers rs t = record { kind = t.kind; label = t.label; clearance = t.clearance; spare = t.spare; pc = t.pc; registers = rs; mailbox = t.mailbox }

abbrev pub with_mailbox : List Message → Task → Task
with_mailbox ms t = record { kind = t.kind; label = t.label; clearance = t.clearance; spare = t.spare; pc = t.pc; registers = t.registers; mailbox = ms }

-- ---- messages, registers and place

-- what stands for a message that is not there
abbrev pub no_message : Message
no_message = record { label = 0; sender = 0; value = 0 }

-- message i of the mailbox
abbrev pub message : Task → ℕ → Message
message t i = get_or t.mailbox i no_message

-- message i goes
abbrev pub without_message : ℕ → Task → Task
without_message i t = with_mailbox (without i t.mailbox) t

abbrev pub register : Task → ℕ → ℕ
register t a = get_or t.registers a 0

-- register a gets x
abbrev pub with_register : ℕ → ℕ → Task → Task
with_register a x t = with_registers (set t.registers a x) t

-- the place goes up by 1
abbrev pub next : Task → Task
next t = with_pc (t.pc + 1) t
