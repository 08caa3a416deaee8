-- The slots once a task has carried out an instruction, and what that rests on.
use Rattle.std.specs.Prelude.{◌≡◌, ℕ, ◌+◌, ◌^◌, ◌<◌, ◌≤◌, Bool, true, false, ◌&&◌, List, length, Some}
use Rattle.label.specs.Label.{flows, join}
use Rattle.instruction.specs.declared.Instruction.{Instruction}
use Rattle.instruction.specs.Table.{decode}
use Rattle.machine.specs.Limits.{highest_label}
use Rattle.machine.specs.declared.Message.{Message}
use Rattle.machine.specs.State.{Task, Slot, unused, used, is_live, register, with_register, next}
use Rattle.machine.specs.Effect.{execute}
use Rattle.machine.specs.Turn.{has_room, applied}
use Rattle.table.specs.Table.{mailbox_room}
use Rattle.table.specs.Change.{task_at, Used}

-- the slots once the task in slot s has carried out instruction i
unfoldable pub executed : Instruction → ℕ → List Slot → List Slot
executed i s ss = applied s (execute flows join i s (task_at ss s)) ss

-- what is told of two words and a third: the third is f of the two
abbrev pub Computes : (ℕ → ℕ → ℕ) → (ℕ → ℕ → ℕ → Type 0) → Type 0
Computes f told = (x y z : ℕ) → x < 2 ^ 32 → y < 2 ^ 32 → told x y z → z ≡ f x y

-- register a gets f of registers b and c, and the place goes up
abbrev pub computed : (ℕ → ℕ → ℕ) → ℕ → ℕ → ℕ → Task → Task
computed f a b c t = next (with_register a (f (register t b) (register t c)) t)

-- a live task that has fewer than four messages of label l
abbrev pub accepts : ℕ → Slot → Bool
accepts l unused = false
accepts l (used t) = is_live t && has_room l t.mailbox

-- l is a label, and a mailbox with fewer than four messages of it has room in the table for one more
abbrev pub RoomFor : ℕ → List Message → Type 0
RoomFor l ms = (l ≤ highest_label) × (has_room l ms ≡ true → length ms < mailbox_room)

-- the task in slot s is there, and its place can go up
pub record GoesOn (s : ℕ) (ss : List Slot) : Type 0 where
  pub here : Used s ss
  pub place : (task_at ss s).pc < 256

-- what an instruction of the task in slot s rests on: it goes on, its spare slots are there, and a message of a label can join
-- where there are fewer than four
pub record Ready (s : ℕ) (ss : List Slot) : Type 0 where
  pub goes : GoesOn s ss
  pub spare : s + (task_at ss s).spare ≤ 15
  pub room : (j l : ℕ) → l ≤ highest_label → RoomFor l (task_at ss j).mailbox

-- i was decoded from four bytes of some program, so its operands are within the table
pub record WasDecoded (i : Instruction) : Type 0 where
  pub n : ℕ
  pub code : ℕ
  pub a : ℕ
  pub b : ℕ
  pub c : ℕ
  pub legal : decode n code a b c ≡ Some i
