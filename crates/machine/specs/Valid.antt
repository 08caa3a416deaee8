-- The image rules that tasks taken apart can break, as tests under the number that an image gets for breaking them, and the
-- states that keep them all. 4, 6 and 7 have their tests elsewhere: `is_version`, `all_legal`, and that the turn slot is at most 15.
use Rattle.std.specs.Prelude.{ℕ, ◌+◌, ◌%◌, ◌^◌, ◌<◌, ◌≡◌, Bool, true, ◌&&◌, ◌||◌, List, leb, eqb, length}
use Rattle.wire.specs.Lists.{each, all, Bytes, Every}
use Rattle.label.specs.Label.{is_subset}
use Rattle.instruction.specs.Program.{count, all_legal}
use Rattle.machine.specs.Limits.{highest_label, highest_slot, highest_sender, highest_kind, limit_per_label, longest_program}
use Rattle.machine.specs.Version.{is_version, has_clearances}
use Rattle.machine.specs.declared.Message.{Message}
use Rattle.machine.specs.State.{Task, Slot, unused, used, State, slot_at, is_unused, spare_of}
use Rattle.machine.specs.Turn.{of_label}

-- 5 program length, in bytes: a multiple of 4 from 4 to 1,024
unfoldable pub is_program_length : ℕ → Bool
is_program_length l = eqb (l % 4) 0 && leb 4 l && leb l longest_program

-- 9 task field, in slot s of an image of version v with n instructions: kind, label, clearance and place in range, the label within
-- the clearance, and s + spare at most 15
abbrev pub fields_in_range : ℕ → ℕ → ℕ → Task → Bool
fields_in_range v s n t =
    leb 1 t.kind && leb t.kind (highest_kind v) && leb t.label highest_label && leb t.clearance highest_label
    && is_subset t.label t.clearance
    && leb t.pc n
    && leb (s + t.spare) highest_slot

-- 10 mail: message labels and senders in range, and at most four messages of each label
abbrev pub message_in_range : Message → Bool
message_in_range m = leb m.label highest_label && leb m.sender highest_sender

abbrev pub mail_in_range : List Message → Bool
mail_in_range ms = all message_in_range ms && each 16 (λ l. leb (length (of_label l ms)) limit_per_label)

-- 12 estate: slots s+1 to s+k of a task in slot s with spare k are unused
unfoldable pub spares_unused : List Slot → Bool
spares_unused ss = each 16 (λ s. each (spare_of (slot_at ss s)) (λ d. is_unused (slot_at ss (s + 1 + d))))

-- ---- tasks taken apart that keep the rules; registers and values have 32 bits, as the fields of an image have

-- "that a version 1 task has clearance 15 is one of the image rules for tasks taken apart"
abbrev pub clearance_fits : ℕ → ℕ → Bool
clearance_fits v c = has_clearances v || eqb c highest_label

pub record ValidTask (v n s : ℕ) (t : Task) : Type 0 where
  pub fields : fields_in_range v s n t ≡ true
  pub clearance : clearance_fits v t.clearance ≡ true
  pub mail : mail_in_range t.mailbox ≡ true
  pub registers : length t.registers ≡ 8
  pub words : Every (λ x. x < 2 ^ 32) t.registers
  pub values : Every (λ m. m.value < 2 ^ 32) t.mailbox

abbrev pub ValidSlot : ℕ → ℕ → ℕ → Slot → Type 0
ValidSlot v n s unused = Unit {0}
ValidSlot v n s (used t) = ValidTask v n s t

pub record Valid (state : State) : Type 0 where
  pub version : is_version state.version ≡ true
  pub size : is_program_length (length state.program) ≡ true
  pub bytes : Bytes state.program
  pub legal : all_legal state.program ≡ true
  pub turn_slot : leb state.turn_slot highest_slot ≡ true
  pub slot_count : length state.slots ≡ 16
  pub tasks : (s : ℕ) → ValidSlot state.version (count state.program) s (slot_at state.slots s)
  pub spares : spares_unused state.slots ≡ true
