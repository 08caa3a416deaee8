-- The parts of a view: what is written of a message, a task and a slot, and how long it is.
use Prim.Native.Nat.{ℕ, ◌+◌, ◌*◌, ◌<◌, ◌≤◌}
use mathlib.Core.Path.{◌≡◌, refl, sym, ap, ◌∙◌}
use mathlib.Core.Bool.{Bool, true, false, not}
use mathlib.Core.List.{List, [], ◌∷◌, ◌++◌}
use native.Mathlib.Omega.{arith}
use lib.ListN.{length, take, set, length-append}
use lib.Seq.{set-set}
use Rattle.label.specs.Label.{flows}
use Rattle.wire.specs.Lists.{keep}
use Rattle.wire.specs.Numbers.{encode_number}
use Rattle.wire.specs.Items.{encode_items}
use Rattle.wire.specs.Output.{overwrite}
use Rattle.wire.proofs.Items.{items_map, items_keep, length_items}
use Rattle.machine.specs.Version.{has_clearances}
use Rattle.machine.specs.declared.Message.{Message}
use Rattle.machine.specs.State.{Task, Slot, unused, used, is_unused, slot_at}
use Rattle.machine.specs.View.{view_task, view_slot, view_by}
use Rattle.wire.specs.Fields.{encode_fields}
use Rattle.wire.proofs.Lists.{split}
use Rattle.wire.proofs.Output.{stores_behind}
use Rattle.wire.proofs.Fields.{byte_low, length_fields}
use Rattle.image.specs.Format.{task_fields, task_size}
use Rattle.image.specs.Record.{task_numbers, message_bytes}
use Rattle.image.specs.Image.{version_of, program_of, slot_bytes, ahead_bytes, image_bytes}
use Rattle.image.specs.Inner.{head_bytes, clearance_width}
use Rattle.image.proofs.Offsets.{task_parts}
use Rattle.image.proofs.Records.{length_message}
use Rattle.image.proofs.Front.{ahead_length}
use Rattle.table.specs.declared.Table.{Table}
use Rattle.table.specs.Table.{slots_in}
use Rattle.table.specs.Change.{task_or, task_at, Used}
use Rattle.table.proofs.Slots.{used_registers}
use Rattle.snapshot.specs.Writing.{snapshot_bytes, shown_slot, shown_task, shown_message, is_shown, head_numbers}

-- ---- a message

-- by the label that the code reads of it and the test that it makes
module _ (v : ℕ) (m : Message) {label : ℕ} {seen : Bool} (l : label ≡ m.label) (s : seen ≡ flows label v) where
  pub message_shown : seen ≡ true → shown_message v m ≡ message_bytes m
  unfolding shown_message
  message_shown e = rw (← l, ← s, e)

  pub message_length : seen ≡ true → length (shown_message v m) ≡ 6
  message_length e = ap length (message_shown e) ∙ length_message m

  pub message_hidden : seen ≡ false → shown_message v m ≡ []
  unfolding shown_message
  message_hidden e = rw (← l, ← s, e)

-- ---- a mailbox: the messages that the observer sees, six bytes each

module _ (v : ℕ) (t : Task) where
  mailbox_shown : encode_items message_bytes (keep (λ m. flows m.label v) t.mailbox) ≡ encode_items (shown_message v) t.mailbox
  unfolding shown_message
  mailbox_shown = items_keep message_bytes (λ m. flows m.label v) t.mailbox

  pub mailbox_length : 6 * length (view_task (λ l. flows l v) t).mailbox ≡ length (encode_items (shown_message v) t.mailbox)
  mailbox_length = sym (length_items message_bytes 6 length_message (keep (λ m. flows m.label v) t.mailbox)) ∙ ap length mailbox_shown

-- ---- a task: its record's length, its fields, its registers and its messages

module _ (version v : ℕ) (t : Task) (eight : length t.registers ≡ 8) where
  abbrev registers : List ℕ
  registers = encode_items (encode_number 4) t.registers

  abbrev mailbox : List ℕ
  mailbox = encode_items (shown_message v) t.mailbox

  abbrev head : List ℕ
  head = head_bytes version (head_numbers t)

  record_length_lem : length (head ++ registers ++ mailbox) ≡ task_size version + length mailbox
  unfolding task_size
  record_length_lem =
      length-append (head ++ registers) mailbox
      ∙ ap (λ (n : ℕ). n + length mailbox) (ap length (sym (task_parts version t eight)) ∙ length_fields (task_fields version) (task_numbers t))

  pub task_shown : shown_task version v t ≡ encode_number 2 (task_size version + length mailbox) ++ head ++ registers ++ mailbox
  unfolding shown_task
  task_shown = rw (mailbox_shown v t, task_parts version t eight) (ap (λ (n : ℕ). encode_number 2 n ++ head ++ registers ++ mailbox) record_length_lem)

  pub task_length : length (shown_task version v t) ≡ 2 + task_size version + length mailbox
  task_length = rw task_shown (omega (arith, record_length_lem))

-- what was written of a length and fields, by what these are
pub head_same : (version : ℕ) {n n' : ℕ} {xs xs' after : List ℕ} (out : List ℕ) → n ≡ n' → xs ≡ xs'
    → after ≡ overwrite (encode_number 2 n ++ head_bytes version xs) out → after ≡ overwrite (encode_number 2 n' ++ head_bytes version xs') out
head_same version out e f wrote = wrote ∙ (λ i. overwrite (encode_number 2 (e i) ++ head_bytes version (f i)) out)

-- four bytes are stored one after another, and where the clearance has none the spare is stored over it; the place stands behind them
module _ (version kind label clearance spare pc : ℕ) where
  abbrev four : List ℕ
  four = encode_fields (take 4 (task_fields version)) (kind ∷ label ∷ clearance ∷ spare ∷ [])

  pub four_stored : (width : ℕ) (size out xs : List ℕ) → (kind < 256) × (label < 256) × (clearance < 256) × (spare < 256) → length size ≡ 2
      → width ≡ clearance_width version → 7 + width ≤ length out → xs ≡ overwrite size out
      → set (set (set (set xs 2 kind) 3 label) 4 clearance) (4 + width) spare ≡ overwrite (size ++ four) out
  unfolding encode_fields
  four_stored width size out xs low two e room wrote =
      let k = byte_low kind low.0 in
      let l = byte_low label low.1 in
      let c = byte_low clearance low.2 in
      let s = byte_low spare low.3 in
      split (has_clearances version)
      (λ t. let one : width ≡ 1 = rw t at e in rw (t, one, k, l, c, s) (stores_behind size (kind ∷ label ∷ clearance ∷ spare ∷ []) out xs 2 two (omega arith) wrote))
      (λ t. let none : width ≡ 0 = rw t at e in rw (t, none, k, l, s, set-set) (stores_behind size (kind ∷ label ∷ spare ∷ []) out xs 2 two (omega arith) wrote))

  pub four_length : length four ≡ 3 + clearance_width version
  four_length = length_fields (take 4 (task_fields version)) (kind ∷ label ∷ clearance ∷ spare ∷ []) ∙ omega arith

  pub head_four : head_bytes version (kind ∷ label ∷ clearance ∷ spare ∷ pc ∷ []) ≡ four ++ encode_number 2 pc
  unfolding encode_fields
  head_four = split (has_clearances version) (λ t. rw t) (λ t. rw t)

-- ---- a slot

-- a slot in the table is used or not
pub slot_used : (x : Slot) → not (is_unused x) ≡ true → x ≡ used (task_or x)
slot_used unused e = cc
slot_used (used t) e = refl

pub slot_unused : (x : Slot) → not (is_unused x) ≡ false → x ≡ unused
slot_unused unused e = refl
slot_unused (used t) e = cc

-- the test in the code
pub shown_flows : (v : ℕ) (ss : List Slot) (s : ℕ) → Used s ss → flows (task_at ss s).label v ≡ is_shown v (slot_at ss s)
unfolding is_shown
shown_flows v ss s here = rw here

pub shown_none : (v : ℕ) (x : Slot) → x ≡ unused → false ≡ is_shown v x
unfolding is_shown
shown_none v x e = rw e

pub shown_used : (v : ℕ) (ss : List Slot) (s : ℕ) → is_shown v (slot_at ss s) ≡ true → Used s ss
unfolding is_shown
shown_used v ss s = there (slot_at ss s)
  where
    there : (x : Slot) → is_shown v x ≡ true → x ≡ used (task_or x)
    there unused e = cc
    there (used t) e = refl

-- what it says of the slot in the view
pub view_slot_shown : (v : ℕ) (x : Slot) → is_shown v x ≡ true → view_slot (λ l. flows l v) x ≡ used (view_task (λ l. flows l v) (task_or x))
unfolding is_shown
view_slot_shown v unused e = cc
view_slot_shown v (used t) e = rw e

pub view_slot_hidden : (v : ℕ) (x : Slot) → is_shown v x ≡ false → view_slot (λ l. flows l v) x ≡ unused
unfolding is_shown
view_slot_hidden v unused e = refl
view_slot_hidden v (used t) e = rw e

pub slot_shown : (version v : ℕ) (x : Slot) → is_shown v x ≡ true → shown_slot version v x ≡ shown_task version v (task_or x)
unfolding shown_slot shown_task
slot_shown version v x e = ap (slot_bytes version) (view_slot_shown v x e)

pub eight_registers : (table : Table) (s : ℕ) → Used s (slots_in table) → length (task_at (slots_in table) s).registers ≡ 8
eight_registers table s here = used_registers table.words s (task_at (slots_in table) s) here

-- a slot in the table that the observer sees
module _ (table : Table) (s version v : ℕ) (shown : is_shown v (slot_at (slots_in table) s) ≡ true) where
  pub shown_length : length (shown_slot version v (slot_at (slots_in table) s)) ≡ 2 + task_size version + length (encode_items (shown_message v) (task_at (slots_in table) s).mailbox)
  shown_length = ap length (slot_shown version v (slot_at (slots_in table) s) shown) ∙ task_length version v (task_at (slots_in table) s) (eight_registers table s (shown_used v (slots_in table) s shown))

pub slot_hidden : (version v : ℕ) (x : Slot) → is_shown v x ≡ false → shown_slot version v x ≡ 0 ∷ 0 ∷ []
unfolding shown_slot
slot_hidden version v x e = ap (slot_bytes version) (view_slot_hidden v x e)

-- ---- the whole

module _ (table : Table) (image : List ℕ) (turn v : ℕ) where
  pub snapshot_parts : snapshot_bytes table image turn v ≡ ahead_bytes (version_of image) (program_of image) turn ++ encode_items (shown_slot (version_of image) v) (slots_in table)
  unfolding snapshot_bytes shown_slot view_by image_bytes
  snapshot_parts = rw (items_map (slot_bytes (version_of image)) (view_slot (λ l. flows l v)) (slots_in table))

  pub snapshot_length : length (snapshot_bytes table image turn v) ≡ 3 + length (program_of image) + 1 + length (encode_items (shown_slot (version_of image) v) (slots_in table))
  snapshot_length = rw (snapshot_parts, length-append, ahead_length (version_of image) (program_of image) turn)
