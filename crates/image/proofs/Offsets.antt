-- Where the fields of the front, of a task and of a message stand: what code reads and writes at an offset.
use Prim.Native.Nat.{ℕ, ◌+◌, ◌*◌, ◌≤◌, ◌<◌}
use mathlib.Core.Path.{◌≡◌, refl, ap, ◌∙◌}
use mathlib.Core.Bool.{Bool, true, false, cond}
use mathlib.Core.List.{List, [], ◌∷◌, ◌++◌}
use native.Mathlib.Omega.{arith}
use lib.ListN.{length, get_or, take, drop, replicate}
use lib.Seq.{get_or-drop, drop-drop}
use Rattle.wire.specs.Numbers.{decode_number, encode_number}
use Rattle.wire.specs.Items.{decode_items, encode_items}
use Rattle.wire.specs.Fields.{bytes, number_or, size, decode_fields, encode_fields}
use Rattle.wire.proofs.Lists.{split}
use Rattle.wire.proofs.Fields.{byte_read, byte_low, length_fields, field_at_lem, fields_from, fields_parts, numbers_read, numbers_written}
use Rattle.machine.specs.Version.{has_clearances}
use Rattle.machine.specs.State.{Task}
use Rattle.image.specs.Format.{front_fields, task_fields, message_fields, task_size, message_size}
use Rattle.image.specs.Record.{task_numbers, message_of, task_of, message_bytes}
use Rattle.image.specs.Image.{version_of, front, program_length}
use Rattle.image.specs.Inner.{head_bytes, clearance_width}

-- ---- the front

pub program_length_at : (b : List ℕ) → program_length b ≡ decode_number 2 (drop 1 b)
unfolding front
program_length_at b = field_at_lem (front_fields (version_of b)) 1 b (omega arith)

pub front_bytes : (v l : ℕ) → v < 256 → encode_fields (front_fields v) (v ∷ l ∷ []) ≡ v ∷ encode_number 2 l
unfolding encode_fields
front_bytes v l h = rw (byte_low v h)

-- ---- a task: what stands behind the clearance moves with its width

pub width_most : (v : ℕ) → clearance_width v ≤ 1
width_most v = split (has_clearances v) (λ e. rw e (omega arith)) (λ e. rw e (omega arith))

pub task_size_lem : (v : ℕ) → task_size v ≡ 37 + clearance_width v
unfolding task_size
task_size_lem v = omega arith

clearance_read : (b : Bool) (r : List ℕ) → number_or 15 (cond b 1 0) (drop 2 r) ≡ cond b (get_or r 2 0) 15
clearance_read true r = byte_read 2 r
clearance_read false r = refl

pub record TaskAt (v : ℕ) (r : List ℕ) : Type 0 where
  pub kind : (task_of v r).kind ≡ get_or r 0 0
  pub label : (task_of v r).label ≡ get_or r 1 0
  pub clearance : (task_of v r).clearance ≡ cond (has_clearances v) (get_or r 2 0) 15
  pub spare : (task_of v r).spare ≡ get_or r (2 + clearance_width v) 0
  pub pc : (task_of v r).pc ≡ decode_number 2 (drop (3 + clearance_width v) r)
  pub registers : (task_of v r).registers ≡ decode_items 4 (decode_number 4) 8 (drop (5 + clearance_width v) r)

pub task_at_lem : (v : ℕ) (r : List ℕ) → TaskAt v r
task_at_lem v r =
    let fs = task_fields v in
    let w = clearance_width v in
    let spare : size (take 3 fs) ≡ 2 + w = omega arith in
    let pc : size (take 4 fs) ≡ 3 + w = omega arith in
    let registers : size (take 5 fs) ≡ 5 + w = omega arith in
    record {
      kind = field_at_lem fs 0 r (omega arith) ∙ byte_read 0 r;
      label = field_at_lem fs 1 r (omega arith) ∙ byte_read 1 r;
      clearance = field_at_lem fs 2 r (omega arith) ∙ clearance_read (has_clearances v) r;
      spare = field_at_lem fs 3 r (omega arith) ∙ ap (λ (n : ℕ). decode_number 1 (drop n r)) spare ∙ byte_read (2 + w) r;
      pc = field_at_lem fs 4 r (omega arith) ∙ ap (λ (n : ℕ). decode_number 2 (drop n r)) pc;
      registers =
          fields_from fs 5 r (omega arith) ∙ ap (λ (n : ℕ). decode_fields (replicate 8 (bytes 4)) (drop n r)) registers ∙ numbers_read 3 8 (drop (5 + w) r);
    }

-- the fields ahead of the registers, and these
pub head_length : (v : ℕ) (xs : List ℕ) → length (head_bytes v xs) ≡ 5 + clearance_width v
head_length v xs = length_fields (take 5 (task_fields v)) xs ∙ omega arith

pub task_parts : (v : ℕ) (t : Task) → length t.registers ≡ 8
    → encode_fields (task_fields v) (task_numbers t)
    ≡ head_bytes v (t.kind ∷ t.label ∷ t.clearance ∷ t.spare ∷ t.pc ∷ []) ++ encode_items (encode_number 4) t.registers
unfolding encode_fields
task_parts v t eight = fields_parts (task_fields v) 5 (task_numbers t) (omega arith) ∙ rw (numbers_written 4 8 t.registers eight)

-- ---- a message

-- message i of a mailbox's bytes
pub record MessageAt (i : ℕ) (b : List ℕ) : Type 0 where
  pub label : (message_of (drop (message_size * i) b)).label ≡ get_or b (message_size * i) 0
  pub sender : (message_of (drop (message_size * i) b)).sender ≡ get_or b (message_size * i + 1) 0
  pub value : (message_of (drop (message_size * i) b)).value ≡ decode_number 4 (drop (message_size * i + 2) b)

pub message_at_lem : (i : ℕ) (b : List ℕ) → MessageAt i b
message_at_lem i b =
    let m = drop (message_size * i) b in
    let first : message_size * i + 0 ≡ message_size * i = omega arith in
    record {
      label = field_at_lem message_fields 0 m (omega arith) ∙ byte_read 0 m ∙ rw (get_or-drop (message_size * i) b 0 0, first);
      sender = field_at_lem message_fields 1 m (omega arith) ∙ byte_read 1 m ∙ get_or-drop (message_size * i) b 1 0;
      value = field_at_lem message_fields 2 m (omega arith) ∙ ap (decode_number 4) (drop-drop 2 (message_size * i) b);
    }

pub message_bytes_lem : (label sender value : ℕ) → label < 256 → sender < 256
    → message_bytes (record { label = label; sender = sender; value = value }) ≡ label ∷ sender ∷ encode_number 4 value
unfolding encode_fields
message_bytes_lem label sender value h g = rw (byte_low label h, byte_low sender g)
