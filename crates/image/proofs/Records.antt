-- Records to tasks and back, tasks to records and back, and what the numbers 9 and 10 leave: valid tasks.
use Prim.Native.Nat.{ℕ, ◌+◌, ◌*◌, ◌-◌, ◌/◌, ◌%◌, ◌^◌, ◌<◌, ◌≤◌}
use mathlib.Core.Logic.{◌≢◌}
use mathlib.Core.Path.{◌≡◌, refl, sym, ap, ap₂, ◌∙◌}
use mathlib.Core.Bool.{Bool, true, false, cond, ◌||◌}
use mathlib.Core.List.{List, [], ◌∷◌, ◌++◌, append-nil}
use native.Mathlib.Omega.{arith}
use borrow.Author.Tests.{eqb-true}
use lib.Dec.{eqb}
use lib.ListN.{length, take, drop, length-append, length-drop, take-append-drop}
use lib.Seq.{take_all, drop_at}
use Rattle.wire.specs.Lists.{Bytes, Every}
use Rattle.wire.proofs.Lists.{IsByte, length_nil, every_drop, every_append}
use Rattle.wire.specs.Numbers.{encode_number}
use Rattle.wire.specs.Items.{decode_items, encode_items}
use Rattle.wire.specs.Fields.{size, decode_fields, encode_fields}
use Rattle.wire.proofs.Items.{every_decode, items_back, items_forth, length_items, items_bytes}
use Rattle.wire.proofs.Numbers.{length_encode}
use Rattle.wire.proofs.Fields.{Holds, Fit, length_fields, fields_back, fields_forth, fields_fit, fields_bytes, numbers_fit, fit_numbers}
use Rattle.machine.specs.Version.{has_clearances}
use Rattle.machine.specs.declared.Message.{Message}
use Rattle.machine.specs.State.{Task, Slot, unused, used}
use Rattle.machine.specs.Valid.{fields_in_range, mail_in_range, ValidTask, ValidSlot}
use Rattle.machine.proofs.Rules.{MessageFacts, six_kinds, task_facts}
use Rattle.image.specs.Format.{task_fields, message_fields, task_size, message_size}
use Rattle.image.specs.Refusal.{unless, record_number}
use Rattle.image.specs.Record.{message_numbers, message_from, task_numbers, task_from, message_of, mailbox_of, task_of, slot_of, message_bytes, task_bytes, record_bytes}
use Rattle.image.proofs.Refusal.{then_left, then_right, unless_none}
use Rattle.image.proofs.Offsets.{task_size_lem}

-- ---- an unused slot has no record

pub slot_none : (v : ℕ) (r : List ℕ) → length r ≡ 0 → slot_of v r ≡ unused
slot_none v r e = rw (length_nil r e)

pub slot_some : (v : ℕ) (r : List ℕ) → length r ≢ 0 → slot_of v r ≡ used (task_of v r)
slot_some v [] h = absurd (h refl)
slot_some v (x ∷ r) h = refl

-- ---- bytes to a task and back

message_back : (b : List ℕ) → Bytes b → message_size ≤ length b → message_bytes (message_of b) ≡ take message_size b
unfolding decode_fields
message_back b h l = fields_back message_fields b h l

mailbox_back : (b : List ℕ) → Bytes b → length b % message_size ≡ 0 → encode_items message_bytes (mailbox_of b) ≡ b
mailbox_back b h e =
    items_back message_size message_of message_bytes message_back (length b / message_size) b h (omega arith)
    ∙ take_all (message_size * (length b / message_size)) b (omega arith)

pub task_back : (v : ℕ) (r : List ℕ) → Bytes r → task_size v ≤ length r → (length r - task_size v) % message_size ≡ 0 → task_bytes v (task_of v r) ≡ r
unfolding decode_fields task_size
task_back v r h l e =
    let n = task_size v in
    let m : length (drop n r) % message_size ≡ 0 = simp length-drop (omega arith) in
    ap₂ (λ (p q : List ℕ). p ++ q) (fields_back (task_fields v) r h l) (mailbox_back (drop n r) (every_drop IsByte n r h) m)
    ∙ take-append-drop n r

-- ---- a task to bytes and back

pub length_message : (m : Message) → length (message_bytes m) ≡ message_size
length_message m = length_fields message_fields (message_numbers m)

message_forth : (m : Message) (q : List ℕ) → MessageFacts m → message_of (message_bytes m ++ q) ≡ m
message_forth m q h =
    ap message_from (fields_forth message_fields (message_numbers m) q (omega (arith, h.label), (omega (arith, h.sender), (h.value, refl))))

length_mailbox : (ms : List Message) → length (encode_items message_bytes ms) ≡ message_size * length ms
length_mailbox = length_items message_bytes message_size length_message

mailbox_forth : (ms : List Message) → Every MessageFacts ms → mailbox_of (encode_items message_bytes ms) ≡ ms
mailbox_forth ms h =
    let e : length (encode_items message_bytes ms) / message_size ≡ length ms = omega (arith, length_mailbox ms) in
    rw e
    (ap (decode_items message_size message_of (length ms)) (sym (append-nil (encode_items message_bytes ms)))
    ∙ items_forth message_size message_of message_bytes MessageFacts length_message message_forth ms [] h)

pub length_registers : (xs : List ℕ) → length (encode_items (encode_number 4) xs) ≡ 4 * length xs
length_registers = length_items (encode_number 4) 4 (length_encode 4)

pub task_length : (v : ℕ) (t : Task) → length (task_bytes v t) ≡ task_size v + message_size * length t.mailbox
unfolding task_size
task_length v t = rw (length-append, length_fields, length_mailbox)

-- a clearance that fits the version, and one that its field holds
clearance_holds : (b : Bool) (x : ℕ) → x ≤ 15 → (b || eqb x 15) ≡ true → Holds 15 (cond b 1 0) x
clearance_holds true x h e = omega arith
clearance_holds false x h e = eqb-true x 15 e

holds_clearance : (b : Bool) (x : ℕ) → Holds 15 (cond b 1 0) x → (b || eqb x 15) ≡ true
holds_clearance true x h = refl
holds_clearance false x h = rw h

module _ (v n s : ℕ) (t : Task) (few : n ≤ 256) (ok : ValidTask v n s t) where
  -- the fields hold a valid task's numbers
  task_fit : Fit (task_fields v) (task_numbers t)
  task_fit =
      let f = task_facts v n s t ok in
      let kind : t.kind < 256 = omega (arith, f.kind_high, six_kinds v) in
      let clearance = clearance_holds (has_clearances v) t.clearance f.clearance.high f.clearance.fits in
      (kind, (omega (arith, f.label), (clearance, (omega (arith, f.spare), (omega (arith, f.pc), numbers_fit 3 8 t.registers ok.registers ok.words)))))

  task_forth : task_of v (task_bytes v t) ≡ t
  unfolding task_size
  task_forth =
      let fs = task_fields v in
      let head = encode_fields fs (task_numbers t) in
      let mail = encode_items message_bytes t.mailbox in
      ap₂ task_from (fields_forth fs (task_numbers t) mail task_fit)
      (ap mailbox_of (drop_at head mail (size fs) (length_fields fs (task_numbers t))) ∙ mailbox_forth t.mailbox (task_facts v n s t ok).mailbox.each)

-- ---- every task's record consists of bytes

pub record_bytes_lem : (v : ℕ) (x : Slot) → Bytes (record_bytes v x)
record_bytes_lem v unused = tt
record_bytes_lem v (used t) =
    every_append IsByte (encode_fields (task_fields v) (task_numbers t)) (encode_items message_bytes t.mailbox) (fields_bytes (task_fields v) (task_numbers t))
    (items_bytes message_bytes (λ m. fields_bytes message_fields (message_numbers m)) t.mailbox)

-- ---- a record with no number holds a valid task

values_low : (b : List ℕ) → Bytes b → (message_of b).value < 2 ^ 32
unfolding decode_fields
values_low b h = (fields_fit message_fields b h).1.1.0

pub record_valid : (v s n : ℕ) (r : List ℕ) → Bytes r → record_number v s n (slot_of v r) ≡ 0 → ValidSlot v n s (slot_of v r)
unfolding decode_fields
record_valid v s n [] h e = tt
record_valid v s n (x ∷ q) h e =
    let r = x ∷ q in
    let t = task_of v r in
    let fit = fields_fit (task_fields v) r h in
    let registers = fit_numbers 3 8 t.registers fit.1.1.1.1.1 in
    record {
      fields = unless_none (fields_in_range v s n t) 8 (then_left _ _ e);
      clearance = holds_clearance (has_clearances v) t.clearance fit.1.1.0;
      mail = unless_none (mail_in_range t.mailbox) 9 (then_right (unless (fields_in_range v s n t) 9) _ e);
      registers = registers.0;
      words = registers.1;
      values =
          every_decode message_size message_of (λ (m : Message). m.value < 2 ^ 32) values_low (length (drop (task_size v) r) / message_size) (drop (task_size v) r)
          (every_drop IsByte (task_size v) r h);
    }

-- ---- and a valid task gives none

pub valid_record : (v s n : ℕ) (x : Slot) → ValidSlot v n s x → record_number v s n x ≡ 0
valid_record v s n unused ok = refl
valid_record v s n (used t) ok = rw (ok.fields, ok.mail)

-- ---- slots

pub slot_forth : (v n s : ℕ) (x : Slot) → n ≤ 256 → ValidSlot v n s x → slot_of v (record_bytes v x) ≡ x
slot_forth v n s unused h ok = refl
slot_forth v n s (used t) h ok =
    slot_some v (task_bytes v t) (λ e. omega (arith, task_length v t, task_size_lem v)) ∙ ap used (task_forth v n s t h ok)
