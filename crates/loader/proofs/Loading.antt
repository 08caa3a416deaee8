-- The steps of loading make the task of each record and the slots of the image, and an accepted image can be loaded.
use Prim.Native.Nat.{ℕ, zero, suc, ◌+◌, ◌-◌, ◌*◌, ◌/◌, ◌≤◌, ◌<◌}
use mathlib.Core.Path.{◌≡◌, refl, sym, ap, ◌∙◌}
use mathlib.Core.List.{List, [], ◌++◌, append-nil}
use native.Mathlib.Numerals.{add-one}
use native.Mathlib.Omega.{arith}
use borrow.Author.Tests.{ne_eqb}
use lib.ListN.{length, get_or, take, drop, set, length-set, length-drop, length-append, drop_of_length-le}
use lib.Seq.{take_all, drop_at, drop-cons, drop-drop, set_at, get_or_at, get_or-drop, get_or-set_same, append_snoc}
use Rattle.std.proofs.lemmas.List.{get_or_append_left}
use denote.Ref.{Bor}
use Rattle.std.specs.Prelude.{Some}
use Rattle.std.specs.declared.slice.ChunksExact.{ChunksExact}
use Rattle.std.specs.Slice.Iter.{chunks_exact_rest, chunks_exact_size, chunks_exact_steps}
use Rattle.wire.specs.Lists.{Bytes}
use Rattle.wire.specs.Numbers.{decode_number}
use Rattle.wire.proofs.Lists.{every_at, every_weaken}
use Rattle.wire.proofs.Output.{copy_next}
use Rattle.planes.specs.Planes.{label_from, plane_of, ahead, planes_of}
use Rattle.planes.proofs.Gathered.{label_gathered}
use Rattle.instruction.specs.Program.{count}
use Rattle.machine.specs.Valid.{ValidTask}
use Rattle.machine.proofs.Rules.{MessageFacts, MailboxFacts, task_facts}
use Rattle.machine.proofs.Mailbox.{mailbox_64}
use Rattle.wire.specs.Items.{decode_items}
use Rattle.wire.proofs.Items.{length_decode, get_d_decode, decode_more}
use Rattle.machine.specs.declared.Message.{Message}
use Rattle.machine.specs.State.{Task, Slot, unused, used, slot_at, with_register, with_registers, with_mailbox, no_message}
use Rattle.image.specs.Format.{task_size}
use Rattle.image.specs.Record.{message_of, mailbox_of, task_of, slot_of, task_bytes}
use Rattle.image.specs.Image.{version_of, record_of, skip, slots_of, slots_part, program_of, state_of}
use Rattle.image.specs.Inner.{clearance_width}
use Rattle.image.specs.Refusal.{image_number}
use Rattle.image.proofs.Offsets.{task_size_lem, task_at_lem, message_at_lem}
use Rattle.image.proofs.Slots.{length_slots_of, slot_at_lem}
use Rattle.image.proofs.Image.{accepted_valid, record_accepted}
use Rattle.image.proofs.Records.{slot_some, task_length}
use Rattle.table.specs.Table.{held}
use Rattle.table.specs.Change.{task_at, Used, change_slot, change, with_mail, opened, new_task}
use Rattle.table.proofs.Change.{change_same, change_none, change_set, change_at, change_change, opened_length, opened_label}
use Rattle.loader.specs.Loading.{LabelsFit, Loadable, LoadableSlots, registers_set, mail_set, labels_of}

-- what is lent from index k on
pub from_on : (k : ℕ) (xs : List ℕ) → take (length xs - k) (drop k xs) ≡ drop k xs
from_on k xs = take_all (length xs - k) (drop k xs) (rw length-drop (omega arith))

-- ---- the messages one by one: chunks of six bytes

-- a number that stands in a front of the bytes
number_front : (w j : ℕ) (xs ys : List ℕ) → j + w ≤ length xs → decode_number w (drop j xs) ≡ decode_number w (drop j (xs ++ ys))
number_front zero j xs ys h = refl
number_front (suc w) j xs ys h =
    rw (number_front w j xs ys (omega arith), get_or-drop j xs w 0, get_or-drop j (xs ++ ys) w 0, get_or_append_left xs ys 0 (j + w) (omega arith))

-- chunk k of b, and what is left behind it
pub record ChunkAt (b x left : List ℕ) (k : ℕ) : Type 0 where
  pub there : k < length b / 6
  pub behind : left ≡ drop (6 * (k + 1)) b
  pub sender : get_or x 1 0 ≡ (message_of (drop (6 * k) b)).sender
  pub value : decode_number 4 (drop 2 x) ≡ (message_of (drop (6 * k) b)).value

module _ (b : List ℕ) (s t : ChunksExact ℕ) (x : Bor (List ℕ)) (size : chunks_exact_size s ≡ 6) where
  pub chunk_at : (k : ℕ) → chunks_exact_rest s ≡ drop (6 * k) b → chunks_exact_steps s (Some x) t → ChunkAt b x.now (chunks_exact_rest t) k
  chunk_at k at step =
      let left = chunks_exact_rest t in
      let e : drop (6 * k) b ≡ x.now ++ left = sym at ∙ step.1.0 in
      let six : length x.now ≡ 6 = step.1.1 ∙ size in
      let long : length (drop (6 * k) b) ≡ length x.now + length left = ap length e ∙ length-append x.now left in
      let next : 6 * k + 6 ≡ 6 * (k + 1) = omega arith in
      let m = message_at_lem k b in
      record {
        there = omega (arith, rw length-drop at long);
        behind = sym (drop_at x.now left 6 six) ∙ ap (drop 6) (sym e) ∙ drop-drop 6 (6 * k) b ∙ ap (λ (n : ℕ). drop n b) next;
        sender =
            sym (get_or_append_left x.now left 0 1 (omega arith)) ∙ ap (λ (ys : List ℕ). get_or ys 1 0) (sym e) ∙ get_or-drop (6 * k) b 1 0 ∙ sym m.sender;
        value =
            number_front 4 2 x.now left (omega arith) ∙ ap (λ (ys : List ℕ). decode_number 4 (drop 2 ys)) (sym e)
            ∙ ap (decode_number 4) (drop-drop 2 (6 * k) b) ∙ sym m.value;
      }

-- ---- one register or message after another

pub registers_none : (s : ℕ) (b : List ℕ) (ss : List Slot) → ss ≡ change s (registers_set 0 b) ss
unfolding registers_set
registers_none s b ss = sym (change_none ss s (registers_set 0 b) (λ t e. refl))

pub registers_next : (s k x : ℕ) (b : List ℕ) (ss : List Slot) → x ≡ decode_number 4 (drop (4 * k) b)
    → change s (with_register k x) (change s (registers_set k b) ss) ≡ change s (registers_set (k + 1) b) ss
unfolding registers_set
registers_next s k x b ss e = rw (add-one, e) (change_change s (registers_set k b) (with_register k (decode_number 4 (drop (4 * k) b))) ss)

pub mail_none : (s : ℕ) (b : List ℕ) (ss : List Slot) → ss ≡ change s (mail_set 0 b) ss
unfolding mail_set
mail_none s b ss = sym (change_none ss s (mail_set 0 b) (λ t e. refl))

pub mail_next : (s k sender value : ℕ) (b : List ℕ) (ss : List Slot) → sender ≡ (message_of (drop (6 * k) b)).sender → value ≡ (message_of (drop (6 * k) b)).value
    → change s (with_mail k sender value) (change s (mail_set k b) ss) ≡ change s (mail_set (k + 1) b) ss
unfolding mail_set
mail_next s k sender value b ss e f =
    rw (add-one, e, f) (change_change s (mail_set k b) (with_mail k (message_of (drop (6 * k) b)).sender (message_of (drop (6 * k) b)).value) ss)

-- a mailbox stays as long as it is
pub mail_length : (k : ℕ) (b : List ℕ) (t : Task) → length (mail_set k b t).mailbox ≡ length t.mailbox
unfolding mail_set
mail_length zero b t = refl
mail_length (suc k) b t = rw length-set (mail_length k b t)

-- ---- the labels of the messages

module _ (b : List ℕ) where
  length_labels : length (labels_of b) ≡ length b / 6
  length_labels = length_decode 6 (λ m. (message_of m).label) (length b / 6) b

  label_of : (i : ℕ) → i < length b / 6 → get_or (labels_of b) i 0 ≡ (message_of (drop (6 * i) b)).label
  label_of i h = get_d_decode 6 (λ m. (message_of m).label) (length b / 6) i b 0 h

  pub labels_none : planes_of [] ≡ planes_of (drop (length b / 6) (labels_of b))
  labels_none = ap planes_of (sym (drop_of_length-le (labels_of b) {i = length b / 6} (omega (arith, length_labels))))

  -- a label is put ahead of those behind it
  pub labels_next : (i : ℕ) → i < length b / 6 → ahead (get_or b (6 * i) 0) (planes_of (drop (i + 1) (labels_of b))) ≡ planes_of (drop i (labels_of b))
  unfolding planes_of
  labels_next i h =
      let ls = labels_of b in
      ap (λ (l : ℕ). ahead l (planes_of (drop (i + 1) ls))) (sym (message_at_lem i b).label ∙ sym (label_of i h))
      ∙ rw (add-one i) (ap planes_of (sym (drop-cons ls i 0 (omega (arith, length_labels)))))

  -- no more are behind than there is room for
  pub labels_left : (i n : ℕ) → length b / 6 ≤ n + i → length (drop i (labels_of b)) ≤ n
  labels_left i n h = rw length-drop (omega (arith, length_labels))

-- ---- the task of a record

-- item k is stored behind those before it
item_stored : {A : Type 0} (w : ℕ) (f : List ℕ → A) (k : ℕ) (b : List ℕ) (xs : List A) (d : A) → k < length xs
    → set (decode_items w f k b ++ drop k xs) k (f (drop (w * k) b)) ≡ decode_items w f (suc k) b ++ drop (suc k) xs
item_stored w f k b xs d h =
    let front = decode_items w f k b in
    let x = f (drop (w * k) b) in
    let behind = drop (suc k) xs in
    rw (drop-cons xs k d h, set_at front (get_or xs k d) behind x k (length_decode w f k b))
    (sym (append_snoc front x behind) ∙ ap (λ ys. ys ++ behind) (sym (decode_more w f k b)))

registers_are : (k : ℕ) (b : List ℕ) (t : Task) → k ≤ length t.registers
    → registers_set k b t ≡ with_registers (decode_items 4 (decode_number 4) k b ++ drop k t.registers) t
unfolding registers_set decode_items
registers_are zero b t h = refl
registers_are (suc k) b t h =
    ap (with_register k (decode_number 4 (drop (4 * k) b))) (registers_are k b t (omega arith))
    ∙ ap (λ (rs : List ℕ). with_registers rs t) (item_stored 4 (decode_number 4) k b t.registers 0 h)

-- the messages have the labels that b has
abbrev Labelled : List ℕ → List Message → Type 0
Labelled b ms = (i : ℕ) → i < length ms → (get_or ms i no_message).label ≡ (message_of (drop (6 * i) b)).label

mail_are : (k : ℕ) (b : List ℕ) (t : Task) → k ≤ length t.mailbox → Labelled b t.mailbox
    → mail_set k b t ≡ with_mailbox (decode_items 6 message_of k b ++ drop k t.mailbox) t
unfolding mail_set decode_items
mail_are zero b t h e = refl
mail_are (suc k) b t h e =
    let m = message_of (drop (6 * k) b) in
    let ms = t.mailbox in
    let front = decode_items 6 message_of k b in
    let label : (get_or (front ++ drop k ms) k no_message).label ≡ m.label
    = rw (drop-cons ms k no_message h, get_or_at front (get_or ms k no_message) (drop (suc k) ms) no_message k (length_decode 6 message_of k b)) (e k h) in
    ap (with_mail k m.sender m.value) (mail_are k b t (omega arith) e)
    ∙ ap (λ (l : ℕ). with_mailbox (set (front ++ drop k ms) k (record { label = l; sender = m.sender; value = m.value })) t) label
    ∙ ap (λ (xs : List Message). with_mailbox xs t) (item_stored 6 message_of k b ms no_message h)

-- a mailbox that was opened with the labels of b
module _ (s : ℕ) (b w : List ℕ) (ss ss' : List Slot) (slots : ss' ≡ change s (with_mailbox (opened (length b / 6) (label_from 4 (plane_of (planes_of (labels_of b)))) w)) ss) where
  abbrev n : ℕ
  n = length b / 6

  abbrev ms : List Message
  ms = opened n (label_from 4 (plane_of (planes_of (labels_of b)))) w

  long : length ms ≡ n
  long = opened_length n (label_from 4 (plane_of (planes_of (labels_of b)))) w

  -- has room for its senders and values
  pub mailbox_opened : Used s ss → length (task_at ss' s).mailbox ≡ n
  mailbox_opened here =
      let x : slot_at (change s (with_mailbox ms) ss) s ≡ used (with_mailbox ms (task_at ss s)) = change_at s (with_mailbox ms) ss ∙ ap (change_slot (with_mailbox ms)) here in
      rw (slots, x) long

  -- and then is that of b
  pub mailbox_loaded : LabelsFit b → change s (mail_set n b) ss' ≡ change s (with_mailbox (mailbox_of b)) ss
  mailbox_loaded fit =
      let labelled : Labelled b ms
      = λ i h. let l : i < n = omega (arith, long) in opened_label n (label_from 4 (plane_of (planes_of (labels_of b)))) w i l
      ∙ label_gathered (labels_of b) i (omega (arith, length_labels b)) (fit i l) ∙ label_of b i l in
      let all : decode_items 6 message_of n b ++ drop n ms ≡ mailbox_of b = rw (drop_of_length-le ms {i = n} (omega (arith, long))) (append-nil (mailbox_of b)) in
      ap (change s (mail_set n b)) slots ∙ change_change s (with_mailbox ms) (mail_set n b) ss
      ∙ change_same ss s (λ t. mail_set n b (with_mailbox ms t)) (with_mailbox (mailbox_of b))
      (λ t e. mail_are n b (with_mailbox ms t) (omega (arith, long)) labelled ∙ ap (λ (xs : List Message). with_mailbox xs t) all)

module _ (v : ℕ) (r : List ℕ) (ok : Loadable v r) where
  pub record_long : 37 + clearance_width v ≤ length r
  record_long = omega (arith, ok.long, task_size_lem v)

  -- where the registers and the mailbox stand
  abbrev registers : List ℕ
  registers = drop (5 + clearance_width v) r

  abbrev mailbox : List ℕ
  mailbox = drop (task_size v) r

  -- the task as it is put, with registers 0 and no messages
  abbrev new : Task
  new = new_task (task_of v r).kind (task_of v r).label (task_of v r).clearance (task_of v r).spare (task_of v r).pc

  task_is : with_mailbox (mailbox_of mailbox) (registers_set 8 registers new) ≡ task_of v r
  task_is =
      let rs = decode_items 4 (decode_number 4) 8 registers in
      ap (with_mailbox (mailbox_of mailbox))
      (registers_are 8 registers new (omega arith) ∙ ap (λ (xs : List ℕ). with_registers xs new) (append-nil rs ∙ sym (task_at_lem v r).registers))

  new_held : held new ≡ used new
  new_held = rw (ne_eqb (task_of v r).kind 0 (λ e. omega (arith, ok.kind)))

  -- the new task with its registers is there
  pub registers_here : (s : ℕ) (ss : List Slot) → s < length ss → Used s (change s (registers_set 8 registers) (set ss s (held new)))
  registers_here s ss l =
      let x : slot_at (change s (registers_set 8 registers) (set ss s (held new))) s ≡ used (registers_set 8 registers new)
      = change_at s (registers_set 8 registers) (set ss s (held new)) ∙ ap (change_slot (registers_set 8 registers)) (get_or-set_same ss s (held new) unused l ∙ new_held) in
      rw x

  -- a new task, its registers and its messages
  pub task_loaded : (s : ℕ) (ss : List Slot)
      → change s (with_mailbox (mailbox_of mailbox)) (change s (registers_set 8 registers) (set ss s (held new))) ≡ set ss s (used (task_of v r))
  task_loaded s ss =
      rw (new_held, change_set s (registers_set 8 registers) ss (used new), change_set s (with_mailbox (mailbox_of mailbox)) ss (used (registers_set 8 registers new)), task_is)

-- ---- the slots

-- slot k stored behind the slots before it
pub load_next : (v : ℕ) (b : List ℕ) (ys : List Slot) (k : ℕ) (r : List ℕ) (ss : List Slot) → k < 16 → length ys ≡ 16
    → ss ≡ take k (slots_of v 16 b) ++ drop k ys → r ≡ record_of (skip k b) → set ss k (slot_of v r) ≡ take (k + 1) (slots_of v 16 b) ++ drop (k + 1) ys
load_next v b ys k r ss h l e f =
    let x : slot_of v r ≡ slot_at (slots_of v 16 b) k = ap (slot_of v) f ∙ sym (slot_at_lem v 16 k b h) in
    rw (e, x) (copy_next (slots_of v 16 b) ys k unused (omega (arith, length_slots_of v 16 b)) (omega arith))

-- ---- an accepted image

-- the messages of a mailbox that is sound have labels
labels_fit : (b : List ℕ) → MailboxFacts (mailbox_of b) → LabelsFit b
labels_fit b facts i h =
    let small : (m : Message) → MessageFacts m → m.label ≤ 15 = λ m f. f.label in
    let there = every_at (λ m. m.label ≤ 15) no_message (omega arith) (mailbox_of b) (every_weaken MessageFacts (λ m. m.label ≤ 15) small (mailbox_of b) facts.each) i in
    rw (label_of b i h) (rw (get_d_decode 6 message_of (length b / 6) i b no_message h) at there)

module _ (b : List ℕ) where
  -- its tasks have a kind, and their mailboxes no more than 64 messages
  pub accepted_loadable : Bytes b → image_number b ≡ 0 → LoadableSlots (version_of b) (slots_part b)
  unfolding state_of
  accepted_loadable h e i l some =
      let v = version_of b in
      let n = count (program_of b) in
      let r = record_of (skip i (slots_part b)) in
      let there = slot_some v r (λ z. omega arith) in
      let x : slot_at (slots_of v 16 (slots_part b)) i ≡ used (task_of v r) = slot_at_lem v 16 i (slots_part b) l ∙ there in
      let valid : ValidTask v n i (task_of v r) = rw x at ((accepted_valid b h e).tasks i) in
      let facts = task_facts v n i (task_of v r) valid in
      let back : task_bytes v (task_of v r) ≡ r = rw there at (record_accepted b i h e (omega arith)) in
      record {
        long = omega (arith, task_length v (task_of v r), ap length back);
        kind = facts.kind_low;
        messages = rw length_decode at (mailbox_64 (task_of v r).mailbox facts.mailbox);
        labels = labels_fit (drop (task_size v) r) facts.mailbox;
      }
