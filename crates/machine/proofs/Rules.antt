-- The image rules as facts: what the tests say, and that the facts pass the tests.
use Prim.Native.Nat.{ℕ, ◌+◌, ◌-◌, ◌%◌, ◌^◌, ◌<◌, ◌≤◌}
use mathlib.Core.Path.{◌≡◌, refl, ap}
use mathlib.Core.Bool.{true, ◌&&◌}
use mathlib.Core.List.{List, [], ◌∷◌}
use native.Mathlib.Decide.{dec_lt}
use native.Mathlib.Omega.{arith}
use borrow.Author.Tests.{leb-true, le-leb, eqb-true}
use lib.Dec.{leb, eqb}
use lib.ListN.{length, get_or-eq_default}
use Rattle.wire.specs.Lists.{each, all, Every}
use Rattle.wire.proofs.Lists.{split, and_both, and_intro, each_intro, each_at, every_at, every_of, every_weaken, every_all}
use Rattle.label.specs.Label.{is_subset}
use Rattle.machine.specs.Limits.{highest_sender, highest_kind}
use Rattle.machine.specs.Version.{has_clearances}
use Rattle.machine.specs.declared.Message.{Message}
use Rattle.machine.specs.State.{Task, Slot, unused, used, slot_at, is_unused, spare_of, register}
use Rattle.machine.specs.Turn.{of_label}
use Rattle.machine.specs.Valid.{is_program_length, message_in_range, mail_in_range, spares_unused, clearance_fits, ValidTask, ValidSlot}

-- ---- the program's length

pub size_facts : (l : ℕ) → is_program_length l ≡ true → (l % 4 ≡ 0) × (4 ≤ l) × (l ≤ 1024)
unfolding is_program_length
size_facts l e =
    let abc = and_both (eqb (l % 4) 0 && leb 4 l) (leb l 1024) e in
    let ab = and_both (eqb (l % 4) 0) (leb 4 l) abc.0 in
    (eqb-true _ _ ab.0, leb-true _ _ ab.1, leb-true _ _ abc.1)

-- ---- mail

pub record MessageFacts (m : Message) : Type 0 where
  pub label : m.label ≤ 15
  pub sender : m.sender ≤ highest_sender
  pub value : m.value < 2 ^ 32

pub record MailboxFacts (ms : List Message) : Type 0 where
  pub each : Every MessageFacts ms
  pub four : (l : ℕ) → l ≤ 15 → length (of_label l ms) ≤ 4

messages_facts : (ms : List Message) → all message_in_range ms ≡ true → Every (λ m. m.value < 2 ^ 32) ms → Every MessageFacts ms
unfolding all
messages_facts [] e v = tt
messages_facts (m ∷ ms) e v =
    let e₂ = and_both (message_in_range m) (all message_in_range ms) e in
    let e₃ = and_both (leb m.label 15) (leb m.sender highest_sender) e₂.0 in
    (record { label = leb-true _ _ e₃.0; sender = leb-true _ _ e₃.1; value = v.0 }, messages_facts ms e₂.1 v.1)

mailbox_facts : (ms : List Message) → mail_in_range ms ≡ true → Every (λ m. m.value < 2 ^ 32) ms → MailboxFacts ms
mailbox_facts ms e v =
    let e₂ = and_both (all message_in_range ms) (each 16 (λ l. leb (length (of_label l ms)) 4)) e in
    record {
      each = messages_facts ms e₂.0 v;
      four = λ l h. leb-true (length (of_label l ms)) 4 (each_at 16 (λ l. leb (length (of_label l ms)) 4) e₂.1 l (omega arith));
    }

mailbox_test : (ms : List Message) → MailboxFacts ms → mail_in_range ms ≡ true
mailbox_test ms f =
    and_intro (all message_in_range ms) (each 16 (λ l. leb (length (of_label l ms)) 4))
    (every_all MessageFacts message_in_range (λ m h. and_intro (leb m.label 15) (leb m.sender highest_sender) (le-leb _ _ h.label) (le-leb _ _ h.sender)) ms f.each)
    (each_intro 16 (λ l. leb (length (of_label l ms)) 4) (λ l h. le-leb (length (of_label l ms)) 4 (f.four l (omega arith))))

-- ---- tasks

-- every version has five kinds at least, and six at most
pub five_kinds : (v : ℕ) → 5 ≤ highest_kind v
five_kinds v = split (has_clearances v) (λ e. rw e (omega arith)) (λ e. rw e (omega arith))

pub six_kinds : (v : ℕ) → highest_kind v ≤ 6
six_kinds v = split (has_clearances v) (λ e. rw e (omega arith)) (λ e. rw e (omega arith))

-- a label and the clearance above it, in version v
pub record ClearanceFacts (v label clearance : ℕ) : Type 0 where
  pub high : clearance ≤ 15
  pub above : is_subset label clearance ≡ true
  pub fits : clearance_fits v clearance ≡ true

pub record TaskFacts (v n s : ℕ) (t : Task) : Type 0 where
  pub kind_low : 1 ≤ t.kind
  pub kind_high : t.kind ≤ highest_kind v
  pub label : t.label ≤ 15
  pub clearance : ClearanceFacts v t.label t.clearance
  pub spare : s + t.spare ≤ 15
  pub pc : t.pc ≤ n
  pub registers : length t.registers ≡ 8
  pub words : (a : ℕ) → register t a < 2 ^ 32
  pub mailbox : MailboxFacts t.mailbox

abbrev pub SlotFacts : ℕ → ℕ → ℕ → Slot → Type 0
SlotFacts v n s unused = Unit {0}
SlotFacts v n s (used t) = TaskFacts v n s t

module _ (v n s : ℕ) where
  pub task_facts : (t : Task) → ValidTask v n s t → TaskFacts v n s t
  task_facts t ok =
      let k = leb 1 t.kind && leb t.kind (highest_kind v) in
      let l = leb t.label 15 in
      let c = leb t.clearance 15 in
      let w = is_subset t.label t.clearance in
      let spare = and_both (k && l && c && w && leb t.pc n) (leb (s + t.spare) 15) ok.fields in
      let pc = and_both (k && l && c && w) (leb t.pc n) spare.0 in
      let above = and_both (k && l && c) w pc.0 in
      let clearance = and_both (k && l) c above.0 in
      let label = and_both k l clearance.0 in
      let kind = and_both (leb 1 t.kind) (leb t.kind (highest_kind v)) label.0 in
      record {
        kind_low = leb-true _ _ kind.0;
        kind_high = leb-true _ _ kind.1;
        label = leb-true _ _ label.1;
        clearance = record { high = leb-true _ _ clearance.1; above = above.1; fits = ok.clearance };
        spare = leb-true _ _ spare.1;
        pc = leb-true _ _ pc.1;
        registers = ok.registers;
        words = every_at (λ (x : ℕ). x < 2 ^ 32) 0 (omega arith) t.registers ok.words;
        mailbox = mailbox_facts t.mailbox ok.mail ok.values;
      }

  task_valid : (t : Task) → TaskFacts v n s t → ValidTask v n s t
  task_valid t f = record {
    fields = rw (
      le-leb 1 t.kind f.kind_low,
      le-leb t.kind (highest_kind v) f.kind_high,
      le-leb t.label 15 f.label,
      le-leb t.clearance 15 f.clearance.high,
      f.clearance.above,
      le-leb t.pc n f.pc,
      le-leb (s + t.spare) 15 f.spare,
    );
    clearance = f.clearance.fits;
    mail = mailbox_test t.mailbox f.mailbox;
    registers = f.registers;
    words = every_of (λ (x : ℕ). x < 2 ^ 32) 0 t.registers f.words;
    values = every_weaken MessageFacts (λ (m : Message). m.value < 2 ^ 32) (λ m h. h.value) t.mailbox f.mailbox.each;
  }

  pub slot_facts : (x : Slot) → ValidSlot v n s x → SlotFacts v n s x
  slot_facts unused ok = tt
  slot_facts (used t) ok = task_facts t ok

  pub slot_valid : (x : Slot) → SlotFacts v n s x → ValidSlot v n s x
  slot_valid unused f = tt
  slot_valid (used t) f = task_valid t f

-- ---- spare slots

-- no slot of a task's spare is used
abbrev pub SparesFree : List Slot → Type 0
SparesFree ss = (s j : ℕ) → s < j → j ≤ s + spare_of (slot_at ss s) → slot_at ss j ≡ unused

unused_is : (x : Slot) → is_unused x ≡ true → x ≡ unused
unused_is unused e = refl
unused_is (used t) e = cc

module _ (ss : List Slot) where
  pub spares_free : length ss ≡ 16 → spares_unused ss ≡ true → SparesFree ss
  unfolding spares_unused
  spares_free n e s j lt le =
      elim (dec_lt s 16) [
        | yes h ↦
            let inner = each_at 16 (λ s. each (spare_of (slot_at ss s)) (λ d. is_unused (slot_at ss (s + 1 + d)))) e s h in
            let d : s + 1 + (j - s - 1) ≡ j = omega arith in
            rw d at (unused_is (slot_at ss (s + 1 + (j - s - 1))) (each_at (spare_of (slot_at ss s)) (λ d. is_unused (slot_at ss (s + 1 + d))) inner (j - s - 1) (omega arith)))
        | no h ↦ absurd (omega (arith, ap spare_of (get_or-eq_default ss unused {n = s} (omega arith))))
      ]

  pub spares_test : SparesFree ss → spares_unused ss ≡ true
  unfolding spares_unused
  spares_test h =
      each_intro 16 (λ s. each (spare_of (slot_at ss s)) (λ d. is_unused (slot_at ss (s + 1 + d))))
      (λ s l. each_intro (spare_of (slot_at ss s)) (λ d. is_unused (slot_at ss (s + 1 + d))) (λ d m. ap is_unused (h s (s + 1 + d) (omega arith) (omega arith))))
