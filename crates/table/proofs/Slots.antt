-- Laws of the sixteen slots that the table's words mean.
use Prim.Native.Nat.{ℕ, ◌+◌, ◌%◌, ◌<◌, ◌≤◌, min}
use mathlib.Core.Path.{◌≡◌, refl, sym, ap, ◌∙◌}
use mathlib.Core.Logic.{◌≢◌, dite}
use mathlib.Core.List.{List}
use native.Mathlib.Decide.{dec_lt}
use native.Mathlib.Omega.{arith}
use borrow.Author.Tests.{eqb-true, eqb-false, ne_eqb}
use lib.Dec.{eqb}
use lib.ListN.{length, get_or, drop, set, replicate, get_or-eq_default}
use Rattle.wire.specs.Lists.{tabulate}
use Rattle.wire.proofs.Lists.{split}
use Rattle.wire.proofs.Tabulate.{length_tabulate, get_d_tabulate, tabulate_same, tabulate_set}
use Rattle.machine.specs.State.{Task, Slot, unused, used, slot_at, has_live_task, is_unused, with_kind, no_message}
use Rattle.table.specs.Table.{mailbox_room, low_four, window, message_in, task_in, held, slots_of_words}
use Rattle.table.specs.Change.{task_or, task_at, Used, message_at, change_slot, change, slot_with_kind}
use Rattle.table.specs.Words.{SlotStored}
use Rattle.table.proofs.Change.{length_slots, mail_used}
use Rattle.table.proofs.Window.{window_length, word_at}
use Rattle.table.proofs.Task.{kind_stored}

-- where the first words, the kinds, are 0, every slot is unused
pub none_used : (t : List ℕ) → ((i : ℕ) → i < 16 → get_or t i 0 ≡ 0) → slots_of_words t ≡ replicate 16 unused
unfolding slots_of_words tabulate task_in
none_used t h =
    let kind : (s : ℕ) → s < 16 → get_or (window t s) 0 0 ≡ 0 = λ s l. sym (word_at t s 0 (omega arith)) ∙ h (0 + s) (omega arith) in
    tabulate_same 16 (λ s. unused) (λ s. held (task_in (window t s))) (λ s l. rw (kind s l))

slot_past : (t : List ℕ) (s : ℕ) → 16 ≤ s → slot_at (slots_of_words t) s ≡ unused
slot_past t s h = get_or-eq_default (slots_of_words t) unused (rw length_slots h)

slot_in : (t : List ℕ) (s : ℕ) → s < 16 → slot_at (slots_of_words t) s ≡ held (task_in (window t s))
unfolding slots_of_words
slot_in t s h = get_d_tabulate 16 (λ j. held (task_in (window t j))) s unused h

-- a used slot is one of the sixteen
pub used_slot : (t : List ℕ) (s : ℕ) → Used s (slots_of_words t) → s < 16
used_slot t s e = dite (dec_lt s 16) (λ l. l) (λ l. let z : ◌≡◌ {A = ℕ} 0 1 = cc (slot_past t s (omega arith)) in absurd (omega arith))

-- ---- changing

held_change : (g : Task → Task) (k : Task) → (g k).kind ≡ k.kind → held (g k) ≡ change_slot g (held k)
held_change g k e =
    let same : eqb (g k).kind 0 ≡ eqb k.kind 0 = rw e in
    split (eqb k.kind 0) (λ z. rw (same, z)) (λ z. rw (same, z))

module _ (t u : List ℕ) (s : ℕ) (l : s < 16) (other : (j : ℕ) → j < 16 → j ≢ s → window u j ≡ window t j) where
  -- no other slot has changed
  slots_frame : (x : Slot) → held (task_in (window u s)) ≡ x → slots_of_words u ≡ set (slots_of_words t) s x
  unfolding slots_of_words
  slots_frame x e =
      let held_in : List ℕ → Slot = λ w. held (task_in w) in
      tabulate_set 16 (λ j. held_in (window t j)) (λ j. held_in (window u j)) s (λ j small ne. ap held_in (other j small ne)) l ∙ ap (set (slots_of_words t) s) e

  -- a change of the task that leaves its kind
  pub frame_change : (g : Task → Task) → ((k : Task) → (g k).kind ≡ k.kind) → task_in (window u s) ≡ g (task_in (window t s)) → slots_of_words u ≡ change s g (slots_of_words t)
  frame_change g same e =
      slots_frame (change_slot g (slot_at (slots_of_words t) s)) (rw (slot_in t s l, e) (held_change g (task_in (window t s)) (same (task_in (window t s)))))

module _ {s : ℕ} {f : List ℕ → List ℕ} {t u : List ℕ} (p : SlotStored s f t u) (l : s < 16) where
  pub slots_set : (x : Slot) → held (task_in (f (window t s))) ≡ x → slots_of_words u ≡ set (slots_of_words t) s x
  slots_set x e = slots_frame t u s l p.other x (ap (λ (w : List ℕ). held (task_in w)) p.here ∙ e)

  pub slots_change : (g : Task → Task) → ((k : Task) → (g k).kind ≡ k.kind)
      → (length (window t s) ≡ 84 → task_in (f (window t s)) ≡ g (task_in (window t s))) → slots_of_words u ≡ change s g (slots_of_words t)
  slots_change g same e = frame_change t u s l p.other g same (ap task_in p.here ∙ e (window_length t s))

-- ---- reading

held_used : (j k : Task) → held j ≡ used k → j ≡ k
held_used j k = split (eqb j.kind 0) (λ z. rw z (λ e. cc)) (λ z. rw z (λ e. cc))

held_kind : (k : Task) → (task_or (held k)).kind ≡ k.kind
held_kind k = split (eqb k.kind 0) (λ z. rw z (sym (eqb-true k.kind 0 z))) (λ z. rw z)

-- what holds of every slot that is read, whatever the table's length
slot_any : (P : Slot → Type 0) → P unused → ((w : List ℕ) → (task_in w).kind ≢ 0 → P (used (task_in w))) → (t : List ℕ) (s : ℕ) → P (slot_at (slots_of_words t) s)
slot_any P none some t s =
    dite (dec_lt s 16)
    (λ l. rw (slot_in t s l)
    (split (eqb (task_in (window t s)).kind 0) (λ z. rw z none) (λ z. rw z (some (window t s) (eqb-false (task_in (window t s)).kind 0 z)))))
    (λ l. rw (slot_past t s (omega arith)) none)

-- a task in the table has eight registers
pub used_registers : (t : List ℕ) (s : ℕ) (k : Task) → slot_at (slots_of_words t) s ≡ used k → length k.registers ≡ 8
unfolding task_in
used_registers =
    slot_any (λ x. (k : Task) → x ≡ used k → length k.registers ≡ 8) (λ k e. cc)
    (λ w _ k e. let same : task_in w ≡ k = cc in rw (← same) (length_tabulate 8 (λ a. low_four (get_or (drop 4 w) a 0))))

-- no mailbox has more than 64 messages
pub mail_fits : (t : List ℕ) (s : ℕ) → length (task_at (slots_of_words t) s).mailbox ≤ 64
unfolding task_in
mail_fits =
    slot_any (λ x. length (task_or x).mailbox ≤ 64) (omega arith)
    (λ w _. rw (length_tabulate (min (get_or w 12 0) 64) (message_in w)) (omega arith))

module _ (t : List ℕ) (s : ℕ) where
  pub kind_read : s < 16 → (task_at (slots_of_words t) s).kind ≡ get_or (window t s) 0 0 % 256
  unfolding task_in
  kind_read l = rw (slot_in t s l) (held_kind (task_in (window t s)))

  -- the words of a used slot are its task's
  pub used_task : Used s (slots_of_words t) → task_at (slots_of_words t) s ≡ task_in (window t s)
  used_task here = sym (held_used (task_in (window t s)) (task_at (slots_of_words t) s) (sym (slot_in t s (used_slot t s here)) ∙ here))

  -- the mailbox of a used slot, message by message
  pub mailbox_is : Used s (slots_of_words t) → (task_at (slots_of_words t) s).mailbox ≡ tabulate (min (get_or (window t s) 12 0) 64) (message_in (window t s))
  unfolding task_in
  mailbox_is here = ap (λ (k : Task). k.mailbox) (used_task here)

  pub mailbox_read : Used s (slots_of_words t) → min (get_or (window t s) 12 0) 64 ≡ length (task_at (slots_of_words t) s).mailbox
  mailbox_read here = sym (rw (mailbox_is here, length_tabulate))

  pub mailbox_most : Used s (slots_of_words t) → length (task_at (slots_of_words t) s).mailbox ≤ mailbox_room
  mailbox_most here = omega (arith, mailbox_read here)

  pub message_read : (i : ℕ) → i < length (task_at (slots_of_words t) s).mailbox → message_at (slots_of_words t) s i ≡ message_in (window t s) i
  message_read i h =
      let here = mail_used (slots_of_words t) s i h in
      rw (mailbox_is here) (get_d_tabulate (min (get_or (window t s) 12 0) 64) (message_in (window t s)) i no_message (omega (arith, mailbox_read here)))

-- ---- the kind: a slot's task is there where its kind is not 0

-- a slot is unused where its kind is 0, and live where it is 1
pub unused_kind : (t : List ℕ) (s : ℕ) → is_unused (slot_at (slots_of_words t) s) ≡ eqb (task_at (slots_of_words t) s).kind 0
unused_kind = slot_any (λ x. is_unused x ≡ eqb (task_or x).kind 0) refl (λ w some. sym (ne_eqb (task_in w).kind 0 some))

pub live_kind : (x : Slot) → has_live_task x ≡ eqb (task_or x).kind 1
live_kind unused = refl
live_kind (used t) = refl

module _ (t u : List ℕ) (s x : ℕ) (small : x < 256) (p : SlotStored s (λ w. set w 0 x) t u) where
  stored : task_in (set (window t s) 0 x) ≡ with_kind x (task_in (window t s))
  stored = kind_stored x (window t s) (window_length t s) small

  pub kind_slots : Used s (slots_of_words t) → slots_of_words u ≡ set (slots_of_words t) s (slot_with_kind x (slot_at (slots_of_words t) s))
  kind_slots here =
      let l = used_slot t s here in
      slots_set p l (slot_with_kind x (slot_at (slots_of_words t) s)) (rw (here, used_task t s here, stored))

  pub clear_slots : s < 16 → x ≡ 0 → slots_of_words u ≡ set (slots_of_words t) s unused
  clear_slots l none = slots_set p l unused (rw (stored, none))
