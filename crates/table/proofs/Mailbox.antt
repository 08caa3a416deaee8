-- Laws of the mailbox in a slot: one message more and one less, and a whole mailbox.
use Prim.Native.Nat.{ℕ, suc, ◌+◌, ◌*◌, ◌-◌, ◌<◌, ◌≤◌, min}
use mathlib.Core.Path.{◌≡◌, refl, ap, ◌∙◌}
use mathlib.Core.Logic.{◌≢◌}
use mathlib.Core.List.{List, [], ◌∷◌, ◌++◌}
use native.Mathlib.Omega.{arith}
use borrow.Author.Tests.{lt-ltb, le-ltb}
use lib.ListN.{length, get_or, set}
use Rattle.wire.specs.Lists.{tabulate, without}
use Rattle.wire.proofs.Tabulate.{get_d_tabulate, tabulate_same, tabulate_set, tabulate_append, tabulate_without}
use Rattle.label.specs.Label.{bit}
use Rattle.planes.specs.Planes.{label_from}
use Rattle.planes.proofs.Labels.{label_same}
use Rattle.machine.specs.declared.Message.{Message}
use Rattle.machine.specs.State.{with_mailbox, no_message, without_message}
use Rattle.table.specs.Table.{window, plane_in, message_in, task_in, slots_of_words}
use Rattle.table.specs.Change.{task_at, Used, change, with_message, with_mail, opened}
use Rattle.table.specs.Words.{SlotChanged, SlotStored, Planed, Mailed, With, Without}
use Rattle.table.proofs.Window.{window_length}
use Rattle.table.proofs.Message.{message_same, word_sender, word_value}
use Rattle.table.proofs.Task.{count_stored, fields_kept}
use Rattle.table.proofs.Change.{mail_used}
use Rattle.table.proofs.Slots.{used_slot, mailbox_read, frame_change}

-- ---- one slot's words

-- a mailbox whose count was stored last
mailbox_stored : (w u : List ℕ) → length u ≡ 84 → (x : ℕ) → ((k : ℕ) → k < 16 → k ≢ 13 → get_or u k 0 ≡ get_or w k 0)
    → task_in (set u 12 x) ≡ with_mailbox (tabulate (min x 64) (message_in u)) (task_in w)
mailbox_stored w u long x fields = count_stored x u long ∙ rw (fields_kept w u fields)

module _ (w u : List ℕ) (long : length u ≡ 84) (n : ℕ) (count : n ≡ min (get_or w 12 0) 64) where
  append_task : (m : Message) → n < 64 → With n m w u → task_in (set u 12 (n + 1)) ≡ with_mailbox ((task_in w).mailbox ++ (m ∷ [])) (task_in w)
  unfolding task_in
  append_task m room p =
      let more : min (n + 1) 64 ≡ suc n = omega arith in
      let old : min (get_or w 12 0) 64 ≡ n = omega arith in
      mailbox_stored w u long (n + 1) (λ k h _. p.fields k h)
      ∙ ap (λ (ms : List Message). with_mailbox ms (task_in w)) (rw (more, old) (tabulate_append n (message_in w) (message_in u) m p.before p.last))

  remove_task : (i : ℕ) → i < n → Without i n w u → task_in (set u 12 (n - 1)) ≡ with_mailbox (without i (task_in w).mailbox) (task_in w)
  unfolding task_in
  remove_task i h p =
      let less : min (n - 1) 64 ≡ n - 1 = omega arith in
      let old : min (get_or w 12 0) 64 ≡ suc (n - 1) = omega arith in
      mailbox_stored w u long (n - 1) p.fields
      ∙ ap (λ (ms : List Message). with_mailbox ms (task_in w))
      (rw (less, old)
      (tabulate_without (n - 1) (message_in w) (message_in u) i (omega arith)
      (λ j l. rw (lt-ltb j i l) at (p.others j (omega arith)))
      (λ j l k. rw (le-ltb j i l) at (p.others j (omega arith)))))

-- a message whose word was stored
mail_task : (w u : List ℕ) (i sender value : ℕ) → i < min (get_or w 12 0) 64 → sender < 256 → value < 4294967296
    → Mailed i (sender * 4294967296 + value) w u → task_in u ≡ with_mail i sender value (task_in w)
unfolding task_in message_in
mail_task w u i sender value h small fits q =
    let n = min (get_or w 12 0) 64 in
    let others : (j : ℕ) → j < n → j ≢ i → message_in u j ≡ message_in w j
    = λ j l ne. message_same w u j j (λ b k. rw (q.planes b k)) (q.others j (omega arith) ne) in
    let this : message_in u i ≡ record { label = (message_in w i).label; sender = sender; value = value }
    = rw (label_same 4 (plane_in u) (plane_in w) i i (λ b k. rw (q.planes b k)), q.mail, word_sender sender value small fits, word_value sender value small fits) in
    fields_kept w u (λ k l _. q.fields k l)
    ∙ ap (λ (ms : List Message). with_mailbox ms (task_in w))
    (tabulate_set n (message_in w) (message_in u) i others h ∙ ap (set (tabulate n (message_in w)) i) (this ∙ rw (get_d_tabulate n (message_in w) i no_message h)))

-- ---- the slots

-- a message written behind the last, and then its count
pub append_slots : (t : List ℕ) (s : ℕ) → Used s (slots_of_words t) → (n : ℕ) (m : Message) (t₁ u : List ℕ) → n ≡ get_or (window t s) 12 0
    → length (task_at (slots_of_words t) s).mailbox < 64 → SlotChanged s (With n m) t t₁ → SlotStored s (λ v. set v 12 (n + 1)) t₁ u
    → slots_of_words u ≡ change s (with_message m) (slots_of_words t)
append_slots t s here n m t₁ u count room p q =
    let read = mailbox_read t s here in
    frame_change t u s (used_slot t s here) (λ j l ne. q.other j l ne ∙ p.other j l ne) (with_message m) (λ k. refl)
    (ap task_in q.here ∙ append_task (window t s) (window t₁ s) (window_length t₁ s) n (omega arith) m (omega arith) p.here)

-- a message gone, and then its count
pub remove_slots : (t t₁ u : List ℕ) (s i n : ℕ) → i < length (task_at (slots_of_words t) s).mailbox → n ≡ length (task_at (slots_of_words t) s).mailbox → SlotChanged s (Without i n) t t₁
    → SlotStored s (λ v. set v 12 (n - 1)) t₁ u → slots_of_words u ≡ change s (without_message i) (slots_of_words t)
remove_slots t t₁ u s i n h count p q =
    let here = mail_used (slots_of_words t) s i h in
    let read = mailbox_read t s here in
    frame_change t u s (used_slot t s here) (λ j l ne. q.other j l ne ∙ p.other j l ne) (without_message i) (λ k. refl)
    (ap task_in q.here ∙ remove_task (window t s) (window t₁ s) (window_length t₁ s) n (omega arith) i (omega arith) p.here)

-- ---- a whole mailbox

-- the planes stored, and then the count
pub open_slots : (t t₁ u : List ℕ) (s n : ℕ) (plane : ℕ → ℕ) → s < 16 → n ≤ 64 → SlotChanged s (Planed 4 (λ b x y. y ≡ plane b)) t t₁ → SlotStored s (λ v. set v 12 n) t₁ u
    → slots_of_words u ≡ change s (with_mailbox (opened n (label_from 4 plane) (window t s))) (slots_of_words t)
unfolding opened message_in
open_slots t t₁ u s n plane l many p q =
    let w = window t s in
    let w₁ = window t₁ s in
    let all : min n 64 ≡ n = omega arith in
    let each : (i : ℕ) → i < n → message_in w₁ i ≡ record { label = label_from 4 plane i; sender = (message_in w i).sender; value = (message_in w i).value }
    = λ i h. rw (label_same 4 (plane_in w₁) plane i i (λ b k. ap (bit i) (p.here.changed b k)), p.here.fields 13 (omega arith), p.here.ring) in
    frame_change t u s l (λ j k ne. q.other j k ne ∙ p.other j k ne) (with_mailbox (opened n (label_from 4 plane) w)) (λ k. refl)
    (ap task_in q.here ∙ mailbox_stored w w₁ (window_length t₁ s) n (λ k h _. p.here.fields k h)
    ∙ rw all (ap (λ (ms : List Message). with_mailbox ms (task_in w))
    (tabulate_same n (λ i. record { label = label_from 4 plane i; sender = (message_in w i).sender; value = (message_in w i).value }) (message_in w₁) each)))

pub mail_slots : (t u : List ℕ) (s i sender value : ℕ) → i < length (task_at (slots_of_words t) s).mailbox → sender < 256 → value < 4294967296
    → SlotChanged s (Mailed i (sender * 4294967296 + value)) t u → slots_of_words u ≡ change s (with_mail i sender value) (slots_of_words t)
mail_slots t u s i sender value h small fits p =
    let here = mail_used (slots_of_words t) s i h in
    let read = mailbox_read t s here in
    frame_change t u s (used_slot t s here) p.other (with_mail i sender value) (λ k. refl)
    (mail_task (window t s) (window u s) i sender value (omega arith) small fits p.here)
