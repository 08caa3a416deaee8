-- A mailbox read message by message, with a count for each label.
use Prim.Native.Nat.{ℕ, ◌+◌, ◌*◌, ◌<◌, ◌≤◌}
use mathlib.Core.Path.{◌≡◌, refl, sym, ◌∙◌}
use mathlib.Core.Bool.{true, false, ◌&&◌, and-false}
use mathlib.Core.List.{List, [], ◌∷◌, ◌++◌}
use native.Mathlib.Decide.{ℕ_discrete}
use native.Mathlib.Numerals.{add-one}
use native.Mathlib.Omega.{arith}
use borrow.Author.Tests.{leb-true, le-leb, lt-leb, eq-eqb, ne_eqb}
use lib.Dec.{leb}
use lib.ListN.{length, get_or, drop, set, replicate, length-append, length-set, get_or-replicate}
use lib.Seq.{get_or-set_same, get_or-set_other}
use Rattle.wire.specs.Lists.{all}
use Rattle.wire.specs.Items.{decode_items}
use Rattle.wire.proofs.Lists.{and_both, each_intro, each_fails, keep_append, all_append}
use Rattle.wire.proofs.Items.{decode_at, decode_more}
use Rattle.machine.specs.Limits.{highest_sender}
use Rattle.machine.specs.declared.Message.{Message}
use Rattle.machine.specs.Turn.{of_label}
use Rattle.machine.specs.Valid.{message_in_range, mail_in_range}
use Rattle.image.specs.Record.{message_of}
use Rattle.image.proofs.Offsets.{message_at_lem}

-- ---- the first j messages of a mailbox's bytes

abbrev pub messages : ℕ → List ℕ → List Message
messages = decode_items 6 message_of

-- ---- counts

-- a label in range has a count
pub label_low : (label sender : ℕ) → (leb label 15 && leb sender highest_sender) ≡ true → label < 16
label_low label sender r = omega (arith, leb-true label 15 (and_both (leb label 15) (leb sender highest_sender) r).0)

-- the messages are in range, and the counts are theirs, four of a label at most
pub record Counted (counts : List ℕ) (ms : List Message) : Type 0 where
  pub size : length counts ≡ 16
  pub range : all message_in_range ms ≡ true
  pub each : (l : ℕ) → l < 16 → (get_or counts l 0 ≡ length (of_label l ms)) × (get_or counts l 0 ≤ 4)

pub counted_none : Counted (replicate 16 0) []
unfolding all
counted_none = record { size = refl; range = refl; each = λ l h. let z = get_or-replicate {A = ℕ} 16 l 0 0 h in (z, omega (arith, z)) }

module _ (counts : List ℕ) (ms : List Message) (ok : Counted counts ms) where
  pub counted_mail : mail_in_range ms ≡ true
  counted_mail =
      rw ok.range (each_intro 16 (λ l. leb (length (of_label l ms)) 4) (λ l h. le-leb (length (of_label l ms)) 4 (rw (← (ok.each l h).0) (ok.each l h).1)))

  module _ (m : Message) (r : message_in_range m ≡ true) where
    low : m.label < 16
    low = label_low m.label m.sender r

    counted_next : get_or counts m.label 0 < 4 → Counted (set counts m.label (get_or counts m.label 0 + 1)) (ms ++ (m ∷ []))
    unfolding all
    counted_next room =
        record { size = simp length-set ok.size; range = rw (all_append, ok.range, r); each = λ l h. rw (keep_append, length-append) (each l h) }
      where
        each : (l : ℕ) → l < 16
            → (get_or (set counts m.label (get_or counts m.label 0 + 1)) l 0 ≡ length (of_label l ms) + length (of_label l (m ∷ [])))
            × (get_or (set counts m.label (get_or counts m.label 0 + 1)) l 0 ≤ 4)
        each l h =
            elim (ℕ_discrete l m.label) [
              | yes e ↦ rw (e, get_or-set_same counts m.label _ 0 (omega (arith, low, ok.size)), eq-eqb m.label m.label refl) (omega (arith, ok.each m.label low), omega arith)
              | no ne ↦ rw (get_or-set_other counts m.label l _ 0 ne, ne_eqb m.label l (λ e. ne (sym e))) (omega (arith, ok.each l h), (ok.each l h).1)
            ]

    -- a fifth message of a label
    counted_full : 4 ≤ get_or counts m.label 0 → (after : List Message) → mail_in_range (ms ++ m ∷ after) ≡ false
    counted_full full after =
        let more : 4 < length (of_label m.label (ms ++ m ∷ after))
        = rw (keep_append, length-append, eq-eqb m.label m.label refl) (omega (arith, ok.each m.label low)) in
        rw (each_fails 16 (λ l. leb (length (of_label l (ms ++ m ∷ after))) 4) m.label low (lt-leb _ 4 more), and-false)

mail_out_of_range : (ms : List Message) (m : Message) → message_in_range m ≡ false → (after : List Message) → mail_in_range (ms ++ m ∷ after) ≡ false
unfolding all
mail_out_of_range ms m r after = rw (all_append, r, and-false)

-- ---- message j, by the two bytes that are read of it

module _ (b : List ℕ) (j label sender : ℕ) (l : label ≡ get_or b (6 * j) 0) (s : sender ≡ get_or b (6 * j + 1) 0) where
  label_is : label ≡ (message_of (drop (6 * j) b)).label
  label_is = l ∙ sym (message_at_lem j b).label

  sender_is : sender ≡ (message_of (drop (6 * j) b)).sender
  sender_is = s ∙ sym (message_at_lem j b).sender

  range_is : message_in_range (message_of (drop (6 * j) b)) ≡ leb label 15 && leb sender highest_sender
  range_is = rw (label_is, sender_is)

  module _ (counts : List ℕ) (ok : Counted counts (messages j b)) (r : (leb label 15 && leb sender highest_sender) ≡ true) where
    pub message_counted : get_or counts label 0 < 4 → Counted (set counts label (get_or counts label 0 + 1)) (messages (j + 1) b)
    message_counted room = rw (add-one j, decode_more 6 message_of j b, label_is) (counted_next counts (messages j b) ok (message_of (drop (6 * j) b)) (range_is ∙ r) (rw (← label_is) room))

    pub message_fifth : (k : ℕ) → j < k → 4 ≤ get_or counts label 0 → mail_in_range (messages k b) ≡ false
    message_fifth k h full =
        rw (decode_at 6 message_of k j b h) (counted_full counts (messages j b) ok (message_of (drop (6 * j) b)) (range_is ∙ r) (rw (← label_is) full) _)

  pub message_out_of_range : (k : ℕ) → j < k → (leb label 15 && leb sender highest_sender) ≡ false → mail_in_range (messages k b) ≡ false
  message_out_of_range k h r = rw (decode_at 6 message_of k j b h) (mail_out_of_range (messages j b) (message_of (drop (6 * j) b)) (range_is ∙ r) _)

-- the reading: no message read, one that is refused, all of them
pub ruleset by_message = (counted_none, message_fifth, message_out_of_range, counted_mail)
