-- Laws of mailboxes: what keeps the limit of four of each label, and that the limit makes 64 in all.
use Prim.Native.Nat.{ℕ, zero, suc, ◌+◌, ◌*◌, ◌≤◌, ◌<◌}
use mathlib.Core.Path.{◌≡◌, refl, ap, ◌∙◌}
use mathlib.Core.Bool.{Bool, true}
use mathlib.Core.List.{List, [], ◌∷◌, ◌++◌}
use native.Mathlib.Decide.{ℕ_discrete}
use native.Mathlib.Omega.{arith}
use borrow.Author.Tests.{eqb-true, eq-eqb, ne_eqb, ltb-true}
use lib.Dec.{eqb}
use lib.ListN.{length, length-append}
use Rattle.wire.specs.Lists.{Every, keep, without}
use Rattle.wire.proofs.Lists.{split, every_append, every_keep, every_without, keep_append, keep_keep_le, keep_without_le}
use Rattle.machine.specs.declared.Message.{Message}
use Rattle.machine.specs.Turn.{of_label, has_room}
use Rattle.machine.proofs.Rules.{MessageFacts, MailboxFacts}

module _ (ms : List Message) (ok : MailboxFacts ms) where
  pub mailbox_keep : (p : Message → Bool) → MailboxFacts (keep p ms)
  mailbox_keep p =
      record {
        each = every_keep MessageFacts p ms ok.each;
        four = λ l h. omega (arith, keep_keep_le (λ m. eqb m.label l) p ms, ok.four l h);
      }

  pub mailbox_without : (i : ℕ) → MailboxFacts (without i ms)
  mailbox_without i =
      record {
        each = every_without MessageFacts i ms ok.each;
        four = λ l h. omega (arith, keep_without_le (λ m. eqb m.label l) i ms, ok.four l h);
      }

  pub mailbox_append : (m : Message) → MessageFacts m → has_room m.label ms ≡ true → MailboxFacts (ms ++ (m ∷ []))
  mailbox_append m g room = record { each = every_append MessageFacts ms (m ∷ []) ok.each (g, tt); four = four }
    where
      four : (l : ℕ) → l ≤ 15 → length (of_label l (ms ++ (m ∷ []))) ≤ 4
      four l h =
          rw (keep_append, length-append)
          (split (eqb m.label l)
          (λ e. let fewer : length (of_label l ms) < 4 = ltb-true (length (of_label l ms)) 4 (rw (← eqb-true m.label l e) room) in
          rw e (omega arith))
          (λ e. rw e (omega (arith, ok.four l h))))

pub mailbox_nil : MailboxFacts []
mailbox_nil = record { each = tt; four = λ l h. omega arith }

-- ---- at most 64

-- the messages of the labels below n, counted
count_below : ℕ → List Message → ℕ
count_below zero ms = 0
count_below (suc n) ms = count_below n ms + length (of_label n ms)

-- one message more is one more of its label
module _ (m : Message) (ms : List Message) where
  below_other : (n : ℕ) → n ≤ m.label → count_below n (m ∷ ms) ≡ count_below n ms
  unfolding count_below
  below_other zero h = refl
  below_other (suc n) h =
      let ih = below_other n (omega arith) in
      rw (ih, ne_eqb m.label n (λ e. omega arith))

  below_own : (n : ℕ) → m.label < n → count_below n (m ∷ ms) ≡ suc (count_below n ms)
  unfolding count_below
  below_own zero h = absurd (omega arith)
  below_own (suc n) h =
      let ih = below_own n in
      elim (ℕ_discrete m.label n) [
        | yes e ↦ rw (below_other n (omega arith), eq-eqb m.label n e) (omega arith)
        | no e ↦ rw (ih (omega arith), ne_eqb m.label n e) (omega arith)
      ]

below_all : (ms : List Message) → Every MessageFacts ms → count_below 16 ms ≡ length ms
unfolding count_below
below_all [] h = refl
below_all (m ∷ ms) h = below_own m ms 16 (omega (arith, h.0.label)) ∙ ap suc (below_all ms h.1)

below_four : (n : ℕ) (ms : List Message) → n ≤ 16 → MailboxFacts ms → count_below n ms ≤ 4 * n
unfolding count_below
below_four zero ms h ok = omega arith
below_four (suc n) ms h ok = omega (arith, below_four n ms (omega arith) ok, ok.four n (omega arith))

-- a mailbox that keeps the limit of each label holds at most 64 messages
pub mailbox_64 : (ms : List Message) → MailboxFacts ms → length ms ≤ 64
mailbox_64 ms ok = omega (arith, below_all ms ok.each, below_four 16 ms (omega arith) ok)

-- so one that has room for a message of a label holds fewer
pub mailbox_room_lem : (ms : List Message) → MailboxFacts ms → (l : ℕ) → l ≤ 15 → has_room l ms ≡ true → length ms < 64
mailbox_room_lem ms ok l h room =
    let m : Message = record { label = l; sender = 0; value = 0 } in
    let joined = mailbox_append ms ok m (record { label = h; sender = omega arith; value = omega arith }) room in
    omega (arith, rw length-append at (mailbox_64 (ms ++ (m ∷ [])) joined))
