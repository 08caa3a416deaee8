-- The claims of specs/Claims.antt hold.
use Prim.Native.Nat.{ℕ, zero, suc, ◌<◌}
use mathlib.Core.Path.{◌≡◌, refl, sym, ap, ◌∙◌}
use mathlib.Core.Bool.{true, false, cond, true≢false}
use mathlib.Core.List.{List, [], ◌∷◌, ◌++◌}
use native.Mathlib.Nat.{not-suc-le-zero}
use native.Mathlib.Omega.{arith}
use borrow.Author.Tests.{lt-ltb, le-ltb, ltb-false, eq-eqb, eqb-true}
use lib.Dec.{eqb, ltb, leb-suc-suc}
use lib.ListN.{length, take}
use Rattle.wire.proofs.Lists.{split}
use Rattle.machine.specs.declared.Message.{Message}
use Rattle.machine.specs.Turn.{of_label}
use Rattle.search.specs.Look.{one_more, look_for}
use Rattle.search.proofs.Counting.{look_met}
use Rattle.search.specs.Claims.{RoomIsTheSendRules, NoneBehindTheFourth, Nth, TellsHowMany}

-- each is said of any number in place of four

room_for : (label : ℕ) (ms : List Message) (k : ℕ) → (look_for label ms k).room ≡ ltb (length (of_label label ms)) k
unfolding look_for
room_for label [] k = refl
room_for label (m ∷ ms) zero = sym (le-ltb (length (of_label label (m ∷ ms))) 0 (omega arith))
room_for label (m ∷ ms) (suc k) =
    split (eqb m.label label)
    (λ e. rw (e, leb-suc-suc) (room_for label ms k))
    (λ e. rw e (room_for label ms (suc k)))

pub room_is_the_send_rules : RoomIsTheSendRules
room_is_the_send_rules label mailbox = room_for label mailbox 4

none_behind : (label : ℕ) (ms others : List Message) (k : ℕ) → (look_for label ms k).room ≡ false
    → look_for label (take (look_for label ms k).looked ms ++ others) k ≡ look_for label ms k
unfolding look_for
none_behind label [] others zero full = look_met label others ∙ sym (look_met label [])
none_behind label [] others (suc k) full = absurd (true≢false (sym (lt-ltb 0 (suc k) (omega arith)) ∙ full))
none_behind label (m ∷ ms) others zero full = look_met label others
none_behind label (m ∷ ms) others (suc k) full = ap one_more (none_behind label ms others (cond (eqb m.label label) k (suc k)) full)

pub none_behind_the_fourth : NoneBehindTheFourth
none_behind_the_fourth label mailbox others full = none_behind label mailbox others 4 full

up_to : (label : ℕ) (ahead : List Message) (last : Message) (behind : List Message) (k : ℕ) → length (of_label label ahead) ≡ k → last.label ≡ label
    → (look_for label (ahead ++ (last ∷ behind)) (suc k)).looked ≡ suc (length ahead)
unfolding look_for
up_to label [] last behind k few its = let none : k ≡ 0 = sym few in rw (eq-eqb last.label label its, none, look_met label behind)
up_to label (m ∷ ahead) last behind k few its =
    split (eqb m.label label)
    (λ e. let one : k ≡ suc (length (of_label label ahead)) = sym (rw e at few) in rw (e, one) (ap suc (up_to label ahead last behind (length (of_label label ahead)) refl its)))
    (λ e. rw e (ap suc (up_to label ahead last behind k (rw e at few) its)))

-- the same message, with one more ahead of it
nth_more : (label : ℕ) (m : Message) (ms : List Message) (k : ℕ) → Nth k label ms → Nth (cond (eqb m.label label) (suc k) k) label (m ∷ ms)
nth_more label m ms k p =
    record {
      ahead = m ∷ p.ahead;
      here = p.here;
      behind = p.behind;
      whole = ap (λ (xs : List Message). m ∷ xs) p.whole;
      count = split (eqb m.label label) (λ e. rw e (ap suc p.count)) (λ e. rw e p.count);
      of_the_label = p.of_the_label;
    }

-- where there are more than k, there is one behind k of them
nth_next : (label : ℕ) (m : Message) (ms : List Message) → ((k : ℕ) → k < length (of_label label ms) → Nth (suc k) label ms)
    → (k : ℕ) → k < length (of_label label (m ∷ ms)) → Nth (suc k) label (m ∷ ms)
nth_next label m ms rest zero more =
    split (eqb m.label label)
    (λ e. record { ahead = []; here = m; behind = ms; whole = refl; count = refl; of_the_label = eqb-true m.label label e })
    (λ e. rw e at (nth_more label m ms 1 (rest zero (rw e at more))))
nth_next label m ms rest (suc k) more =
    split (eqb m.label label)
    (λ e. rw e at (nth_more label m ms (suc k) (rest k (fewer (rw e at more)))))
    (λ e. rw e at (nth_more label m ms (suc (suc k)) (rest (suc k) (rw e at more))))
  where
    fewer : {n : ℕ} → suc k < suc n → k < n
    fewer h = omega arith

nth_of : (label : ℕ) (ms : List Message) (k : ℕ) → k < length (of_label label ms) → Nth (suc k) label ms
nth_of label [] k more = absurd (not-suc-le-zero more)
nth_of label (m ∷ ms) k more = nth_next label m ms (nth_of label ms) k more

all_for : (label : ℕ) (ms : List Message) (k : ℕ) → (look_for label ms k).room ≡ true → (look_for label ms k).looked ≡ length ms
unfolding look_for
all_for label [] k room = refl
all_for label (m ∷ ms) zero room = absurd (true≢false (sym room))
all_for label (m ∷ ms) (suc k) room = ap suc (all_for label ms (cond (eqb m.label label) k (suc k)) room)

three : {n : ℕ} → suc n ≡ 4 → n ≡ 3
three e = omega arith

pub tells_how_many : TellsHowMany
tells_how_many = record {
  up_to_fourth = λ label mailbox f. rw f.whole (up_to label f.ahead f.here f.behind 3 (three f.count) f.of_the_label);
  fourth = λ label mailbox full. nth_of label mailbox 3 (ltb-false (length (of_label label mailbox)) 4 full);
  whole_mailbox = λ label mailbox room. all_for label mailbox 4 (room_for label mailbox 4 ∙ room);
}
