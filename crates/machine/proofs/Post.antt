-- Laws of posts: what an observer sees of one, and when it is delivered.
use Prim.Native.Nat.{ℕ}
use mathlib.Core.Path.{◌≡◌, refl}
use mathlib.Core.Bool.{Bool, true, false, ◌&&◌}
use mathlib.Core.List.{List}
use native.Mathlib.Decide.{dec_lt}
use native.Mathlib.Omega.{arith}
use borrow.Author.Tests.{lt-ltb, le-ltb}
use lib.Dec.{ltb}
use lib.ListN.{length, set, length-append, length-set, get_or-map, get_or-eq_default}
use lib.Seq.{map-set_same, get_or-set_same}
use Rattle.wire.proofs.Lists.{split, map_set}
use Rattle.machine.specs.declared.Message.{Message}
use Rattle.machine.specs.State.{Slot, unused, used, State, slot_at, is_live, has_live_task}
use Rattle.machine.specs.Effect.{deliver}
use Rattle.machine.specs.Turn.{has_room, enqueue, perform}
use Rattle.machine.specs.Post.{host_message, post, mail_of, has_more}
use Rattle.machine.specs.View.{view_slot, view_by}
use Rattle.machine.proofs.View.{enqueue_shown, enqueue_hidden}

-- ---- what an observer sees

module _ (sees : ℕ → Bool) (j label value : ℕ) where
  -- a post that is seen does to the view what it does to the whole
  pub post_shown : sees label ≡ true → (s : State) → view_by sees (post j label value s) ≡ post j label value (view_by sees s)
  unfolding post view_by
  post_shown h s =
      rw (map_set, get_or-map (view_slot sees) s.slots j unused, enqueue_shown sees (host_message label value) h (slot_at s.slots j))

  -- one that is hidden changes no view
  pub post_hidden : sees label ≡ false → (s : State) → view_by sees (post j label value s) ≡ view_by sees s
  unfolding post view_by
  post_hidden h s =
      let x = slot_at s.slots j in
      let m = host_message label value in
      rw (map-set_same (view_slot sees) s.slots j (enqueue m x) unused (enqueue_hidden sees m x h))

-- ---- what is delivered

-- a live task with room for it has one message more
enqueue_more : (m : Message) (x : Slot)
    → ltb (length (mail_of x)) (length (mail_of (enqueue m x))) ≡ (has_live_task x && has_room m.label (mail_of x))
enqueue_more m unused = refl
enqueue_more m (used t) =
    split (is_live t && has_room m.label t.mailbox)
    (λ b. rw (b, length-append) (lt-ltb (length t.mailbox) _ (omega arith)))
    (λ b. rw b (le-ltb (length t.mailbox) (length t.mailbox) (omega arith)))

-- a message reaches a live task with room for it, and no other slot
pub deliver_more : (m : Message) (ss : List Slot) (j : ℕ)
    → has_more j ss (perform (deliver j m) ss) ≡ (has_live_task (slot_at ss j) && has_room m.label (mail_of (slot_at ss j)))
deliver_more m ss j =
    let x = slot_at ss j in
    elim (dec_lt j (length ss)) [
      | yes h ↦ rw (get_or-set_same ss j (enqueue m x) unused h) (enqueue_more m x)
      | no h ↦
          let before = get_or-eq_default ss unused {n = j} (omega arith) in
          let after = get_or-eq_default (set ss j (enqueue m x)) unused {n = j} (simp length-set (omega arith)) in
          rw (after, before)
    ]
