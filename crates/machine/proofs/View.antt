-- Laws of views: a view of a view, the view of one who sees everything, and what a message and an outcome show.
use Prim.Native.Nat.{ℕ, suc}
use mathlib.Core.Path.{◌≡◌, refl, sym, ap, ◌∙◌}
use mathlib.Core.Bool.{Bool, true, false, ◌&&◌, and_comm}
use mathlib.Core.List.{List, [], ◌∷◌, map, map-map, append-nil}
use borrow.Author.Tests.{eqb-true}
use lib.Dec.{eqb}
use lib.ListN.{get_or-map}
use Rattle.wire.specs.Lists.{Every, keep}
use Rattle.wire.proofs.Lists.{split, map_set, map_absorb, keep_append, keep_keep, keep_and, keep_all}
use Rattle.machine.specs.declared.Message.{Message}
use Rattle.machine.specs.State.{Task, Slot, unused, used, State, slot_at}
use Rattle.machine.specs.Effect.{Action, no_action, deliver, spawn, Outcome}
use Rattle.machine.specs.Turn.{has_room, enqueue, perform, applied}
use Rattle.machine.specs.View.{view_task, view_slot, view_by}
use Rattle.machine.proofs.Effect.{view_outcome}

module _ (sees : ℕ → Bool) where
  mailbox_twice : (ms : List Message) → keep (λ m. sees m.label) (keep (λ m. sees m.label) ms) ≡ keep (λ m. sees m.label) ms
  mailbox_twice ms = keep_keep (λ m. sees m.label) (λ m. sees m.label) (λ m h. h) ms

  slot_twice : (x : Slot) → view_slot sees (view_slot sees x) ≡ view_slot sees x
  slot_twice unused = refl
  slot_twice (used t) = split (sees t.label) (λ e. rw (e, e, mailbox_twice)) (λ e. rw e)

  pub slots_twice : (ss : List Slot) → map (view_slot sees) (map (view_slot sees) ss) ≡ map (view_slot sees) ss
  slots_twice = map_absorb (view_slot sees) (view_slot sees) slot_twice

  -- a view of its own view is that view
  pub view_twice : (s : State) → view_by sees (view_by sees s) ≡ view_by sees s
  unfolding view_by
  view_twice s = rw (slots_twice s.slots)

  pub slot_hidden : (t : Task) → sees t.label ≡ false → view_slot sees (used t) ≡ unused
  slot_hidden t e = rw e

  -- ---- what arrives

  -- a message that is hidden changes no view
  pub enqueue_hidden : (m : Message) (x : Slot) → sees m.label ≡ false → view_slot sees (enqueue m x) ≡ view_slot sees x
  enqueue_hidden m unused h = refl
  enqueue_hidden m (used t) h =
      split (eqb t.kind 1 && has_room m.label t.mailbox) (λ b. rw (b, keep_append, h, append-nil)) (λ b. rw b)

  module _ (m : Message) (shown : sees m.label ≡ true) where
    same_label : (a : Message) → eqb a.label m.label ≡ true → sees a.label ≡ true
    same_label a e = rw (eqb-true a.label m.label e) shown

    -- hidden messages take up none of its room
    room_seen : (ms : List Message) → has_room m.label (keep (λ a. sees a.label) ms) ≡ has_room m.label ms
    room_seen ms = rw (keep_keep (λ a. eqb a.label m.label) (λ a. sees a.label) same_label)

    -- what is seen arrives in the view as it does in the whole
    pub enqueue_shown : (x : Slot) → view_slot sees (enqueue m x) ≡ enqueue m (view_slot sees x)
    enqueue_shown unused = refl
    enqueue_shown (used t) =
        split (sees t.label)
        (λ e. split (eqb t.kind 1 && has_room m.label t.mailbox) (λ b. rw (b, e, room_seen, b, keep_append, shown)) (λ b. rw (b, e, room_seen, b)))
        (λ e. split (eqb t.kind 1 && has_room m.label t.mailbox) (λ b. rw (b, e)) (λ b. rw (b, e)))

  -- the view of what arrives is that of what arrives in the view
  enqueue_view : (m : Message) (x : Slot) → view_slot sees (enqueue m (view_slot sees x)) ≡ view_slot sees (enqueue m x)
  enqueue_view m x =
      split (sees m.label)
      (λ e. enqueue_shown m e (view_slot sees x) ∙ ap (enqueue m) (slot_twice x) ∙ sym (enqueue_shown m e x))
      (λ e. enqueue_hidden m (view_slot sees x) e ∙ slot_twice x ∙ sym (enqueue_hidden m x e))

  -- ---- all slots

  pub perform_view : (a : Action) (ss : List Slot) → map (view_slot sees) (perform a (map (view_slot sees) ss)) ≡ map (view_slot sees) (perform a ss)
  perform_view no_action ss = slots_twice ss
  perform_view (deliver j m) ss = rw (map_set, map_set, slots_twice ss, get_or-map (view_slot sees) ss j unused, enqueue_view)
  perform_view (spawn j c) ss = rw (map_set, map_set, slots_twice ss)

  perform_same : (a : Action) (ss ss' : List Slot) → map (view_slot sees) ss ≡ map (view_slot sees) ss'
      → map (view_slot sees) (perform a ss) ≡ map (view_slot sees) (perform a ss')
  perform_same a ss ss' e = sym (perform_view a ss) ∙ rw e (perform_view a ss')

  task_twice : (t : Task) → view_slot sees (used (view_task sees t)) ≡ view_slot sees (used t)
  task_twice t = rw mailbox_twice

  -- an outcome without its task's hidden messages changes the view as it does with them
  pub applied_view : (s : ℕ) (o : Outcome) (ss : List Slot)
      → map (view_slot sees) (applied s (view_outcome sees o) (map (view_slot sees) ss)) ≡ map (view_slot sees) (applied s o ss)
  applied_view s o ss = perform_same o.action _ _ (rw (map_set, map_set, slots_twice ss, task_twice))

-- ---- two observers

slot_both : (p q : ℕ → Bool) (x : Slot) → view_slot p (view_slot q x) ≡ view_slot (λ l. q l && p l) x
slot_both p q unused = refl
slot_both p q (used t) = split (q t.label) (λ e. rw (e, keep_and)) (λ e. rw e)

-- a view of a view is the view for the labels that both see
pub view_view : (p q : ℕ → Bool) (s : State) → view_by p (view_by q s) ≡ view_by (λ l. q l && p l) s
unfolding view_by
view_view p q s = simp (map-map, slot_both)

-- so the order of two views is no matter
pub view_either : (p q : ℕ → Bool) (s : State) → view_by p (view_by q s) ≡ view_by q (view_by p s)
view_either p q s = view_view p q s ∙ (λ i. view_by (λ l. and_comm (q l) (p l) i) s) ∙ sym (view_view q p s)

-- ---- one who sees everything

abbrev pub AllSeen : (ℕ → Bool) → Slot → Type 0
AllSeen sees unused = Unit {0}
AllSeen sees (used t) = (sees t.label ≡ true) × Every (λ m. sees m.label ≡ true) t.mailbox

slot_all : (sees : ℕ → Bool) (x : Slot) → AllSeen sees x → view_slot sees x ≡ x
slot_all sees unused h = refl
slot_all sees (used t) h = rw (h.0, keep_all (λ m. sees m.label) t.mailbox h.1)

slots_all : (sees : ℕ → Bool) (ss : List Slot) → ((i : ℕ) → AllSeen sees (slot_at ss i)) → map (view_slot sees) ss ≡ ss
slots_all sees [] h = refl
slots_all sees (x ∷ ss) h = rw (slot_all sees x (h 0), slots_all sees ss (λ i. h (suc i)))

pub view_all : (sees : ℕ → Bool) (s : State) → ((i : ℕ) → AllSeen sees (slot_at s.slots i)) → view_by sees s ≡ s
unfolding view_by
view_all sees s h = rw (slots_all sees s.slots h)
