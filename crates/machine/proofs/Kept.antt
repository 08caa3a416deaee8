-- What turns keep: version and program; a fact of each slot by itself; a used slot is never handed back, and a task that has stopped
-- stays as it is.
use Prim.Native.Nat.{ℕ, zero, suc, ◌≤◌}
use mathlib.Core.Path.{◌≡◌, refl, ap}
use mathlib.Core.Bool.{Bool, true, false, ◌&&◌}
use mathlib.Core.List.{List}
use native.Mathlib.Omega.{arith}
use lib.ListN.{set}
use Rattle.wire.proofs.Lists.{split, get_d_set_at}
use Rattle.label.proofs.Order.{Order}
use Rattle.machine.specs.declared.Message.{Message}
use Rattle.machine.specs.State.{Task, Slot, unused, used, State, slot_at, is_live, is_unused}
use Rattle.machine.specs.Effect.{Action, no_action, deliver, spawn, Outcome, outcome}
use Rattle.machine.specs.Turn.{has_room, enqueue, perform, applied, step, turn_by, turns_by, busy_by}
use Rattle.machine.specs.Post.{host_message, post}
use Rattle.machine.specs.Valid.{Valid}
use Rattle.machine.proofs.Effect.{Allowed, Contained, outcome_contained}
use Rattle.machine.proofs.Spare.{Spares, spawn_unused}
use Rattle.machine.proofs.Valid.{valid_spares, with_version, turns_valid}

-- ---- version and program

module _ (may_flow : ℕ → ℕ → Bool) (joined : ℕ → ℕ → ℕ) where
  pub turns_version : (n : ℕ) (state : State) → (turns_by may_flow joined n state).version ≡ state.version
  unfolding turns_by turn_by
  turns_version zero state = refl
  turns_version (suc n) state = turns_version n state

  -- turns look at no version
  turns_as : (v n : ℕ) (state : State) → turns_by may_flow joined n (with_version v state) ≡ with_version v (turns_by may_flow joined n state)
  unfolding turns_by turn_by
  turns_as v zero state = refl
  turns_as v (suc n) state = rw (turns_as v n state)

  pub turns_slots_as : (v n : ℕ) (state : State) → (turns_by may_flow joined n (with_version v state)).slots ≡ (turns_by may_flow joined n state).slots
  turns_slots_as v n state = rw (turns_as v n state)

  pub turns_slot_as : (v n : ℕ) (state : State) → (turns_by may_flow joined n (with_version v state)).turn_slot ≡ (turns_by may_flow joined n state).turn_slot
  turns_slot_as v n state = rw (turns_as v n state)

  pub busy_as : (v n : ℕ) (state : State) → busy_by may_flow joined n (with_version v state) ≡ busy_by may_flow joined n state
  unfolding busy_by
  busy_as v zero state = refl
  busy_as v (suc n) state = rw (busy_as v n state, turns_as v n state)

  pub turns_program : (n : ℕ) (state : State) → (turns_by may_flow joined n state).program ≡ state.program
  unfolding turns_by turn_by
  turns_program zero state = refl
  turns_program (suc n) state = turns_program n state

-- ---- a fact of each slot by itself

-- a fact P that an unused slot has, that a task keeps whose clearance stays and whose spare does not grow, and that a child has from its
-- parent
module _ (may_flow : ℕ → ℕ → Bool) (joined : ℕ → ℕ → ℕ) (order : Order may_flow joined) (P : ℕ → Slot → Type 0) (none : (s : ℕ) → P s unused)
    (own : (s : ℕ) (t t' : Task) → t.clearance ≡ t'.clearance → t'.spare ≤ t.spare → P s (used t) → P s (used t'))
    (child : (s : ℕ) (t t' : Task) (j : ℕ) (c : Task) → Allowed may_flow s t t' (spawn j c) → P s (used t) → P j (used c)) where
  abbrev pub All : List Slot → Type 0
  All ss = (s : ℕ) → P s (slot_at ss s)

  set_keeps : (ss : List Slot) (i : ℕ) (y : Slot) → All ss → P i y → All (set ss i y)
  set_keeps ss i y ok h s = get_d_set_at (P s) ss i s y unused (λ e. rw e h) (ok s)

  enqueue_keeps : (s : ℕ) (m : Message) (x : Slot) → P s x → P s (enqueue m x)
  enqueue_keeps s m unused h = h
  enqueue_keeps s m (used t) h = split (is_live t && has_room m.label t.mailbox) (λ b. rw b (own s t _ refl (omega arith) h)) (λ b. rw b h)

  deliver_keeps : (j : ℕ) (m : Message) (ss : List Slot) → All ss → All (perform (deliver j m) ss)
  deliver_keeps j m ss ok = set_keeps ss j (enqueue m (slot_at ss j)) ok (enqueue_keeps j m (slot_at ss j) (ok j))

  -- the task t in slot i becomes t' and acts
  perform_keeps : (ss : List Slot) (i : ℕ) (t t' : Task) (a : Action) → Allowed may_flow i t t' a → t.clearance ≡ t'.clearance → P i (used t)
      → All ss → All (perform a (set ss i (used t')))
  perform_keeps ss i t t' no_action h e p ok = set_keeps ss i (used t') ok (own i t t' e (omega arith) p)
  perform_keeps ss i t t' (deliver j m) h e p ok = deliver_keeps j m (set ss i (used t')) (set_keeps ss i (used t') ok (own i t t' e (omega (arith, h.0)) p))
  perform_keeps ss i t t' (spawn j c) h e p ok =
      set_keeps (set ss i (used t')) j (used c) (set_keeps ss i (used t') ok (own i t t' e (omega (arith, h.1)) p)) (child i t t' j c h p)

  step_keeps : (program : List ℕ) (s : ℕ) (ss : List Slot) → All ss → (x : Slot) → slot_at ss s ≡ x → All (step may_flow joined program s ss x)
  step_keeps program s ss ok unused at = ok
  step_keeps program s ss ok (used t) at =
      let o = outcome may_flow joined program s t in
      let contained = outcome_contained may_flow joined order s t program in
      split (is_live t) (λ e. rw e (perform_keeps ss s t o.task o.action contained.allowed contained.cleared (rw at at (ok s)) ok)) (λ e. rw e ok)

  pub turns_keep : (n : ℕ) (state : State) → All state.slots → All (turns_by may_flow joined n state).slots
  unfolding turns_by turn_by
  turns_keep zero state ok = ok
  turns_keep (suc n) state ok =
      let before = turns_by may_flow joined n state in
      step_keeps before.program before.turn_slot before.slots (turns_keep n state ok) (slot_at before.slots before.turn_slot) refl

  pub post_keeps : (j label value : ℕ) (state : State) → All state.slots → All (post j label value state).slots
  unfolding post
  post_keeps j label value state = deliver_keeps j (host_message label value) state.slots

-- ---- slots

set_unused : (ss : List Slot) (i : ℕ) (y : Slot) → (is_unused y ≡ true → is_unused (slot_at ss i) ≡ true)
    → (k : ℕ) → is_unused (slot_at (set ss i y) k) ≡ true → is_unused (slot_at ss k) ≡ true
set_unused ss i y h k = get_d_set_at (λ (x : Slot). is_unused x ≡ true → is_unused (slot_at ss k) ≡ true) ss i k y unused (λ e. rw e h) (λ z. z)

enqueue_unused : (m : Message) (x : Slot) → is_unused (enqueue m x) ≡ true → is_unused x ≡ true
enqueue_unused m unused z = refl
enqueue_unused m (used t) z = split (is_live t && has_room m.label t.mailbox) (λ e. rw e at z) (λ e. rw e at z)

perform_unused : (a : Action) (ss : List Slot) (k : ℕ) → is_unused (slot_at (perform a ss) k) ≡ true → is_unused (slot_at ss k) ≡ true
perform_unused no_action ss k z = z
perform_unused (deliver j m) ss k z = set_unused ss j (enqueue m (slot_at ss j)) (enqueue_unused m (slot_at ss j)) k z
perform_unused (spawn j c) ss k z = set_unused ss j (used c) (λ e. cc) k z

module _ (may_flow : ℕ → ℕ → Bool) (joined : ℕ → ℕ → ℕ) where
  step_unused : (program : List ℕ) (s : ℕ) (ss : List Slot) (x : Slot) (k : ℕ)
      → is_unused (slot_at (step may_flow joined program s ss x) k) ≡ true → is_unused (slot_at ss k) ≡ true
  step_unused program s ss unused k z = z
  step_unused program s ss (used t) k z =
      let o = outcome may_flow joined program s t in
      split (is_live t)
      (λ e. set_unused ss s (used o.task) (λ f. cc) k (perform_unused o.action (set ss s (used o.task)) k (rw e at z)))
      (λ e. rw e at z)

  -- a slot that is unused after turns was unused before
  pub turns_unused : (n : ℕ) (state : State) (k : ℕ) → is_unused (slot_at (turns_by may_flow joined n state).slots k) ≡ true → is_unused (slot_at state.slots k) ≡ true
  unfolding turns_by turn_by
  turns_unused zero state k z = z
  turns_unused (suc n) state k z =
      let before = turns_by may_flow joined n state in
      turns_unused n state k (step_unused before.program before.turn_slot before.slots (slot_at before.slots before.turn_slot) k z)

-- ---- stopped tasks

-- a store that puts back what slot i has, or stores elsewhere
set_kept : (ss : List Slot) (j : ℕ) (y : Slot) (i : ℕ) (x : Slot) → slot_at ss i ≡ x → (i ≡ j → y ≡ x) → slot_at (set ss j y) i ≡ x
set_kept ss j y i x at h = get_d_set_at (λ (z : Slot). z ≡ x) ss j i y unused h at

module _ (may_flow : ℕ → ℕ → Bool) (joined : ℕ → ℕ → ℕ) where
  -- a task t in slot s of the slots ss, and a stopped one in slot i
  module _ (ss : List Slot) (ok : Spares ss) (s : ℕ) (t : Task) (at : slot_at ss s ≡ used t)
      (i : ℕ) (x : Task) (there : slot_at ss i ≡ used x) (stopped : is_live x ≡ false) where
    enqueue_stopped : (m : Message) → enqueue m (used x) ≡ used x
    enqueue_stopped m = rw stopped

    -- what t does leaves it: it takes no message, and a child's slot was unused
    perform_stopped : (t' : Task) (a : Action) → Allowed may_flow s t t' a → slot_at (set ss s (used t')) i ≡ used x
        → slot_at (perform a (set ss s (used t'))) i ≡ used x
    perform_stopped t' no_action h e = e
    perform_stopped t' (deliver j m) h e =
        let rs = set ss s (used t') in
        set_kept rs j (enqueue m (slot_at rs j)) i (used x) e (λ q. rw (← q, e) (enqueue_stopped m))
    perform_stopped t' (spawn j c) h e =
        set_kept (set ss s (used t')) j (used c) i (used x) e
        (λ q. let z : ◌≡◌ {A = ℕ} 0 1 = cc (spawn_unused ss ok s t at may_flow t' j c h) in absurd (omega arith))

    applied_stopped : is_live t ≡ true → (o : Outcome) → Contained may_flow s t o → slot_at (applied s o ss) i ≡ used x
    applied_stopped live o h =
        perform_stopped o.task o.action h.allowed
        (set_kept ss s (used o.task) i (used x) there (λ q. let z : t ≡ x = cc in cc (ap is_live z)))

module _ (may_flow : ℕ → ℕ → Bool) (joined : ℕ → ℕ → ℕ) (order : Order may_flow joined) where
  step_stopped : (program : List ℕ) (s : ℕ) (ss : List Slot) → Spares ss → (y : Slot) → slot_at ss s ≡ y
      → (i : ℕ) (x : Task) → slot_at ss i ≡ used x → is_live x ≡ false → slot_at (step may_flow joined program s ss y) i ≡ used x
  step_stopped program s ss ok unused at i x there stopped = there
  step_stopped program s ss ok (used t) at i x there stopped =
      split (is_live t)
      (λ e. rw e (applied_stopped may_flow joined ss ok s t at i x there stopped e (outcome may_flow joined program s t) (outcome_contained may_flow joined order s t program)))
      (λ e. rw e there)

  -- a task that has stopped is the same after any turns
  pub turns_stopped : (n : ℕ) (state : State) → Valid state → (i : ℕ) (x : Task) → slot_at state.slots i ≡ used x → is_live x ≡ false
      → slot_at (turns_by may_flow joined n state).slots i ≡ used x
  unfolding turns_by turn_by
  turns_stopped zero state ok i x there stopped = there
  turns_stopped (suc n) state ok i x there stopped =
      let before = turns_by may_flow joined n state in
      step_stopped before.program before.turn_slot before.slots (valid_spares before (turns_valid may_flow joined order n state ok))
      (slot_at before.slots before.turn_slot) refl i x (turns_stopped n state ok i x there stopped) stopped
