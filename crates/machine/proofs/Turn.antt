-- The law that carries secrecy: the view of a turn is the view of what the view itself becomes, for one turn and for n; and
-- turns one after another.
use Prim.Native.Nat.{ℕ, zero, suc, ◌+◌, ◌≤◌}
use mathlib.Core.Path.{◌≡◌, refl, sym, ◌∙◌}
use mathlib.Core.Bool.{Bool, true, false, cond}
use mathlib.Core.List.{List, map}
use native.Mathlib.Nat.{add-zero, add-suc}
use native.Mathlib.Numerals.{add-one}
use native.Mathlib.Omega.{arith}
use lib.Dec.{eqb}
use lib.ListN.{set, get_or-map}
use lib.Seq.{map-set_same, get_or-set_other}
use Rattle.wire.proofs.Lists.{split}
use Rattle.label.proofs.Order.{Order, DownClosed}
use Rattle.machine.specs.State.{Task, Slot, unused, used, State, slot_at, has_live_task}
use Rattle.machine.specs.Effect.{Action, no_action, deliver, spawn, Outcome, outcome}
use Rattle.machine.specs.Turn.{enqueue, perform, applied, current, step, turn_by, turns_by, busy_by}
use Rattle.machine.specs.View.{view_slot, view_by}
use Rattle.machine.specs.Valid.{Valid}
use Rattle.machine.proofs.Effect.{Allowed, Contained, outcome_view, outcome_contained}
use Rattle.machine.proofs.Spare.{Spares, spawn_unused}
use Rattle.machine.proofs.View.{slots_twice, view_twice, slot_hidden, enqueue_hidden, applied_view}
use Rattle.machine.proofs.Valid.{valid_spares, view_valid, turns_valid}

-- ---- a task that is hidden
module _ (may_flow : ℕ → ℕ → Bool) (sees : ℕ → Bool) (down : DownClosed may_flow sees) (s : ℕ) (t : Task) (hidden : sees t.label ≡ false)
    (ss : List Slot) (ok : Spares ss) (at : slot_at ss s ≡ used t) where
  -- what a hidden label flows to is hidden
  above : (l : ℕ) → may_flow t.label l ≡ true → sees l ≡ false
  above l h = split (sees l) (λ e. cc (down t.label l h e)) (λ e. e)

  perform_hidden : (t' : Task) (a : Action) → Allowed may_flow s t t' a
      → map (view_slot sees) (perform a (set ss s (used t'))) ≡ map (view_slot sees) (set ss s (used t'))
  perform_hidden t' no_action h = refl
  perform_hidden t' (deliver j m) h =
      let rs = set ss s (used t') in
      map-set_same (view_slot sees) rs j (enqueue m (slot_at rs j)) unused (enqueue_hidden sees m (slot_at rs j) (above m.label h.1))
  perform_hidden t' (spawn j c) h =
      let free : slot_at (set ss s (used t')) j ≡ unused
      = get_or-set_other ss s j (used t') unused (omega arith) ∙ spawn_unused ss ok s t at may_flow t' j c h in
      map-set_same (view_slot sees) (set ss s (used t')) j (used c) unused (rw free (slot_hidden sees c (above c.label h.2)))

  -- whatever it does, the view stays
  applied_hidden : (o : Outcome) → Contained may_flow s t o → map (view_slot sees) (applied s o ss) ≡ map (view_slot sees) ss
  applied_hidden o h =
      perform_hidden o.task o.action h.allowed
      ∙ map-set_same (view_slot sees) ss s (used o.task) unused (rw at (slot_hidden sees o.task (above o.task.label h.rises) ∙ sym (slot_hidden sees t hidden)))

module _ (may_flow : ℕ → ℕ → Bool) (joined : ℕ → ℕ → ℕ) (order : Order may_flow joined) where
  -- ---- one turn
  module _ (sees : ℕ → Bool) (down : DownClosed may_flow sees) where
    module _ (program : List ℕ) (s : ℕ) (ss : List Slot) (ok : Spares ss) where
      step_view : (x : Slot) → slot_at ss s ≡ x
          → map (view_slot sees) (step may_flow joined program s (map (view_slot sees) ss) (view_slot sees x)) ≡ map (view_slot sees) (step may_flow joined program s ss x)
      step_view unused at = slots_twice sees ss
      step_view (used t) at =
          split (sees t.label)
          (λ e. rw e
          (split (eqb t.kind 1)
          (λ k. rw (k, outcome_view may_flow joined order sees down t e program s) (applied_view sees s (outcome may_flow joined program s t) ss))
          (λ k. rw k (slots_twice sees ss))))
          (λ e. rw e
          (split (eqb t.kind 1)
          (λ k. rw k (slots_twice sees ss ∙ sym (applied_hidden may_flow sees down s t e ss ok at (outcome may_flow joined program s t) (outcome_contained may_flow joined order s t program))))
          (λ k. rw k (slots_twice sees ss))))

    pub turn_view : (s : State) → Valid s → view_by sees (turn_by may_flow joined (view_by sees s)) ≡ view_by sees (turn_by may_flow joined s)
    unfolding turn_by view_by
    turn_view s ok =
        let i = s.turn_slot in
        let x = slot_at s.slots i in
        let h : map (view_slot sees) (step may_flow joined s.program i (map (view_slot sees) s.slots) (slot_at (map (view_slot sees) s.slots) i))
        ≡ map (view_slot sees) (step may_flow joined s.program i s.slots x)
        = rw (get_or-map (view_slot sees) s.slots i unused) (step_view s.program i s.slots (valid_spares s ok) x refl) in
        rw h

    -- ---- n turns

    -- to run the view and view it again is to view what the whole has become
    pub turns_view : (n : ℕ) (s : State) → Valid s → view_by sees (turns_by may_flow joined n (view_by sees s)) ≡ view_by sees (turns_by may_flow joined n s)
    unfolding turns_by
    turns_view zero s ok = view_twice sees s
    turns_view (suc n) s ok =
        sym (turn_view (turns_by may_flow joined n (view_by sees s)) (turns_valid may_flow joined order n (view_by sees s) (view_valid sees s ok)))
        ∙ rw (turns_view n s ok) (turn_view (turns_by may_flow joined n s) (turns_valid may_flow joined order n s ok))

    -- equal views stay equal
    pub turns_same : (n : ℕ) (s t : State) → Valid s → Valid t → view_by sees s ≡ view_by sees t
        → view_by sees (turns_by may_flow joined n s) ≡ view_by sees (turns_by may_flow joined n t)
    turns_same n s t ok ok' e = sym (turns_view n s ok) ∙ rw e (turns_view n t ok')

-- ---- turns one after another, and their busy count

module _ (may_flow : ℕ → ℕ → Bool) (joined : ℕ → ℕ → ℕ) where
  pub turns_none : (s : State) → s ≡ turns_by may_flow joined 0 s
  unfolding turns_by
  turns_none s = refl

  pub turns_more : (n : ℕ) (s : State) → turns_by may_flow joined (n + 1) s ≡ turn_by may_flow joined (turns_by may_flow joined n s)
  unfolding turns_by
  turns_more n s = rw add-one

  pub turns_add : (m n : ℕ) (s : State) → turns_by may_flow joined (m + n) s ≡ turns_by may_flow joined n (turns_by may_flow joined m s)
  unfolding turns_by
  turns_add m zero s = rw add-zero
  turns_add m (suc n) s = rw (add-suc, turns_add m n s)

  pub busy_none : (s : State) → busy_by may_flow joined 0 s ≡ 0
  unfolding busy_by
  busy_none s = refl

  pub busy_more : (n : ℕ) (s : State) → busy_by may_flow joined (n + 1) s ≡ busy_by may_flow joined n s + cond (has_live_task (current (turns_by may_flow joined n s))) 1 0
  unfolding busy_by
  busy_more n s = rw add-one

  pub busy_add : (m n : ℕ) (s : State) → busy_by may_flow joined (m + n) s ≡ busy_by may_flow joined m s + busy_by may_flow joined n (turns_by may_flow joined m s)
  unfolding busy_by
  busy_add m zero s = rw add-zero (omega arith)
  busy_add m (suc n) s = rw (add-suc, busy_add m n s, turns_add m n s) (omega arith)

  pub busy_most : (n : ℕ) (s : State) → busy_by may_flow joined n s ≤ n
  unfolding busy_by
  busy_most zero s = omega arith
  busy_most (suc n) s =
      let ih = busy_most n s in
      split (has_live_task (current (turns_by may_flow joined n s))) (λ e. rw e (omega (arith, ih))) (λ e. rw e (omega (arith, ih)))
