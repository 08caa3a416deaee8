-- Laws of one task's outcome. A task that an observer sees does the same with its hidden messages left out (`outcome_view`);
-- whatever a task does goes to labels that its own flows to, and to slots of its own spare, and its clearance stays (`outcome_contained`).
use Prim.Native.Nat.{ℕ, suc, ◌+◌, ◌≤◌}
use mathlib.Core.Path.{◌≡◌, refl}
use mathlib.Core.Bool.{Bool, true}
use mathlib.Core.List.{List}
use native.Mathlib.Omega.{arith}
use borrow.Author.Tests.{leb-true}
use lib.Dec.{leb, ltb, eqb}
use Rattle.std.specs.Prelude.{Option, Some, None}
use Rattle.wire.proofs.Lists.{split, keep_keep, first_keep, without_keep}
use Rattle.label.specs.Label.{is_subset}
use Rattle.label.proofs.Order.{Order, DownClosed}
use Rattle.instruction.specs.declared.Instruction.{Instruction}
use Rattle.instruction.specs.declared.Instruction.TheVariants.{End, Set, Copy, Add, Subtract, Go, Zero, Raise, Send, Take, Poll, Sandbox, Identity, Count}
use Rattle.instruction.specs.Program.{count, instruction_at}
use Rattle.instruction.proofs.Table.{Sound}
use Rattle.instruction.proofs.Program.{at_sound}
use Rattle.machine.specs.declared.Message.{Message}
use Rattle.machine.specs.State.{Task, with_pc, no_message, register}
use Rattle.machine.specs.Effect.{Action, no_action, deliver, spawn, Outcome, without_action, receives, receivable, found, taken, execute, carried_out, outcome}
use Rattle.machine.specs.View.{view_task}

-- the outcome with the hidden messages of its task left out
abbrev pub view_outcome : (ℕ → Bool) → Outcome → Outcome
view_outcome sees o = record { task = view_task sees o.task; action = o.action }

module _ (may_flow : ℕ → ℕ → Bool) where
  -- a task t in slot s may become t' and do this: send to labels that its own flows to, and split its spare for a child, which has its
  -- clearance
  abbrev pub Allowed : ℕ → Task → Task → Action → Type 0
  Allowed s t t' no_action = t.spare ≡ t'.spare
  Allowed s t t' (deliver j m) = (t.spare ≡ t'.spare) × (may_flow t.label m.label ≡ true)
  Allowed s t t' (spawn j c) =
      (suc (s + t'.spare) ≡ j) × (suc (t'.spare + c.spare) ≡ t.spare) × (may_flow t.label c.label ≡ true) × (t.clearance ≡ c.clearance)

  pub record Contained (s : ℕ) (t : Task) (o : Outcome) : Type 0 where
    pub rises : may_flow t.label o.task.label ≡ true
    pub cleared : t.clearance ≡ o.task.clearance
    pub allowed : Allowed s t o.task o.action

  module _ (joined : ℕ → ℕ → ℕ) (order : Order may_flow joined) where
    -- ---- a task that the observer sees
    module _ (sees : ℕ → Bool) (down : DownClosed may_flow sees) (t : Task) (seen : sees t.label ≡ true) where
      -- which messages the task may receive, and which the observer sees
      abbrev here : Message → Bool
      here = receivable may_flow t.label

      abbrev shown : Message → Bool
      shown m = sees m.label

      -- what the task may receive the observer sees
      receivable_seen : (m : Message) → here m ≡ true → shown m ≡ true
      receivable_seen m h = down m.label t.label h seen

      -- so as many are receivable, and the same one is the oldest
      count_view : (found may_flow (view_task sees t)).receivable ≡ (found may_flow t).receivable
      count_view = rw (keep_keep here shown receivable_seen)

      receives_view : (a b : ℕ) → receives a b (found may_flow (view_task sees t)).oldest (view_task sees t) ≡ view_task sees (receives a b (found may_flow t).oldest t)
      receives_view a b = rw (first_keep here shown receivable_seen no_message, without_keep here shown receivable_seen)

      taken_view : (a b : ℕ) (otherwise : Task) → taken may_flow a b (view_task sees otherwise) (view_task sees t) ≡ view_outcome sees (taken may_flow a b otherwise t)
      taken_view a b otherwise =
          rw (count_view, receives_view a b) (split (ltb 0 (found may_flow t).receivable) (λ e. rw e) (λ e. rw e))

      execute_view : (i : Instruction) (s : ℕ) → execute may_flow joined i s (view_task sees t) ≡ view_outcome sees (execute may_flow joined i s t)
      unfolding execute
      execute_view End s = refl
      execute_view (Set a b c) s = refl
      execute_view (Copy a b) s = refl
      execute_view (Add a b c) s = refl
      execute_view (Subtract a b c) s = refl
      execute_view (Go a) s = refl
      execute_view (Zero a b) s = split (eqb (register t a) 0) (λ e. rw e) (λ e. rw e)
      execute_view (Raise a) s = split (is_subset (joined t.label a) t.clearance) (λ e. rw e) (λ e. rw e)
      execute_view (Send a b c) s = split (may_flow t.label b) (λ e. rw e) (λ e. rw e)
      execute_view (Take a b) s = taken_view a b t
      execute_view (Poll a b c) s = taken_view a b (with_pc c t)
      execute_view (Sandbox a b c) s = split (leb c t.spare) (λ e. rw e) (λ e. rw e)
      execute_view (Identity a b) s = refl
      execute_view (Count a) s = rw count_view

      carried_out_view : (d : Option Instruction) (s : ℕ) → carried_out may_flow joined d s (view_task sees t) ≡ view_outcome sees (carried_out may_flow joined d s t)
      carried_out_view (Some i) s = execute_view i s
      carried_out_view None s = refl

      pub outcome_view : (program : List ℕ) (s : ℕ) → outcome may_flow joined program s (view_task sees t) ≡ view_outcome sees (outcome may_flow joined program s t)
      unfolding outcome
      outcome_view program s =
          split (eqb t.pc (count program)) (λ e. rw e) (λ e. rw e (carried_out_view (instruction_at program t.pc) s))

    -- ---- any task
    module _ (s : ℕ) (t : Task) where
      -- only the task itself changes, and neither its label, its clearance nor its spare
      without_action_contained : (t' : Task) → t.label ≡ t'.label → t.clearance ≡ t'.clearance → t.spare ≡ t'.spare → Contained s t (without_action t')
      without_action_contained t' l c k = record { rises = rw l (order.reflexive t'.label); cleared = c; allowed = omega arith }

      taken_contained : (a b : ℕ) (otherwise : Task) → Contained s t (without_action otherwise) → Contained s t (taken may_flow a b otherwise t)
      taken_contained a b otherwise h = split (ltb 0 (found may_flow t).receivable) (λ e. rw e (without_action_contained _ refl refl refl)) (λ e. rw e h)

      execute_contained : (n : ℕ) (i : Instruction) → Sound n i → Contained s t (execute may_flow joined i s t)
      unfolding execute
      execute_contained n End h = without_action_contained _ refl refl refl
      execute_contained n (Set a b c) h = without_action_contained _ refl refl refl
      execute_contained n (Copy a b) h = without_action_contained _ refl refl refl
      execute_contained n (Add a b c) h = without_action_contained _ refl refl refl
      execute_contained n (Subtract a b c) h = without_action_contained _ refl refl refl
      execute_contained n (Go a) h = without_action_contained _ refl refl refl
      execute_contained n (Zero a b) h =
          split (eqb (register t a) 0) (λ e. rw e (without_action_contained _ refl refl refl)) (λ e. rw e (without_action_contained _ refl refl refl))
      execute_contained n (Raise a) h =
          split (is_subset (joined t.label a) t.clearance)
          (λ e. rw e record { rises = order.join_above t.label a; cleared = refl; allowed = omega arith })
          (λ e. rw e (without_action_contained _ refl refl refl))
      execute_contained n (Send a b c) h =
          split (may_flow t.label b)
          (λ e. rw e record { rises = order.reflexive t.label; cleared = refl; allowed = (omega arith, e) })
          (λ e. rw e (without_action_contained _ refl refl refl))
      execute_contained n (Take a b) h = taken_contained a b t (without_action_contained _ refl refl refl)
      execute_contained n (Poll a b c) h = taken_contained a b (with_pc c t) (without_action_contained _ refl refl refl)
      execute_contained n (Sandbox a b c) h =
          split (leb c t.spare)
          (λ e. let fits : c ≤ t.spare = leb-true c t.spare e in
          rw e record { rises = order.reflexive t.label; cleared = refl; allowed = (omega arith, omega arith, order.reflexive t.label, refl) })
          (λ e. rw e (without_action_contained _ refl refl refl))
      execute_contained n (Identity a b) h = without_action_contained _ refl refl refl
      execute_contained n (Count a) h = without_action_contained _ refl refl refl

      carried_out_contained : (program : List ℕ) (d : Option Instruction) → instruction_at program t.pc ≡ d → Contained s t (carried_out may_flow joined d s t)
      carried_out_contained program (Some i) e = execute_contained (count program) i (at_sound program t.pc i e)
      carried_out_contained program None e = without_action_contained _ refl refl refl

      pub outcome_contained : (program : List ℕ) → Contained s t (outcome may_flow joined program s t)
      unfolding outcome
      outcome_contained program =
          split (eqb t.pc (count program))
          (λ e. rw e (without_action_contained _ refl refl refl))
          (λ e. rw e (carried_out_contained program (instruction_at program t.pc) refl))
