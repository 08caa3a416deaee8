-- Turns: one task's outcome put into effect, the turn slot's successor, and the busy count.
use Rattle.std.specs.Prelude.{ℕ, zero, suc, ◌+◌, ◌%◌, Bool, cond, ◌&&◌, List, [], ◌∷◌, ◌++◌, eqb, ltb, length, set}
use Rattle.wire.specs.Lists.{keep}
use Rattle.machine.specs.Limits.{limit_per_label}
use Rattle.machine.specs.declared.Message.{Message}
use Rattle.machine.specs.State.{Slot, unused, used, State, slot_at, is_live, has_live_task, with_mailbox}
use Rattle.machine.specs.Effect.{Action, no_action, deliver, spawn, Outcome, outcome}

-- the messages of label l
abbrev pub of_label : ℕ → List Message → List Message
of_label l = keep (λ m. eqb m.label l)

-- fewer than four messages of label l
abbrev pub has_room : ℕ → List Message → Bool
has_room l ms = ltb (length (of_label l ms)) limit_per_label

-- the message joins the end of the mailbox of a live task that has room for it; in all other cases it is dropped
abbrev pub enqueue : Message → Slot → Slot
enqueue m unused = unused
enqueue m (used t) =
    cond (is_live t && has_room m.label t.mailbox) (used (with_mailbox (t.mailbox ++ (m ∷ [])) t)) (used t)

-- a number above 15 names no slot, and `set` changes nothing there
abbrev pub perform : Action → List Slot → List Slot
perform no_action ss = ss
perform (deliver j m) ss = set ss j (enqueue m (slot_at ss j))
perform (spawn j c) ss = set ss j (used c)

-- the slots once the task in slot s has come to the outcome o: its own change first, then its action
abbrev pub applied : ℕ → Outcome → List Slot → List Slot
applied s o ss = perform o.action (set ss s (used o.task))

-- 15 is followed by 0
abbrev pub successor : ℕ → ℕ
successor s = (s + 1) % 16

-- the slot whose turn it is
abbrev pub current : State → Slot
current state = slot_at state.slots state.turn_slot

-- ---- over any order of labels: `may_flow` says where a label flows, and `joined` is the join of two

module _ (may_flow : ℕ → ℕ → Bool) (joined : ℕ → ℕ → ℕ) where
  -- the slots after the turn of slot s; the last argument is what slot s holds
  abbrev pub step : List ℕ → ℕ → List Slot → Slot → List Slot
  step program s ss unused = ss
  step program s ss (used t) = cond (is_live t) (applied s (outcome may_flow joined program s t) ss) ss

  unfoldable pub turn_by : State → State
  turn_by state =
      record {
        version = state.version;
        program = state.program;
        turn_slot = successor state.turn_slot;
        slots = step state.program state.turn_slot state.slots (current state);
      }

  -- the state after n turns
  unfoldable pub turns_by : ℕ → State → State
  turns_by zero state = state
  turns_by (suc n) state = turn_by (turns_by n state)

  -- how many of n turns meet a live task
  unfoldable pub busy_by : ℕ → State → ℕ
  busy_by zero state = 0
  busy_by (suc n) state = busy_by n state + cond (has_live_task (current (turns_by n state))) 1 0
