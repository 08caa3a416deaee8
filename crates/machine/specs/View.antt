-- Views: an observer is the set of the labels that it sees.
use Rattle.std.specs.Prelude.{ℕ, Bool, cond, map}
use Rattle.wire.specs.Lists.{keep}
use Rattle.machine.specs.State.{Task, Slot, unused, used, State, with_slots, with_mailbox}

module _ (sees : ℕ → Bool) where
  -- messages whose labels the observer does not see are left out
  abbrev pub view_task : Task → Task
  view_task t = with_mailbox (keep (λ m. sees m.label) t.mailbox) t

  -- a task whose label the observer does not see is written as unused
  abbrev pub view_slot : Slot → Slot
  view_slot unused = unused
  view_slot (used t) = cond (sees t.label) (used (view_task t)) unused

  unfoldable pub view_by : State → State
  view_by state = with_slots (map view_slot state.slots) state
