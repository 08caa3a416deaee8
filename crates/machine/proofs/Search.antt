-- Laws of the search of a mailbox at a label: its index is that of a message exactly where one is receivable, no more are receivable
-- than wait, and those that are receivable at an observer's label are those that the observer sees.
use Prim.Native.Nat.{ℕ, ◌<◌, ◌≤◌}
use mathlib.Core.Path.{◌≡◌, refl}
use mathlib.Core.Bool.{Bool}
use mathlib.Core.List.{List}
use lib.ListN.{length}
use Rattle.wire.proofs.Lists.{keep_le, first_none, first_some}
use Rattle.machine.specs.declared.Message.{Message}
use Rattle.machine.specs.State.{Task}
use Rattle.machine.specs.Effect.{receivable, find}
use Rattle.machine.specs.View.{view_task}

module _ (may_flow : ℕ → ℕ → Bool) (l : ℕ) where
  module _ (ms : List Message) where
    pub find_some : (find may_flow l ms).oldest < length ms → 0 < (find may_flow l ms).receivable
    find_some = first_some (receivable may_flow l) ms

    pub find_none : length ms ≤ (find may_flow l ms).oldest → (find may_flow l ms).receivable ≡ 0
    find_none = first_none (receivable may_flow l) ms

    pub find_most : (find may_flow l ms).receivable ≤ length ms
    find_most = keep_le (receivable may_flow l) ms

  pub find_shown : (t : Task) → (find may_flow l t.mailbox).receivable ≡ length (view_task (λ k. may_flow k l) t).mailbox
  find_shown t = refl
