-- `search::look` meets its contract: from the oldest of the label to the fourth, which tells.
use Rattle.table.specs.Table.{slots_in}
use Rattle.table.specs.Change.{task_at}
use Rattle.search.proofs.Counting.{Going}
use Rattle.search.proofs.look.Given as goal

abbrev pub invariant-loop-nth : goal.invariant-loop-nth
invariant-loop-nth l = Going l.label (task_at (slots_in l.table) l.fn.slot.number).mailbox l.n l.left l._nth
