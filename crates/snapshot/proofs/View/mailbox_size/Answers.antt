-- `snapshot::View::mailbox_size` meets its contract: six bytes of each message that the observer sees.
use Prim.Native.Nat.{ℕ, ◌*◌}
use mathlib.Core.Path.{ap, ◌∙◌}
use native.Mathlib.Omega.{arith}
use Rattle.table.specs.Table.{slots_in}
use Rattle.table.specs.Change.{task_at}
use Rattle.snapshot.proofs.Writing.{mailbox_length}
use Rattle.snapshot.proofs.View.mailbox_size.Goals as goal

pub returns : goal.returns
returns c =
    let v = c.args.self.now in
    let a = c.args in
    (ap (λ (n : ℕ). 6 * n) c.mail_shown.ensures.0 ∙ mailbox_length v.observer (task_at (slots_in v.table.now) a.slot.number), omega arith)
