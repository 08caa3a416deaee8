-- `snapshot::mail_shown` meets its contract: what is receivable at the observer's label is what the observer sees.
use Rattle.label.specs.Label.{flows}
use Rattle.machine.proofs.Search.{find_shown}
use Rattle.table.specs.Table.{slots_in}
use Rattle.table.specs.Change.{task_at}
use Rattle.search.proofs.Read.{receivable_most}
use Rattle.snapshot.proofs.mail_shown.Goals as goal

pub returns : goal.returns
returns c =
    let a = c.args in
    rw c.find.ensures
    (find_shown flows a.observer (task_at (slots_in a.table.now) a.slot.number), receivable_most a.table.now a.slot.number c.requires a.observer)

pub find-requires : goal.find-requires
find-requires c = c.requires
