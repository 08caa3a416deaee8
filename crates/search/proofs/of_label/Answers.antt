-- `search::of_label` meets its contract: of the 64, those that are there.
use lib.Dec.{eqb}
use Rattle.table.specs.Table.{message_in}
use Rattle.search.proofs.Read.{set_read}
use Rattle.search.proofs.of_label.Goals as goal

pub returns : goal.returns
unfolding message_in
returns c =
    let n = c.mailbox_length in
    let a = c.args in
    rw c.below.ensures
    (set_read a.table.now a.slot.number c.requires.0 (λ m. eqb m.label a.label) c.labelled.result n.result c.labelled.ensures n.ensures.0 n.ensures.1)
