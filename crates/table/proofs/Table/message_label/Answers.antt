-- `table::Table::message_label` meets its contract: its four bits.
use Rattle.planes.proofs.Labels.{label_four}
use Rattle.table.specs.Table.{window, plane_in, message_in}
use Rattle.table.proofs.Slots.{message_read}
use Rattle.table.proofs.Table.message_label.Goals as goal

pub returns : goal.returns
unfolding message_in
returns c =
    let a = c.args in
    rw (message_read a.self.now.words a.slot.number a.i c.requires, label_four (plane_in (window a.self.now.words a.slot.number)) a.i, c.label_bit-4.ensures.0, c.label_bit-3.ensures.0, c.label_bit-2.ensures.0, c.label_bit.ensures.0)
