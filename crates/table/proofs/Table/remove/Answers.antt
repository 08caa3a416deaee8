-- `table::Table::remove` meets its contract: the message goes, and the count is one less.
use Rattle.table.proofs.Mailbox.{remove_slots}
use Rattle.table.proofs.Table.remove.Goals as goal

pub returns : goal.returns
returns c =
    let n = c.mailbox_length-n in
    let a = c.args in
    remove_slots a.self.now.words c.drop_message.new.self.words c.put.new.self.words a.slot.number a.i n.result c.requires n.ensures.0 c.drop_message.ensures c.put.ensures
