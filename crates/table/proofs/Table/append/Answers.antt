-- `table::Table::append` meets its contract: the message is written behind the last, and counted.
use native.Mathlib.Omega.{arith}
use Rattle.table.proofs.Slots.{used_slot, mailbox_read}
use Rattle.table.proofs.Mailbox.{append_slots}
use Rattle.table.proofs.Table.append.Goals as goal

pub returns : goal.returns
returns c =
    let n = c.word-n in
    let a = c.args in
    append_slots a.self.now.words a.slot.number c.requires.0 n.result a.message c.write_message.new.self.words c.put.new.self.words
    n.ensures c.requires.1 c.write_message.ensures c.put.ensures

pub write_message-requires : goal.write_message-requires
write_message-requires c = omega (arith, used_slot _ _ c.requires.0, c.requires.1, c.word-n.ensures, mailbox_read c.args.self.now.words c.args.slot.number c.requires.0)

pub overflow_add-n : goal.overflow_add-n
overflow_add-n c = omega (arith, c.requires.1, c.word-n.ensures, mailbox_read c.args.self.now.words c.args.slot.number c.requires.0)
