-- `table::Table::set_mail` meets its contract: the word of a message that is there.
use native.Mathlib.Omega.{arith}
use Rattle.table.proofs.Mailbox.{mail_slots}
use Rattle.table.proofs.Table.set_mail.Goals as goal

pub returns : goal.returns
returns c =
    let a = c.args in
    mail_slots a.self.now.words c.put_mail.new.self.words a.slot.number a.i a.sender a.value c.requires (omega arith) (omega arith) c.put_mail.ensures
