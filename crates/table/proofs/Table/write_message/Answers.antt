-- `table::Table::write_message` meets its contract: the message's word in the ring, and its label in the planes.
use native.Mathlib.Omega.{arith}
use Rattle.table.specs.Table.{window}
use Rattle.table.specs.Words.{With}
use Rattle.table.proofs.Window.{changed_then}
use Rattle.table.proofs.Planes.{message_with}
use Rattle.table.proofs.Table.write_message.Goals as goal

pub returns : goal.returns
returns c =
    let a = c.args in
    changed_then (With a.n a.message) c.put_mail.ensures c.mark.ensures
    (message_with a.n a.message (window a.self.now.words a.slot.number) (window c.put_mail.new.self.words a.slot.number) (window c.mark.new.self.words a.slot.number) (omega arith) (omega arith) (omega arith) (omega arith))
