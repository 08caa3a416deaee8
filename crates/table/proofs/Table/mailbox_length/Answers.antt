-- `table::Table::mailbox_length` meets its contract: its word, or 64 where that is more.
use native.Mathlib.Omega.{arith}
use Rattle.table.proofs.Slots.{mailbox_read}
use Rattle.table.proofs.Table.mailbox_length.Goals as goal

pub returns : goal.returns
returns c =
    let read = mailbox_read c.args.self.now.words c.args.slot.number c.requires in
    (omega arith, omega arith)
