-- `loader::load_mailbox` meets its contract: the labels, and then the rest of each message.
use mathlib.Core.Path.{◌∙◌}
use native.Mathlib.Omega.{arith}
use Rattle.table.specs.Table.{window, slots_in}
use Rattle.loader.proofs.Loading.{mailbox_opened, mailbox_loaded}
use Rattle.loader.proofs.load_mailbox.Goals as goal

pub load_mail-requires : goal.load_mail-requires
load_mail-requires c =
    let a = c.args in
    omega (arith, mailbox_opened a.slot.number a.mailbox.now (window a.table.now.words a.slot.number) (slots_in a.table.now) (slots_in c.open_mailbox.new.self) ((rw c.label_planes.ensures at c.open_mailbox.ensures)) c.requires.0)

pub returns : goal.returns
returns c =
    let a = c.args in
    c.load_mail.ensures
    ∙ mailbox_loaded a.slot.number a.mailbox.now (window a.table.now.words a.slot.number) (slots_in a.table.now) (slots_in c.open_mailbox.new.self) ((rw c.label_planes.ensures at c.open_mailbox.ensures)) c.requires.2
