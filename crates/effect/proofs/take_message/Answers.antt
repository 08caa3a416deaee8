-- `effect::take_message` meets its contract: the message goes, then the registers and the place change.
use Rattle.table.specs.Table.{slots_in}
use Rattle.table.proofs.Change.{change_change}
use Rattle.effect.proofs.Effects.{message_out}
use Rattle.effect.proofs.take_message.Goals as goal

pub returns : goal.returns
returns c =
    let a = c.args in
    let x = c.message_value-value in
    let y = c.message_sender-sender in
    rw (c.gets.ensures, c.set_register.ensures, c.remove.ensures, change_change, change_change)
    (message_out a.slot.number a.a a.b a.i (slots_in a.table.now) x.ensures y.ensures)
