-- `effect::deliver` meets its contract: the message joins where the slot accepts it.
use Rattle.std.proofs.Common.{sym}
use Rattle.table.specs.Table.{slots_in}
use Rattle.effect.proofs.Effects.{deliver_joins, deliver_drops}
use Rattle.effect.proofs.deliver.Goals as goal

pub returns-in-Some : goal.returns-in-Some
returns-in-Some c =
    let a = c.args in
    let here = c.in-Some.ensures in
    deliver_joins (slots_in a.table.now) a.to a.message (sym here.told) (rw here.numbered at c.append.ensures)

pub returns-in_default : goal.returns-in_default
returns-in_default c =
    let a = c.args in
    deliver_drops (slots_in a.table.now) a.to a.message (sym c.in_default.ensures.told)
