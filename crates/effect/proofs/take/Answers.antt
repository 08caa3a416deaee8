-- `effect::take` meets its contract: the first index at which a message is receivable.
use Rattle.std.proofs.Common.{arith}
use Rattle.effect.proofs.Effects.{take_some, take_none}
use Rattle.effect.proofs.take.Goals as goal

pub returns-then-i-mailbox_length : goal.returns-then-i-mailbox_length
returns-then-i-mailbox_length c =
    let own = c.label-own in
    let f = c.find-i in
    rw c.take_message.ensures
    (take_some c.requires.0 _ _ own.ensures f.ensures (rw (← c.mailbox_length.ensures.0) (omega arith)))

pub returns-else-i-mailbox_length : goal.returns-else-i-mailbox_length
returns-else-i-mailbox_length c =
    let own = c.label-own in
    let f = c.find-i in
    take_none c.requires.0 _ _ own.ensures f.ensures (rw (← c.mailbox_length.ensures.0) (omega arith))
