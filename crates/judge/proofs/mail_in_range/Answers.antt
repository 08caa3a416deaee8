use mathlib.Core.Path.{refl}
use Rattle.judge.proofs.Mail.{message_counted}
use Rattle.judge.proofs.mail_in_range.Goals as goal

pub loop-j-preserved : goal.loop-j-preserved
loop-j-preserved c =
    let h = c.loop-j in
    message_counted _ h.j _ _ refl refl h.counts h.invariant c.if-label-sender.true c.if-count-lt4.true
