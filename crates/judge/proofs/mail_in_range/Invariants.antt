-- `judge::mail_in_range` meets its contract: the counts are those of the messages read, which are in range.
use Rattle.judge.proofs.Mail.{messages, Counted}
use Rattle.judge.proofs.mail_in_range.Given as goal

abbrev pub invariant-loop-j : goal.invariant-loop-j
invariant-loop-j l = Counted l.counts (messages l.j l.mailbox)
