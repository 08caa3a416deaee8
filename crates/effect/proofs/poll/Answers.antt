-- `effect::poll` meets its contract: as take, and the place where nothing is receivable.
use Rattle.std.proofs.Common.{sym, ◌∙◌}
use Rattle.effect.proofs.Effects.{poll_some, poll_none, sound}
use Rattle.effect.proofs.poll.Goals as goal

pub returns-then-not-take : goal.returns-then-not-take
returns-then-not-take c =
    let took = c.take.ensures in
    rw (c.set_pc.ensures, took.0)
    (poll_none c.requires.0 _ _ _ (sym took.1 ∙ c.if-not-take.true))

pub returns-else-not-take : goal.returns-else-not-take
returns-else-not-take c =
    let took = c.take.ensures in
    rw took.0 (poll_some c.requires.0 _ _ _ (sym took.1 ∙ c.if-not-take.false))

pub take-requires : goal.take-requires
take-requires c = let s = sound c.requires.1 in (c.requires.0, s.0, s.1)
