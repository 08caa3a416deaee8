-- `effect::copy` meets its contract.
use Rattle.effect.proofs.Effects.{copy_done, sound}
use Rattle.effect.proofs.copy.Goals as goal

pub returns : goal.returns
returns c = rw c.gets.ensures (copy_done c.requires.0 _ _ c.register-x.ensures)

pub register-x-requires : goal.register-x-requires
register-x-requires c = (c.requires.0.goes.here, (sound c.requires.1).1)

pub gets-requires : goal.gets-requires
gets-requires c = (c.requires.0.goes, (sound c.requires.1).0)
