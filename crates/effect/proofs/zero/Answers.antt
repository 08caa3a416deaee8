-- `effect::zero` meets its contract.
use Rattle.effect.proofs.Effects.{zero_jumps, zero_goes_on, sound}
use Rattle.effect.proofs.zero.Goals as goal

pub returns-then-register-eq0 : goal.returns-then-register-eq0
returns-then-register-eq0 c = rw c.set_pc.ensures (zero_jumps c.requires.0 _ _ c.register.ensures c.if-register-eq0.true)

pub returns-else-register-eq0 : goal.returns-else-register-eq0
returns-else-register-eq0 c = rw c.advance.ensures (zero_goes_on c.requires.0 _ _ c.register.ensures c.if-register-eq0.false)

pub register-requires : goal.register-requires
register-requires c = (c.requires.0.goes.here, (sound c.requires.1).0)
