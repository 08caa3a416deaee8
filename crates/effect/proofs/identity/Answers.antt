-- `effect::identity` meets its contract: register a first.
use Rattle.std.proofs.Common.{refl}
use Rattle.machine.specs.State.{with_register}
use Rattle.table.proofs.Change.{change_change}
use Rattle.effect.proofs.Effects.{identity_done, goes_on, sound}
use Rattle.effect.proofs.identity.Goals as goal

pub gets-requires : goal.gets-requires
gets-requires c = rw c.set_register.ensures (goes_on (with_register _ _) (λ t. refl) c.requires.0.goes, (sound c.requires.1).1)

pub returns : goal.returns
returns c =
    rw (c.gets.ensures, c.set_register.ensures, change_change)
    (identity_done c.requires.0 _ _ c.label-own.ensures)

pub set_register-requires : goal.set_register-requires
set_register-requires c = (sound c.requires.1).0
