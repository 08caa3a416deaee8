-- `effect::gets` meets its contract: the place, then the register.
use Rattle.table.proofs.Change.{change_change}
use Rattle.effect.proofs.gets.Goals as goal

pub returns : goal.returns
returns c = rw (c.set_register.ensures, c.advance.ensures, change_change)
