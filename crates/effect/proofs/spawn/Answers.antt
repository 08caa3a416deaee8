-- `effect::spawn` meets its contract: a new task, then its register 0.
use Rattle.table.proofs.Change.{change_set}
use Rattle.effect.proofs.spawn.Goals as goal

pub returns : goal.returns
returns c = rw (c.set_register.ensures, c.put_task.ensures, change_set)
