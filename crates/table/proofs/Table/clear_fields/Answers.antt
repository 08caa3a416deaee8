use native.Mathlib.Omega.{arith}
use Rattle.table.proofs.Window.{cleared_none, cleared_more}
use Rattle.table.proofs.Table.clear_fields.Goals as goal

pub loop-i-init : goal.loop-i-init
loop-i-init c = cleared_none _ _

pub loop-i-preserved : goal.loop-i-preserved
loop-i-preserved c = cleared_more (omega arith) c.loop-i.invariant c.put.ensures
