use native.Mathlib.Omega.{arith}
use Rattle.table.proofs.Planes.{planes_none, planes_more}
use Rattle.table.proofs.Table.change_planes.Goals as goal

pub loop-b-init : goal.loop-b-init
loop-b-init g c = planes_none _ _ _

pub loop-b-preserved : goal.loop-b-preserved
loop-b-preserved g c =
    let h = c.loop-b in
    let a = c.args in
    let r = rw c.plane.ensures at c.change-x.ensures in
    planes_more _ a.slot.number a.self.now.words h.b c.change-x.result h.self.words c.put.new.self.words (omega arith) h.invariant r c.put.ensures
