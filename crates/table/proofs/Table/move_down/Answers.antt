use Prim.Native.Nat.{◌+◌, ◌-◌}
use native.Mathlib.Omega.{arith}
use Rattle.table.specs.Words.{down}
use Rattle.table.proofs.Ring.{ring_none, ring_more, down_none, down_here, down_other}
use Rattle.table.proofs.Table.move_down.Goals as goal

pub loop-k-init : goal.loop-k-init
loop-k-init c = let a = c.args in ring_none a.slot.number a.start a.self.now.words (down a.i (a.i + 1)) (down_none a.i)

pub loop-k-preserved : goal.loop-k-preserved
loop-k-preserved c =
    let h = c.loop-k in
    let a = c.args in
    ring_more a.slot.number a.start a.self.now.words (down a.i h.k) (down a.i (h.k + 1)) h.k (h.k - 1) h.self.words c.move_mail.new.self.words (omega arith) (omega arith)
    h.invariant c.move_mail.ensures (down_here a.i h.k (omega arith)) (down_other a.i h.k (omega arith))
