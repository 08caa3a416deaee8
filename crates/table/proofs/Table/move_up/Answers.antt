use Prim.Native.Nat.{◌+◌, ◌-◌}
use mathlib.Core.Path.{◌≡◌}
use native.Mathlib.Omega.{arith}
use Rattle.table.specs.Words.{up}
use Rattle.table.proofs.Ring.{ring_none, ring_more, up_none, up_here, up_other}
use Rattle.table.proofs.Table.move_up.Goals as goal

pub loop-k-init : goal.loop-k-init
loop-k-init c = let a = c.args in ring_none a.slot.number a.start a.self.now.words (up a.i a.i) (up_none a.i)

pub loop-k-preserved : goal.loop-k-preserved
loop-k-preserved c =
    let h = c.loop-k in
    let a = c.args in
    let to : h.k - 1 + 1 ≡ h.k = omega arith in
    ring_more a.slot.number a.start a.self.now.words (up a.i h.k) (up a.i (h.k - 1)) (h.k - 1) h.k h.self.words c.move_mail.new.self.words (omega arith) (omega arith)
    h.invariant (rw to at c.move_mail.ensures) (up_here a.i h.k (omega arith) (omega arith)) (up_other a.i h.k (omega arith))

pub returns : goal.returns
returns c = let h = c.loop-k in let e : h.k ≡ 0 = omega arith in rw e at h.invariant
