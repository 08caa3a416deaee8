-- `table::Table::open_mailbox` meets its contract: the four planes, one after another, and the count.
use Prim.Native.Nat.{ℕ}
use mathlib.Core.Path.{◌≡◌, refl}
use native.Mathlib.Omega.{arith}
use Rattle.planes.specs.Planes.{plane_of}
use Rattle.table.proofs.Planes.{planes_none, planes_more}
use Rattle.table.proofs.Mailbox.{open_slots}
use Rattle.table.proofs.Table.open_mailbox.Goals as goal

pub returns : goal.returns
returns c =
    let a = c.args in
    let R : ℕ → ℕ → ℕ → Type 0 = λ k x y. y ≡ plane_of a.labels k in
    let t = a.self.now.words in
    let p = planes_more R a.slot.number t 0 a.labels.first t c.put.new.self.words (omega arith) (planes_none R a.slot.number t) refl c.put.ensures in
    let q = planes_more R a.slot.number t 1 a.labels.second c.put.new.self.words c.put-2.new.self.words (omega arith) p refl c.put-2.ensures in
    let r = planes_more R a.slot.number t 2 a.labels.third c.put-2.new.self.words c.put-3.new.self.words (omega arith) q refl c.put-3.ensures in
    let s = planes_more R a.slot.number t 3 a.labels.fourth c.put-3.new.self.words c.put-4.new.self.words (omega arith) r refl c.put-4.ensures in
    open_slots t c.put-4.new.self.words c.put-5.new.self.words a.slot.number a.n (plane_of a.labels) a.slot.in_range c.requires s c.put-5.ensures
