-- `table::Table::set_pc` meets its contract: the word that is stored is read as that field alone.
use mathlib.Core.Path.{refl}
use native.Mathlib.Omega.{arith}
use Rattle.machine.specs.State.{with_pc}
use Rattle.table.specs.Table.{window}
use Rattle.table.proofs.Task.{pc_stored}
use Rattle.table.proofs.Slots.{slots_change}
use Rattle.table.proofs.Table.set_pc.Goals as goal

pub returns : goal.returns
returns c =
    let a = c.args in
    slots_change c.put.ensures a.slot.in_range (with_pc a.x) (λ k. refl) (λ long. pc_stored a.x (window a.self.now.words a.slot.number) long (omega arith))
