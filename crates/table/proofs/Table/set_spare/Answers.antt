-- `table::Table::set_spare` meets its contract: the word that is stored is read as that field alone.
use mathlib.Core.Path.{refl}
use native.Mathlib.Omega.{arith}
use Rattle.machine.specs.State.{with_spare}
use Rattle.table.specs.Table.{window}
use Rattle.table.proofs.Task.{spare_stored}
use Rattle.table.proofs.Slots.{slots_change}
use Rattle.table.proofs.Table.set_spare.Goals as goal

pub returns : goal.returns
returns c =
    let a = c.args in
    slots_change c.put.ensures a.slot.in_range (with_spare a.x) (λ k. refl) (λ long. spare_stored a.x (window a.self.now.words a.slot.number) long (omega arith))
