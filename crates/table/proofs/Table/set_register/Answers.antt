-- `table::Table::set_register` meets its contract: the word that is stored is read as that register alone.
use mathlib.Core.Path.{refl}
use native.Mathlib.Omega.{arith}
use Rattle.machine.specs.State.{with_register}
use Rattle.table.specs.Table.{window}
use Rattle.table.proofs.Task.{register_stored}
use Rattle.table.proofs.Slots.{slots_change}
use Rattle.table.proofs.Table.set_register.Goals as goal

pub returns : goal.returns
returns c =
    let a = c.args in
    slots_change c.put.ensures a.slot.in_range (with_register a.a a.x) (λ k. refl)
    (λ long. register_stored a.a a.x (window a.self.now.words a.slot.number) long c.requires (omega arith))
