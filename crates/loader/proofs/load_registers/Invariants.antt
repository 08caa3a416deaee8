-- `loader::load_registers` meets its contract: the first a registers are set.
use mathlib.Core.Path.{◌≡◌}
use Rattle.table.specs.Table.{slots_in}
use Rattle.table.specs.Change.{change}
use Rattle.loader.specs.Loading.{registers_set}
use Rattle.loader.proofs.load_registers.Given as goal

abbrev pub invariant-loop-a : goal.invariant-loop-a
invariant-loop-a l = slots_in l.table ≡ change l.slot.number (registers_set l.a l.registers) (slots_in l.initial.table)
