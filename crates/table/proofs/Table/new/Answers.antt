-- `table::Table::new` meets its contract: a task of kind 0 is none.
use native.Mathlib.Omega.{arith}
use Rattle.std.proofs.lemmas.List.{get_or-replicate}
use Rattle.table.proofs.Slots.{none_used}
use Rattle.table.proofs.Table.new.Goals as goal

pub returns : goal.returns
returns c = none_used _ (λ i l. get_or-replicate 1344 i 0 0 (omega arith))
