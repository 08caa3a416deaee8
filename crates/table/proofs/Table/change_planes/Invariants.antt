-- `table::Table::change_planes` meets its contract: the first b planes are changed.
use Rattle.table.specs.Words.{SlotChanged, Planed}
use Rattle.table.proofs.Table.change_planes.Given as goal

abbrev pub invariant-loop-b : goal.invariant-loop-b
invariant-loop-b g l = SlotChanged l.slot.number (Planed l.b (λ b x y. goal.F-post g l.change x b y)) l.initial.self.words l.self.words
