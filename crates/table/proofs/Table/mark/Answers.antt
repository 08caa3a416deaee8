-- `table::Table::mark` meets its contract: each plane gets its bit of the label.
use Rattle.std.proofs.Common.{rules}
use Rattle.table.specs.Words.{WithBit}
use Rattle.table.proofs.Planes.{planes_as}
use Rattle.table.proofs.Table.mark.Goals as goal

pub returns : goal.returns
returns c = planes_as _ (WithBit c.args.n c.args.label) _ _ _ (λ b x y l p. search rules) c.change_planes.ensures
