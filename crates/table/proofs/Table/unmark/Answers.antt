-- `table::Table::unmark` meets its contract: each plane loses its bit.
use Rattle.std.proofs.Common.{rules}
use Rattle.table.specs.Words.{WithoutBit}
use Rattle.table.proofs.Planes.{planes_as}
use Rattle.table.proofs.Table.unmark.Goals as goal

pub returns : goal.returns
returns c = planes_as _ (WithoutBit c.args.k) _ _ _ (λ b x y l p. search rules) c.change_planes.ensures
