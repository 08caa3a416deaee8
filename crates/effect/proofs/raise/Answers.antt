-- `effect::raise` meets its contract: the label, then the place; or kind 6.
use Rattle.table.proofs.Change.{change_change}
use Rattle.effect.proofs.Effects.{raise_done, raise_stopped}
use Rattle.effect.proofs.raise.Goals as goal

pub returns-then-is_subset : goal.returns-then-is_subset
returns-then-is_subset c =
    rw (c.advance.ensures, c.set_label.ensures, change_change)
    (raise_done c.requires _ c.label.ensures c.join-raised.ensures c.clearance.ensures c.is_subset.ensures c.if-is_subset.true)

pub returns-else-is_subset : goal.returns-else-is_subset
returns-else-is_subset c =
    rw c.set_kind.ensures
    (raise_stopped c.requires _ c.label.ensures c.join-raised.ensures c.clearance.ensures c.is_subset.ensures c.if-is_subset.false)
