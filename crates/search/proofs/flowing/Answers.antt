-- `search::flowing` meets its contract: a message's label flows where it has no bit in a plane that the label has not.
use Rattle.std.proofs.Common.{rules}
use lib.Dec.{leb}
use Rattle.label.specs.Label.{bit}
use Rattle.planes.proofs.Labels.{label_flows}
use Rattle.table.specs.Table.{window, plane_in}
use Rattle.search.proofs.flowing.Goals as goal

pub returns : goal.returns
returns c i low =
    let a = c.args in
    rw (label_flows (plane_in (window a.table.now.words a.slot.number)) i a.label) (c.passing.ensures (λ x b. leb x (bit b a.label)) (λ plane b x few p. search rules) i low)
