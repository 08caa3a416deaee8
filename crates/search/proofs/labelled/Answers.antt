-- `search::labelled` meets its contract: a message has the label where no plane differs from the label's bit.
use Rattle.std.proofs.Common.{rules}
use native.Mathlib.Omega.{arith}
use lib.Dec.{eqb}
use Rattle.label.specs.Label.{bit}
use Rattle.planes.proofs.Labels.{label_test}
use Rattle.table.specs.Table.{window, plane_in}
use Rattle.search.proofs.labelled.Goals as goal

pub returns : goal.returns
returns c i low =
    let a = c.args in
    rw (label_test 4 (plane_in (window a.table.now.words a.slot.number)) i a.label (omega arith)) (c.passing.ensures (λ x b. eqb x (bit b a.label)) (λ plane b x few p. search rules) i low)
