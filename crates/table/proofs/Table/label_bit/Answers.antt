-- `table::Table::label_bit` meets its contract: bit i of plane b.
use mathlib.Core.Path.{◌≡◌, ap, ◌∙◌}
use native.Mathlib.Omega.{arith}
use Rattle.label.specs.Label.{bit}
use Rattle.label.proofs.Bits.{bit_lt}
use Rattle.table.proofs.Table.label_bit.Goals as goal

pub returns : goal.returns
returns c =
    let i = c.args.i in
    let x = c.plane.result in
    let e : c.byte.result ≡ bit i x = omega (arith, c.byte.ensures, bit_lt i x) in
    (e ∙ ap (bit i) c.plane.ensures, omega (arith, bit_lt i x))
