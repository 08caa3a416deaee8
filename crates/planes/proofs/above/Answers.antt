-- `planes::above` meets its contract: bits that the label has not.
use Rattle.label.specs.Label.{bit}
use Rattle.label.proofs.Bits.{bit_lt}
use Rattle.planes.proofs.Words.{bits_above}
use Rattle.planes.proofs.above.Goals as goal

pub returns : goal.returns
returns c =
    let a = c.args in
    bits_above a.plane c.spread.result (bit a.b a.label) c.spread.ensures (bit_lt a.b a.label) c.spread.type_inv
