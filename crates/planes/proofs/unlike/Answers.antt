-- `planes::unlike` meets its contract: bits that differ.
use Rattle.label.specs.Label.{bit}
use Rattle.label.proofs.Bits.{bit_lt}
use Rattle.planes.proofs.Words.{bits_unlike}
use Rattle.planes.proofs.unlike.Goals as goal

pub returns : goal.returns
returns c =
    let a = c.args in
    bits_unlike a.plane c.spread.result (bit a.b a.label) c.spread.ensures (bit_lt a.b a.label)
