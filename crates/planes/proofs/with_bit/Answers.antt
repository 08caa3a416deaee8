-- `planes::with_bit` meets its contract: bit n is turned over where it is not the label's.
use Rattle.label.specs.Label.{bit}
use Rattle.label.proofs.Bits.{bit_lt}
use Rattle.planes.proofs.Words.{bits_with}
use Rattle.planes.proofs.with_bit.Goals as goal

pub returns : goal.returns
returns c =
    let b = c.before in
    let a = b.args in
    bits_with a.plane c.unlike.result a.n (bit a.b a.label) b.requires.0 (bit_lt a.b a.label) c.unlike.ensures
