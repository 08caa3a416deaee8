-- `planes::spread` meets its contract: 0 less a bit.
use Rattle.label.specs.Label.{bit}
use Rattle.label.proofs.Bits.{bit_lt}
use Rattle.planes.proofs.Words.{bits_spread}
use Rattle.planes.proofs.spread.Goals as goal

pub returns : goal.returns
returns c = let a = c.args in rw c.bit_of.ensures (bits_spread (bit a.b a.label) (bit_lt a.b a.label))
