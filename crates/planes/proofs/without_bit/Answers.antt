-- `planes::without_bit` meets its contract: the low bits, and the others from one place higher.
use Rattle.std.proofs.Common.{pow_pos}
use Rattle.planes.proofs.Words.{one_shifted, bits_without}
use Rattle.planes.proofs.without_bit.Goals as goal

pub overflow_sub-low : goal.overflow_sub-low
overflow_sub-low c = rw (one_shifted c.args.k c.requires) (pow_pos c.args.k)

pub returns : goal.returns
returns c = bits_without c.args.plane c.args.k c.requires
