-- `planes::LabelPlanes::ahead` meets its contract: plane by plane.
use Rattle.std.proofs.Common.{arith}
use Rattle.planes.proofs.LabelPlanes.ahead.Goals as goal

pub returns : goal.returns
returns c = rw (c.bit_ahead.ensures, c.bit_ahead-2.ensures, c.bit_ahead-3.ensures, c.bit_ahead-4.ensures)

pub bit_ahead-requires : goal.bit_ahead-requires
bit_ahead-requires c = (c.requires 0 (omega arith), omega arith)

pub bit_ahead-requires-2 : goal.bit_ahead-requires-2
bit_ahead-requires-2 c = (c.requires 1 (omega arith), omega arith)

pub bit_ahead-requires-3 : goal.bit_ahead-requires-3
bit_ahead-requires-3 c = (c.requires 2 (omega arith), omega arith)

pub bit_ahead-requires-4 : goal.bit_ahead-requires-4
bit_ahead-requires-4 c = (c.requires 3 (omega arith), omega arith)
