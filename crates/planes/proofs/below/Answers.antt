-- `planes::below` meets its contract: ones shifted down.
use Rattle.std.proofs.Common.{◌≡◌, arith}
use Rattle.planes.proofs.Words.{shifted_ones}
use Rattle.planes.proofs.below.Goals as goal

pub returns-then-n-eq0 : goal.returns-then-n-eq0
returns-then-n-eq0 c = let e : c.args.n ≡ 0 = omega arith in rw e

pub returns-else-n-eq0 : goal.returns-else-n-eq0
returns-else-n-eq0 c = shifted_ones 64 c.args.n (omega arith)
