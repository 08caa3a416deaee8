-- `effect::advance` meets its contract: the place is read, and written again with 1 more.
use Rattle.effect.proofs.Effects.{place_up}
use Rattle.effect.proofs.advance.Goals as goal

pub returns : goal.returns
returns c = rw (c.set_pc.ensures, c.pc-pc.ensures, place_up)
