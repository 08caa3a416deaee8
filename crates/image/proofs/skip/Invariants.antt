-- `image::skip` meets its contract: the bytes that are left are those behind the slots passed.
use mathlib.Core.Path.{◌≡◌}
use Rattle.image.specs.Image.{skip}
use Rattle.image.proofs.skip.Given as goal

abbrev pub invariant-loop-slot : goal.invariant-loop-slot
invariant-loop-slot l = l.rest ≡ skip l._slot l.b
