-- `loader::label_planes` meets its contract: the labels from message i on are gathered.
use mathlib.Core.Path.{◌≡◌}
use lib.ListN.{drop}
use Rattle.planes.specs.Planes.{planes_of}
use Rattle.loader.specs.Loading.{labels_of}
use Rattle.loader.proofs.label_planes.Given as goal

abbrev pub invariant-loop-i : goal.invariant-loop-i
invariant-loop-i l = l.gathered ≡ planes_of (drop l.i (labels_of l.mailbox))
