-- `judge::spares_unused` meets its contract: each slot before the current one stands above the spares before it.
use mathlib.Core.Path.{◌≡◌}
use mathlib.Core.Bool.{true}
use Rattle.wire.specs.Lists.{each}
use Rattle.image.specs.Image.{skip, slots_of}
use Rattle.judge.proofs.Spares.{free_from, is_clear}
use Rattle.judge.proofs.spares_unused.Given as goal

abbrev pub invariant-loop-slot : goal.invariant-loop-slot
invariant-loop-slot l =
    (l.rest ≡ skip l.slot l.b) × (l.free_from ≡ free_from (slots_of l.version 16 l.b) l.slot) × (each l.slot (is_clear (slots_of l.version 16 l.b)) ≡ true)
