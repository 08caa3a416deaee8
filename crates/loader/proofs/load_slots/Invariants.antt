-- `loader::load_slots` meets its contract: the first slots are loaded, and the bytes behind them are at hand.
use mathlib.Core.Path.{◌≡◌}
use mathlib.Core.List.{◌++◌}
use lib.ListN.{take, drop}
use Rattle.image.specs.Image.{skip, slots_of}
use Rattle.table.specs.Table.{slots_in}
use Rattle.loader.proofs.load_slots.Given as goal

abbrev pub invariant-loop-number : goal.invariant-loop-number
invariant-loop-number l =
    (l.rest ≡ skip l.number l.slots) × (slots_in l.table ≡ take l.number (slots_of l.version 16 l.slots) ++ drop l.number (slots_in l.initial.table))
