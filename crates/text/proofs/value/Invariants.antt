-- `text::value` meets its contract: what was read so far, and the digits from there on, make the number.
use Prim.Native.Nat.{◌≤◌}
use mathlib.Core.Path.{◌≡◌}
use lib.ListN.{drop}
use Rattle.text.specs.Inner.{value_from}
use Rattle.text.proofs.value.Given as goal

abbrev pub invariant-loop-d : goal.invariant-loop-d
invariant-loop-d l = (l.x ≤ 255) × (value_from 0 l.s ≡ value_from l.x (drop l.d-index l.s))
