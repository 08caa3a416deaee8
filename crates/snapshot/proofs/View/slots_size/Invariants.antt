-- `snapshot::View::slots_size` meets its contract: the first slots are counted.
use Prim.Native.Nat.{◌+◌, ◌*◌, ◌≤◌}
use mathlib.Core.Path.{◌≡◌}
use lib.ListN.{length, drop}
use Rattle.wire.specs.Items.{encode_items}
use Rattle.table.specs.Table.{slots_in}
use Rattle.snapshot.specs.Writing.{shown_slot}
use Rattle.snapshot.proofs.View.slots_size.Given as goal

abbrev pub invariant-loop-number : goal.invariant-loop-number
invariant-loop-number l =
    (l.n ≤ 424 * l.number)
    × (length (encode_items (shown_slot l.self.version l.self.observer) (slots_in l.self.table.now)) ≡ l.n + length (encode_items (shown_slot l.self.version l.self.observer) (drop l.number (slots_in l.self.table.now))))
