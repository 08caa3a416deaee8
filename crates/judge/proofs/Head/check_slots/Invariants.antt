-- `judge::Head::check_slots` meets its contract: the number of all slots is that of the slots that are left.
use Prim.Native.Nat.{◌-◌}
use mathlib.Core.Path.{◌≡◌}
use Rattle.image.specs.Refusal.{slots_number}
use Rattle.judge.proofs.Head.check_slots.Given as goal

abbrev pub invariant-loop-slot : goal.invariant-loop-slot
invariant-loop-slot l = slots_number l.self.version 16 0 l.self.instructions l.b ≡ slots_number l.self.version (16 - l.slot) l.slot l.self.instructions l.rest
