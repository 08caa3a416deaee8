-- `turn::bottom` meets its contract: the first used slot that the library finds is the one of the definition.
use Prim.Native.Nat.{ℕ, ◌≤◌, ◌<◌}
use mathlib.Core.Path.{◌≡◌, ◌∙◌}
use mathlib.Core.Bool.{Bool, true, false, not}
use mathlib.Core.List.{List}
use native.Mathlib.Omega.{arith}
use borrow.Author.Tests.{tests}
use lib.ListN.{length}
use Rattle.std.proofs.Common.{rules, Option, Some, None, MatchOption}
use Rattle.std.specs.Option.{unwrap_or}
use Rattle.std.proofs.lemmas.Iterator.{first_from_Range}
use Rattle.wire.proofs.Lists.{first_above, first_here, first_past}
use Rattle.machine.specs.State.{Slot, unused, slot_at, is_unused}
use Rattle.machine.specs.Inner.{bottom_of}
use Rattle.table.specs.Table.{slots_in}
use Rattle.table.proofs.Change.{length_slots}
use Rattle.turn.proofs.bottom.Goals as goal

module _ (ss : List Slot) (sixteen : length ss ≡ 16) where
  abbrev in_use : Slot → Bool
  in_use x = not (is_unused x)

  above : (n : ℕ) → n ≤ 16 → ((k : ℕ) → 0 ≤ k → k < n → in_use (slot_at ss k) ≡ false) → n ≤ bottom_of ss
  above n h f = first_above in_use ss n unused (omega arith) (λ k l. f k (omega arith) l)

  lowest : (r : Option ℕ)
      → MatchOption r ((k : ℕ) → 0 ≤ k → k < 16 → in_use (slot_at ss k) ≡ false)
      (λ i. (0 ≤ i) × (i < 16) × (in_use (slot_at ss i) ≡ true) × ((k : ℕ) → 0 ≤ k → k < i → in_use (slot_at ss k) ≡ false))
      → unwrap_or r 16 ≡ bottom_of ss
  lowest None h = first_past in_use ss 16 (omega arith) (above 16 (omega arith) h)
  lowest (Some i) h = first_here in_use ss i unused (omega (arith, h.1)) h.2 (above i (omega (arith, h.1)) h.3)

pub returns : goal.returns
returns c =
    let table = c.args.table.now in
    let ss = slots_in table in
    c.unwrap_or.ensures
    ∙ lowest ss (length_slots table.words) c.find-lowest.result
    (first_from_Range _ _ _ _ (λ k. not (is_unused (slot_at ss k)) ≡ true) (λ k. not (is_unused (slot_at ss k)) ≡ false) c.find-lowest.ensures.ran
    (λ x q k. search (rules, tests)) (λ x q k. search (rules, tests)))
