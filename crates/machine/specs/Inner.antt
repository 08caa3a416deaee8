-- Definitions for contracts of functions that are no calls, which no claim and no call's promise reaches: the slots between which
-- all that is used, or can be, lies.
use Rattle.std.specs.Prelude.{ℕ, zero, suc, ◌+◌, ◌≤◌, ◌<◌, not, List}
use Rattle.wire.specs.Lists.{first_index}
use Rattle.machine.specs.State.{Slot, unused, used, slot_at, is_unused}

-- the lowest used slot; how many slots there are where none is used
abbrev pub bottom_of : List Slot → ℕ
bottom_of = first_index (λ x. not (is_unused x))

-- the slot behind slot s and its spare where it is used, else `before`
abbrev pub top_behind : ℕ → ℕ → Slot → ℕ
top_behind s before unused = before
top_behind s before (used t) = s + t.spare + 1

-- the slot behind the last used one of the first n and its spare; 0 where none is used
unfoldable pub top_of : ℕ → List Slot → ℕ
top_of zero ss = 0
top_of (suc n) ss = top_behind n (top_of n ss) (slot_at ss n)

-- a used slot and its spare lie from bottom on and ahead of top
abbrev pub WithinSlot : ℕ → ℕ → ℕ → Slot → Type 0
WithinSlot bottom top s unused = Unit {0}
WithinSlot bottom top s (used t) = (bottom ≤ s) × (s + t.spare < top)

abbrev pub Within : ℕ → ℕ → List Slot → Type 0
Within bottom top ss = (s : ℕ) → WithinSlot bottom top s (slot_at ss s)
