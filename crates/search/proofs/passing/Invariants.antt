-- `search::passing` meets its contract: the bits of those messages are 1 that fail the test in one of the first b planes.
use Prim.Native.Nat.{ℕ}
use mathlib.Core.Bool.{Bool}
use mathlib.Core.List.{List}
use Rattle.label.specs.Label.{bit}
use Rattle.planes.proofs.Tests.{Failed}
use Rattle.table.specs.Table.{window, plane_in}
use Rattle.search.specs.Planewise.{Tells}
use Rattle.search.proofs.passing.Given as goal

-- message i passes at plane b
abbrev pub at_plane : (ℕ → ℕ → Bool) → List ℕ → ℕ → ℕ → Bool
at_plane test w i b = test (bit i (plane_in w b)) b

abbrev pub invariant-loop-b : goal.invariant-loop-b
invariant-loop-b g l = (test : ℕ → ℕ → Bool) → Tells test (goal.F-post g l.failing) → Failed (at_plane test (window l.table.words l.slot.number)) l.b l.failed
