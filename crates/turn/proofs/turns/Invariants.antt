-- `turn::turns` meets its contract: with `left` turns left the table holds the state after the others.
use Prim.Native.Nat.{◌-◌, ◌≤◌}
use Rattle.table.specs.Table.{slots_in}
use Rattle.turn.specs.Answer.{running}
use Rattle.turn.proofs.Steps.{Ran}
use Rattle.turn.proofs.turns.Given as goal

abbrev pub invariant-loop-left : goal.invariant-loop-left
invariant-loop-left l =
    (l.left ≤ l.n) × (l.slot ≤ 15) × Ran (running l.program l.first l.initial.table) l.program (l.n - l.left) l.slot (slots_in l.table) l.busy

abbrev pub decreases-loop-left : goal.decreases-loop-left
decreases-loop-left l = l.left
