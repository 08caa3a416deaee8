-- `turn::round` meets its contract: at each slot the table holds the state after the turns of the slots before it.
use Prim.Native.Nat.{◌+◌, ◌-◌, ◌%◌, ◌≤◌, min}
use Rattle.table.specs.Table.{slots_in}
use Rattle.turn.specs.Answer.{running}
use Rattle.turn.proofs.Steps.{Ran}
use Rattle.turn.proofs.round.Given as goal

-- no slot behind the last of the round has its turn
abbrev pub invariant-loop-number : goal.invariant-loop-number
invariant-loop-number l =
    (l.first ≤ l.number) × (l.from + l.idle ≤ l.number)
    × Ran (running l.program l.first l.initial.table) l.program (min l.number l.end - l.first) (min l.number l.end % 16) (slots_in l.table) (l.number - l.from - l.idle)
