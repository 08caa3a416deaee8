-- What a run of turns begins with, and what it tells.
use Rattle.std.specs.Prelude.{ℕ, List}
use Rattle.machine.specs.State.{Slot, State}
use Rattle.machine.specs.Machine.{turns, busy}
use Rattle.table.specs.declared.Table.{Table}
use Rattle.table.specs.Table.{slots_in}
use Rattle.turn.specs.declared.RunAnswer.{RunAnswer}

-- slots with a program and a turn slot, and those in the table. Turns look at no version: they are taken as those of version 2, whose
-- rules the slots of every version keep
abbrev pub running_at : List ℕ → ℕ → List Slot → State
running_at program turn_slot ss = record { version = 2; program = program; turn_slot = turn_slot; slots = ss }

abbrev pub running : List ℕ → ℕ → Table → State
running program turn_slot t = running_at program turn_slot (slots_in t)

-- of n turns of a state: the slot whose turn is next, and the turns that met a live task
abbrev pub run_told : ℕ → State → RunAnswer
run_told n state = record { turn = (turns n state).turn_slot; busy = busy n state }
