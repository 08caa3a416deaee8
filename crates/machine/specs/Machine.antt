-- The machine of this edition: turns and views where labels are masks.
use Rattle.std.specs.Prelude.{ℕ}
use Rattle.label.specs.Label.{flows, join}
use Rattle.machine.specs.State.{State}
use Rattle.machine.specs.Turn.{turns_by, busy_by}
use Rattle.machine.specs.View.{view_by}

abbrev pub turns : ℕ → State → State
turns = turns_by flows join

abbrev pub busy : ℕ → State → ℕ
busy = busy_by flows join

-- the view for label v: the observer sees the labels that flow to v
abbrev pub view : ℕ → State → State
view v = view_by (λ l. flows l v)
