-- `text::put_numbers` meets its contract: the numbers so far are written.
use Rattle.wire.proofs.Output.{ItemsWritten}
use Rattle.text.specs.Text.{spaced}
use Rattle.text.proofs.put_numbers.Given as goal

abbrev pub invariant-loop-x : goal.invariant-loop-x
invariant-loop-x l = ItemsWritten spaced l.numbers l.initial.out l.out l.at l.x-index
