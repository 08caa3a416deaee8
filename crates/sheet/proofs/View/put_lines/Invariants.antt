-- `sheet::View::put_lines` meets its contract: the lines of the first slots are written.
use Rattle.table.specs.Table.{slots_in}
use Rattle.sheet.proofs.Shown.{LinesWritten}
use Rattle.sheet.proofs.View.put_lines.Given as goal

abbrev pub invariant-loop-number : goal.invariant-loop-number
invariant-loop-number l = LinesWritten l.self.observer (slots_in l.self.table.now) l.initial.out l.out l.at l.number
