-- `table::Table::word` meets its contract: the word stands in the words of the slot.
use native.Mathlib.Omega.{arith}
use Rattle.table.proofs.Window.{word_at}
use Rattle.table.proofs.Table.word.Goals as goal

pub returns : goal.returns
returns c =
    let a = c.args in
    word_at a.self.now.words a.slot.number a.i (omega arith)
