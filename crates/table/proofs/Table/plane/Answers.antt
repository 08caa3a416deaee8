-- `table::Table::plane` meets its contract: a plane has a word of its own.
use mathlib.Core.Path.{sym, ◌∙◌}
use lib.Seq.{get_or-drop}
use Rattle.table.specs.Table.{window}
use Rattle.table.proofs.Table.plane.Goals as goal

pub returns : goal.returns
returns c =
    let a = c.args in
    c.word.ensures ∙ sym (get_or-drop 16 (window a.self.now.words a.slot.number) a.b 0)
