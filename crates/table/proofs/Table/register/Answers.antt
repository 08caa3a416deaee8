-- `table::Table::register` meets its contract: a register has a word of its own.
use Prim.Native.Nat.{ℕ}
use mathlib.Core.Path.{sym, ap, ◌∙◌}
use lib.ListN.{get_or, drop}
use lib.Seq.{get_or-drop}
use Rattle.wire.proofs.Tabulate.{get_d_tabulate}
use Rattle.table.specs.Table.{low_four, window, task_in}
use Rattle.table.proofs.Slots.{used_task}
use Rattle.table.proofs.Table.register.Goals as goal

pub returns : goal.returns
unfolding task_in
returns c =
    let a = c.args in
    let w = window a.self.now.words a.slot.number in
    rw (used_task a.self.now.words a.slot.number c.requires.0)
    (c.four.ensures ∙ ap (λ (x : ℕ). low_four x) (c.word.ensures ∙ sym (get_or-drop 4 w a.a 0))
    ∙ sym (get_d_tabulate 8 (λ c. low_four (get_or (drop 4 w) c 0)) a.a 0 c.requires.1))
