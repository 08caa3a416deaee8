-- `table::Table::move_mail` meets its contract: the word that is stored is the one that was read.
use Prim.Native.Nat.{ℕ, ◌+◌, ◌%◌}
use mathlib.Core.Path.{sym, ap, ◌∙◌}
use lib.ListN.{set}
use lib.Seq.{get_or-drop}
use Rattle.table.specs.Table.{window}
use Rattle.table.proofs.Table.move_mail.Goals as goal

pub returns : goal.returns
returns c =
    let a = c.args in
    let w = window a.self.now.words a.slot.number in
    record {
      here = c.put.ensures.here ∙ ap (λ (x : ℕ). set w (20 + (a.start + a.to) % 64) x) (c.word-x.ensures ∙ sym (get_or-drop 20 w ((a.start + a.from) % 64) 0));
      other = c.put.ensures.other;
    }
