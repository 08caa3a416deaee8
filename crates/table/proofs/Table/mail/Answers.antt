-- `table::Table::mail` meets its contract: a start counts round the ring.
use Prim.Native.Nat.{ℕ, ◌+◌, ◌%◌}
use mathlib.Core.Path.{sym, ap, ◌∙◌}
use lib.ListN.{get_or}
use lib.Seq.{get_or-drop}
use Rattle.table.specs.Table.{window}
use Rattle.table.proofs.Ring.{start_round}
use Rattle.table.proofs.Table.mail.Goals as goal

pub returns : goal.returns
returns c =
    let a = c.args in
    let w = window a.self.now.words a.slot.number in
    let place = ap (λ (x : ℕ). (x + a.i) % 64) c.ring_start.ensures ∙ start_round (get_or w 13 0) a.i in
    c.word.ensures ∙ ap (λ (p : ℕ). get_or w (20 + p) 0) place ∙ sym (get_or-drop 20 w ((get_or w 13 0 + a.i) % 64) 0)
