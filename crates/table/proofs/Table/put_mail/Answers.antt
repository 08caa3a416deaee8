-- `table::Table::put_mail` meets its contract: the word that is stored is that of message i.
use Prim.Native.Nat.{ℕ, ◌+◌, ◌*◌, ◌%◌}
use mathlib.Core.Path.{ap}
use native.Mathlib.Omega.{arith}
use Rattle.table.specs.Table.{window}
use Rattle.table.specs.Words.{Mailed}
use Rattle.table.proofs.Window.{window_length, changed_as}
use Rattle.table.proofs.Ring.{mail_stored}
use Rattle.table.proofs.Table.put_mail.Goals as goal

pub returns : goal.returns
returns c =
    let a = c.args in
    let w = window a.self.now.words a.slot.number in
    changed_as (Mailed a.i (a.sender * 4294967296 + a.value)) c.put.ensures
    (mail_stored a.i ((c.ring_start.result + a.i) % 64) (a.sender * 4294967296 + a.value) w (window c.put.new.self.words a.slot.number) (window_length a.self.now.words a.slot.number) (omega arith)
    (ap (λ (x : ℕ). (x + a.i) % 64) c.ring_start.ensures))
