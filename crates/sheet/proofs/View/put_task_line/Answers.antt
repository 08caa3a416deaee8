-- `sheet::View::put_task_line` meets its contract: the slot's number, and what was read of the task behind it.
use Prim.Native.Nat.{ℕ, ◌≤◌}
use mathlib.Core.Path.{◌≡◌}
use mathlib.Core.List.{List, ◌++◌}
use native.Mathlib.Omega.{arith}
use lib.ListN.{length, length-append}
use Rattle.wire.specs.Output.{overwrite}
use Rattle.wire.proofs.Output.{FrontWritten, part_room, both_written}
use Rattle.table.specs.Table.{slots_in}
use Rattle.table.specs.Change.{task_at}
use Rattle.text.specs.Text.{decimal}
use Rattle.sheet.proofs.Shown.{task_line}
use Rattle.sheet.proofs.View.put_task_line.Goals as goal

-- the slot's number is written, and the rest of the line has room
front : (slot : ℕ) {n : ℕ} {rest out new line : List ℕ} → line ≡ decimal slot ++ rest → length line ≤ length out → n ≡ length (decimal slot)
    → new ≡ overwrite (decimal slot) out → FrontWritten (decimal slot) rest out new n
front slot is room size wrote = record { size = size; front = wrote; room = rw is at room }

pub put_decimal-n-requires : goal.put_decimal-n-requires
put_decimal-n-requires c =
    let line = task_line c.args.self.now.observer c.args.slot.number (task_at (slots_in c.args.self.now.table.now) c.args.slot.number)
    c.kind-kind.ensures c.label-label.ensures c.spare-spare.ensures c.pc-pc.ensures c.mail_shown-mail.ensures.0 in
    let whole = rw line at c.requires.1 in
    omega (arith, whole, simp length-append at whole)

pub put_line_rest-requires : goal.put_line_rest-requires
put_line_rest-requires c =
    let line = task_line c.args.self.now.observer c.args.slot.number (task_at (slots_in c.args.self.now.table.now) c.args.slot.number)
    c.kind-kind.ensures c.label-label.ensures c.spare-spare.ensures c.pc-pc.ensures c.mail_shown-mail.ensures.0 in
    part_room (front c.args.slot.number line c.requires.1 c.put_decimal-n.ensures.0 c.put_decimal-n.ensures.1)

pub returns : goal.returns
returns c =
    let line = task_line c.args.self.now.observer c.args.slot.number (task_at (slots_in c.args.self.now.table.now) c.args.slot.number)
    c.kind-kind.ensures c.label-label.ensures c.spare-spare.ensures c.pc-pc.ensures c.mail_shown-mail.ensures.0 in
    rw line (both_written (front c.args.slot.number line c.requires.1 c.put_decimal-n.ensures.0 c.put_decimal-n.ensures.1) c.put_line_rest.ensures)
