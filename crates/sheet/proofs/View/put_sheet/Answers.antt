-- `sheet::View::put_sheet` meets its contract: the lines are written behind the heading.
use Prim.Native.Nat.{ℕ, ◌≤◌}
use mathlib.Core.Path.{◌≡◌}
use mathlib.Core.List.{List}
use native.Mathlib.Omega.{arith}
use lib.ListN.{length, length-append}
use Rattle.wire.specs.Lists.{tabulate}
use Rattle.wire.specs.Output.{overwrite}
use Rattle.wire.proofs.Output.{FrontWritten, part_room, both_written}
use Rattle.text.specs.Text.{ascii}
use Rattle.sheet.specs.Sheet.{heading}
use Rattle.sheet.specs.declared.View.{View}
use Rattle.sheet.specs.Inner.{shown_sheet, seen_lines, seen_sheet}
use Rattle.sheet.proofs.View.put_sheet.Goals as goal

-- the heading has room, and with it written so have the lines
heading_room : (v : View) (out : List ℕ) → length (seen_sheet v) ≤ length out → length heading ≤ length out
unfolding shown_sheet
heading_room v out room = let whole = simp length-append at room in omega (arith, whole)

front : (v : View) (out : List ℕ) {n : ℕ} {new : List ℕ} → length (seen_sheet v) ≤ length out → (n ≡ length heading) × (new ≡ overwrite heading out)
    → FrontWritten heading (seen_lines v) out new n
unfolding shown_sheet
front v out room wrote = record { size = wrote.0; front = wrote.1; room = room }

pub put-n-requires : goal.put-n-requires
unfolding heading ascii tabulate
put-n-requires c = heading_room c.args.self.now c.args.out.now c.requires

pub put_lines-requires : goal.put_lines-requires
unfolding heading ascii tabulate
put_lines-requires c = part_room (front c.args.self.now c.args.out.now c.requires c.put-n.ensures)

pub returns : goal.returns
unfolding shown_sheet heading ascii tabulate
returns c = both_written (front c.args.self.now c.args.out.now c.requires c.put-n.ensures) c.put_lines.ensures
