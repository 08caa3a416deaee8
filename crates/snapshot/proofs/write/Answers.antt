-- `snapshot::write` meets its contract: what stands ahead of the slots, and the slots behind it.
use Prim.Native.Nat.{ℕ, ◌+◌, ◌≤◌}
use mathlib.Core.Path.{sym, ap, ◌∙◌}
use mathlib.Core.List.{List}
use native.Mathlib.Omega.{arith}
use lib.ListN.{length}
use Rattle.wire.specs.Items.{encode_items}
use Rattle.wire.proofs.Output.{written_fits, written_short, lent}
use Rattle.image.specs.Image.{version_of, program_of, ahead_bytes}
use Rattle.image.proofs.Front.{ahead_length}
use Rattle.table.specs.Table.{slots_in}
use Rattle.snapshot.specs.Writing.{snapshot_bytes, shown_slot}
use Rattle.snapshot.proofs.Writing.{snapshot_parts, snapshot_length}
use Rattle.snapshot.proofs.write.Goals as goal

pub returns-then-out-length : goal.returns-then-out-length
returns-then-out-length c =
    let a = c.args in
    let bytes = snapshot_bytes a.table.now a.image.now a.turn a.observer in
    let size = snapshot_length a.table.now a.image.now a.turn a.observer in
    let program = ap length c.program-program.ensures in
    let slots = rw c.version-version.ensures at c.slots_size.ensures.0 in
    (omega (arith, size, program, slots), sym (written_short bytes a.out.now (omega (arith, size, program, slots))))

pub returns : goal.returns
returns c =
    let a = c.args in
    let table = a.table.now in
    let image = a.image.now in
    let bytes = snapshot_bytes table image a.turn a.observer in
    let size = snapshot_length table image a.turn a.observer in
    let version = c.version-version.ensures in
    let program = c.program-program.ensures in
    let counted = rw version at c.slots_size.ensures.0 in
    let head = rw (version, program) at c.write_head.ensures in
    let long = ahead_length (version_of image) (program_of image) a.turn ∙ ap (λ (l : List ℕ). 3 + length l + 1) (sym program) in
    let slots = encode_items (shown_slot (version_of image) a.observer) (slots_in table) in
    let whole = lent (ahead_bytes (version_of image) (program_of image) a.turn) slots a.out.now _ long head (rw version at c.write_slots.ensures) in
    let room : length bytes ≤ length a.out.now = omega (arith, size, ap length program, counted) in
    (omega (arith, size, ap length program, counted), whole ∙ rw (← snapshot_parts table image a.turn a.observer) (sym (written_fits bytes a.out.now room)))
