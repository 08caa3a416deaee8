-- `snapshot::View::write_task` meets its contract: each part behind those before.
use Prim.Native.Nat.{ℕ, ◌+◌}
use mathlib.Core.Path.{◌≡◌, refl, ap₂}
use mathlib.Core.List.{◌++◌}
use native.Mathlib.Omega.{arith}
use lib.ListN.{length, length-append}
use Rattle.wire.specs.Numbers.{encode_number}
use Rattle.wire.specs.Items.{encode_items}
use Rattle.wire.proofs.Output.{lent}
use Rattle.image.specs.Format.{task_size}
use Rattle.image.specs.Inner.{head_bytes}
use Rattle.image.proofs.Offsets.{task_size_lem, head_length}
use Rattle.image.proofs.Records.{length_registers}
use Rattle.table.specs.Table.{slots_in}
use Rattle.table.specs.Change.{task_at}
use Rattle.snapshot.specs.Writing.{shown_message, head_numbers}
use Rattle.snapshot.proofs.Writing.{task_shown, task_length, head_same, eight_registers}
use Rattle.snapshot.proofs.View.write_task.Goals as goal

pub returns : goal.returns
returns c =
    let out = c.args.out.now in
    let v = c.args.self.now.version in
    let t = task_at (slots_in c.args.self.now.table.now) c.args.slot.number in
    let eight = eight_registers c.args.self.now.table.now c.args.slot.number c.requires.0 in
    let mailbox = encode_items (shown_message c.args.self.now.observer) t.mailbox in
    let registers = encode_items (encode_number 4) t.registers in
    let fields = encode_number 2 (task_size v + length mailbox) ++ head_bytes v (head_numbers t) in
    let mail = c.mailbox_size-n.ensures.0 in
    let size = c.task_size-size.ensures.0 in
    let width = c.clearance_width.ensures.0 in
    let first = head_same v out (ap₂ (λ (m n : ℕ). m + n) size mail) refl c.write_fields.ensures in
    let seven : length fields ≡ 7 + c.clearance_width.result = omega (arith, head_length v (head_numbers t), width) in
    let second = lent fields registers out _ seven first c.write_registers.ensures in
    let long : length (fields ++ registers) ≡ 2 + c.task_size-size.result
    = omega (arith, length-append fields registers, head_length v (head_numbers t), length_registers t.registers, eight, size, task_size_lem v) in
    let third = lent (fields ++ registers) mailbox out _ long second c.write_mailbox.ensures in (
      omega (arith, size, mail, task_length v c.args.self.now.observer t eight),
      omega arith,
      rw (task_shown v c.args.self.now.observer t eight) third,
    )

pub write_fields-requires : goal.write_fields-requires
write_fields-requires c = (c.requires.0, omega (arith, c.requires.1, task_size_lem c.args.self.now.version))

pub slice_bounds-write_registers-count : goal.slice_bounds-write_registers-count
slice_bounds-write_registers-count c = omega (arith, c.requires.1, task_size_lem c.args.self.now.version, c.clearance_width.ensures.0)

pub slice_bounds-write_registers-start : goal.slice_bounds-write_registers-start
slice_bounds-write_registers-start c = omega (arith, c.requires.1, task_size_lem c.args.self.now.version, c.clearance_width.ensures.0)

pub write_registers-requires : goal.write_registers-requires
write_registers-requires c = (omega (arith, c.requires.1, task_size_lem c.args.self.now.version, c.clearance_width.ensures.0), c.requires.0)
