use Prim.Native.Nat.{◌+◌, ◌-◌, ◌*◌, ◌≤◌}
use mathlib.Core.Path.{◌≡◌, ◌∙◌}
use native.Mathlib.Omega.{arith}
use lib.ListN.{length, take, drop}
use Rattle.wire.specs.Numbers.{encode_number}
use Rattle.wire.specs.Items.{encode_items}
use Rattle.machine.specs.State.{register}
use Rattle.wire.proofs.Output.{written_fits, item_part, items_more, items_all}
use Rattle.image.proofs.Records.{length_registers}
use Rattle.table.specs.Table.{slots_in}
use Rattle.table.specs.Change.{task_at}
use Rattle.snapshot.proofs.Writing.{eight_registers}
use Rattle.snapshot.proofs.View.write_registers.Goals as goal

pub loop-a-preserved : goal.loop-a-preserved
loop-a-preserved c =
    let out = c.args.out.now in
    let h = c.loop-a in
    let t = task_at (slots_in c.args.self.now.table.now) c.args.slot.number in
    let eight = eight_registers c.args.self.now.table.now c.args.slot.number c.requires.1 in
    let room : length (encode_items (encode_number 4) t.registers) ≤ length out = omega (arith, length_registers t.registers, eight, c.requires.0) in
    let wrote = rw c.register.ensures at c.encode_u32.ensures in
    let part = take (length h.out - 4 * h.a) (drop (4 * h.a) h.out) in
    let fits = written_fits (encode_number 4 (register t h.a)) part (item_part (encode_number 4) t.registers out room 0 (omega (arith, eight)) h.invariant) in
    let more = items_more (encode_number 4) t.registers out room 0 (omega (arith, eight)) h.invariant (wrote ∙ fits) in
    let four : 4 * h.a + 4 ≡ 4 * (h.a + 1) = omega arith in
    rw four at more

pub returns : goal.returns
returns c =
    let eight = eight_registers c.args.self.now.table.now c.args.slot.number c.requires.1 in
    items_all (encode_number 4) (task_at (slots_in c.args.self.now.table.now) c.args.slot.number).registers c.args.out.now (omega (arith, eight)) c.loop-a.invariant
