-- `loader::load_task` meets its contract: a new task, then its registers, then its messages.
use Prim.Native.Nat.{◌+◌}
use mathlib.Core.Path.{ap, ◌∙◌}
use lib.ListN.{drop, length-drop}
use native.Mathlib.Omega.{arith}
use Rattle.machine.specs.State.{with_mailbox}
use Rattle.image.specs.Format.{task_size}
use Rattle.image.specs.Record.{mailbox_of}
use Rattle.image.specs.Inner.{clearance_width}
use Rattle.image.proofs.Offsets.{task_at_lem}
use Rattle.table.specs.Table.{slots_in}
use Rattle.table.specs.Change.{change}
use Rattle.table.proofs.Change.{length_slots}
use Rattle.loader.specs.Loading.{registers_set}
use Rattle.loader.proofs.Loading.{from_on, record_long, registers_here, task_loaded}
use Rattle.loader.proofs.load_task.Goals as goal

pub load_mailbox-requires : goal.load_mailbox-requires
load_mailbox-requires c =
    let a = c.args in
    let at = task_at_lem a.version a.bytes.now in
    let width = c.clearance_width-width.ensures.0 in
    let pc = rw (from_on, width, ← at.pc) at c.decode_u16-pc.ensures.0 in
    let new = rw (c.clearance.ensures, pc, width, ← at.kind, ← at.label, ← at.spare) at c.put_task.ensures in
    let loaded = rw (from_on, width) at c.load_registers.ensures ∙ ap (change a.slot.number (registers_set 8 (drop (5 + clearance_width a.version) a.bytes.now))) new in
    let here = registers_here a.version a.bytes.now c.requires a.slot.number (slots_in a.table.now) (omega (arith, a.slot.in_range, length_slots a.table.now.words)) in
    rw (loaded, from_on, c.task_size.ensures.0) (here, c.requires.messages, c.requires.labels)

pub returns : goal.returns
returns c =
    let a = c.args in
    let r = a.bytes.now in
    let at = task_at_lem a.version r in
    let width = c.clearance_width-width.ensures.0 in
    let pc = rw (from_on, width, ← at.pc) at c.decode_u16-pc.ensures.0 in
    let new = rw (c.clearance.ensures, pc, width, ← at.kind, ← at.label, ← at.spare) at c.put_task.ensures in
    let loaded = rw (from_on, width) at c.load_registers.ensures ∙ ap (change a.slot.number (registers_set 8 (drop (5 + clearance_width a.version) r))) new in
    rw (from_on, c.task_size.ensures.0) at c.load_mailbox.ensures ∙ ap (change a.slot.number (with_mailbox (mailbox_of (drop (task_size a.version) r)))) loaded
    ∙ task_loaded a.version r c.requires a.slot.number (slots_in a.table.now)

pub bounds-bytes-0 : goal.bounds-bytes-0
bounds-bytes-0 c = omega (arith, record_long _ _ c.requires)

pub bounds-bytes-1 : goal.bounds-bytes-1
bounds-bytes-1 c = omega (arith, record_long _ _ c.requires)

pub bounds-bytes-width : goal.bounds-bytes-width
bounds-bytes-width c = omega (arith, c.clearance_width-width.ensures, record_long _ _ c.requires)

pub slice_bounds-decode_u16-count : goal.slice_bounds-decode_u16-count
slice_bounds-decode_u16-count c = omega (arith, c.clearance_width-width.ensures, record_long _ _ c.requires)

pub slice_bounds-decode_u16-start : goal.slice_bounds-decode_u16-start
slice_bounds-decode_u16-start c = omega (arith, c.clearance_width-width.ensures, record_long _ _ c.requires)

pub slice_bounds-load_registers-count : goal.slice_bounds-load_registers-count
slice_bounds-load_registers-count c = omega (arith, c.clearance_width-width.ensures, record_long _ _ c.requires)

pub slice_bounds-load_registers-start : goal.slice_bounds-load_registers-start
slice_bounds-load_registers-start c = omega (arith, c.clearance_width-width.ensures, record_long _ _ c.requires)

pub load_registers-requires : goal.load_registers-requires
load_registers-requires c = rw (from_on, length-drop) (omega (arith, c.clearance_width-width.ensures, record_long _ _ c.requires))
