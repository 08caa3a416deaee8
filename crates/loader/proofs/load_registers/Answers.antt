use Prim.Native.Nat.{◌*◌}
use mathlib.Core.Path.{◌≡◌, ap, ◌∙◌}
use native.Mathlib.Omega.{arith}
use lib.ListN.{drop}
use Rattle.wire.specs.Numbers.{decode_number}
use Rattle.machine.specs.State.{with_register}
use Rattle.table.specs.Table.{slots_in}
use Rattle.table.specs.Change.{change}
use Rattle.loader.proofs.Loading.{from_on, registers_none, registers_next}
use Rattle.loader.proofs.load_registers.Goals as goal

pub loop-a-preserved : goal.loop-a-preserved
loop-a-preserved c =
    let h = c.loop-a in
    let a = c.args in
    let x = c.decode_u32 in
    let e : x.result ≡ decode_number 4 (drop (4 * h.a) a.registers.now) = rw from_on at x.ensures in
    c.set_register.ensures ∙ ap (change a.slot.number (with_register h.a x.result)) h.invariant
    ∙ registers_next a.slot.number h.a x.result a.registers.now (slots_in a.table.now) e

pub returns : goal.returns
returns c =
    let a : c.loop-a.a ≡ 8 = omega arith in
    rw a at c.loop-a.invariant

pub loop-a-init : goal.loop-a-init
loop-a-init c = registers_none _ _ _
