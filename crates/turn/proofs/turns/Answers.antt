use Prim.Native.Nat.{◌+◌, ◌-◌}
use mathlib.Core.Path.{◌≡◌, ap}
use native.Mathlib.Omega.{arith}
use borrow.Author.Tests.{leb-true}
use Rattle.machine.specs.State.{State}
use Rattle.machine.proofs.Machine.{busy_most}
use Rattle.machine.proofs.Bounds.{valid_within}
use Rattle.table.specs.Table.{slots_in}
use Rattle.turn.specs.Answer.{running}
use Rattle.turn.proofs.Steps.{ran_none, ran_round, ran_valid, ran_within}
use Rattle.turn.proofs.turns.Goals as goal

pub loop-left-init : goal.loop-left-init
loop-left-init c =
    let a = c.args in
    let none : a.n - a.n ≡ 0 = omega arith in
    rw none (omega arith, leb-true a.first 15 c.requires.turn_slot, ran_none a.program.now a.first (slots_in a.table.now))

pub round-busy-requires : goal.round-busy-requires
round-busy-requires c =
    let h = c.loop-left in
    let ran = h.invariant.2 in
    let end = c.round_end-end.ensures in
    let within = valid_within (running c.args.program.now c.args.first c.args.table.now) c.requires in
    (ran_valid ran c.requires, omega (arith, end), omega (arith, end), rw (c.bottom-bottom.ensures, c.top-top.ensures) (ran_within ran _ _ within))

pub overflow_add-busy : goal.overflow_add-busy
overflow_add-busy c =
    let h = c.loop-left in
    let a = c.args in
    let end = c.round_end-end in
    let met = busy_most (a.n - h.left) (running a.program.now a.first a.table.now) in
    let meets = busy_most (end.result - h.slot) (running a.program.now h.slot h.table) in
    omega (arith, end.ensures, h.invariant.2.met_is, met, c.round-busy.ensures.0, meets)

pub loop-left-preserved : goal.loop-left-preserved
loop-left-preserved c =
    let h = c.loop-left in
    let a = c.args in
    let end = c.round_end-end in
    let k = end.result - h.slot in
    let r = c.round-busy in
    let more : a.n - (h.left - k) ≡ a.n - h.left + k = omega (arith, end.ensures, h.invariant.0) in
    (omega (arith, h.invariant.0), omega (arith, c.next_slot-slot.ensures, end.ensures), rw (more, c.next_slot-slot.ensures) (ran_round h.invariant.2 k _ _ _ r.ensures.0 r.ensures.1))

pub returns : goal.returns
returns c =
    let h = c.loop-left in
    let a = c.args in
    let all : a.n - h.left ≡ a.n = omega arith in
    let ran = rw all at h.invariant.2 in
    (λ i. record { turn = (ran.state i).turn_slot; busy = ran.met_is i }, ap (λ (s : State). s.slots) ran.state)
