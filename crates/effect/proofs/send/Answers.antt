-- `effect::send` meets its contract: the place, then the message.
use Rattle.std.proofs.Common.{◌≡◌, ℕ, List, sym, refl, ◌∙◌, true}
use Rattle.label.specs.Label.{flows}
use Rattle.instruction.specs.declared.Instruction.TheVariants.{Send}
use Rattle.machine.specs.State.{Slot, next, register}
use Rattle.machine.specs.Effect.{deliver}
use Rattle.machine.specs.Turn.{perform}
use Rattle.table.specs.Table.{slots_in}
use Rattle.table.specs.Change.{task_at, change}
use Rattle.table.proofs.Change.{change_keeps}
use Rattle.effect.specs.Effects.{executed, Ready, RoomFor, WasDecoded}
use Rattle.effect.proofs.Effects.{accepts_room, deliver_joins, deliver_drops, send_done, send_stopped, sound}
use Rattle.effect.proofs.send.Goals as goal

-- ---- once the place has gone up

-- there is room in every mailbox that had it
room : (slot a b c : ℕ) (before after : List Slot) → Ready slot before → WasDecoded (Send a b c) → after ≡ change slot next before
    → (to : ℕ) → RoomFor b (task_at after to).mailbox
room slot a b c before after ready d e to = rw (e, change_keeps (λ t. t.mailbox) next (λ t. refl)) (ready.room _ _ (sound d).1)

-- what is delivered is what the instruction does
sent : (slot a b c own to value : ℕ) (before after : List Slot) → Ready slot before → after ≡ change slot next before
    → own ≡ (task_at before slot).label → flows own b ≡ true → to ≡ register (task_at before slot) a → value ≡ register (task_at before slot) c
    → perform (deliver to (record { label = b; sender = slot; value = value })) after ≡ executed (Send a b c) slot before
sent slot a b c own to value before after ready e label admits receiver figure = rw e (send_done ready _ _ _ label admits receiver figure)

pub append-requires : goal.append-requires
append-requires c =
    let a = c.args in
    let to = c.register-to.result in
    let slots = slots_in c.advance.new.table in
    let here = c.in-Some.ensures in
    let space = room a.slot.number a.a a.b a.c (slots_in a.table.now) slots c.requires.0 c.requires.1 c.advance.ensures to in
    let free = accepts_room slots to a.b (sym here.told) space in
    rw here.numbered (free.0, free.1, space.0)

pub returns-in-Some : goal.returns-in-Some
returns-in-Some c =
    let a = c.args in
    let here = c.in-Some.ensures in
    (deliver_joins (slots_in c.advance.new.table) c.register-to.result _ (sym here.told) (rw here.numbered at c.append.ensures)).0
    ∙ sent a.slot.number a.a a.b a.c c.label.result c.register-to.result c.register-value.result (slots_in a.table.now) (slots_in c.advance.new.table)
    c.requires.0 c.advance.ensures c.label.ensures (sym c.flows.ensures ∙ c.if-flows.true) c.register-to.ensures c.register-value.ensures

pub returns-in_default : goal.returns-in_default
returns-in_default c =
    let a = c.args in
    (deliver_drops (slots_in c.advance.new.table) c.register-to.result (record { label = a.b; sender = a.slot.number; value = c.register-value.result })
    (sym c.in_default.ensures.told)).0
    ∙ sent a.slot.number a.a a.b a.c c.label.result c.register-to.result c.register-value.result (slots_in a.table.now) (slots_in c.advance.new.table)
    c.requires.0 c.advance.ensures c.label.ensures (sym c.flows.ensures ∙ c.if-flows.true) c.register-to.ensures c.register-value.ensures

pub returns-else-flows : goal.returns-else-flows
returns-else-flows c = rw c.set_kind.ensures (send_stopped c.requires.0 _ _ _ c.label.ensures (sym c.flows.ensures ∙ c.if-flows.false))

pub register-to-requires : goal.register-to-requires
register-to-requires c = (c.requires.0.goes.here, (sound c.requires.1).0)

pub register-value-requires : goal.register-value-requires
register-value-requires c = (c.requires.0.goes.here, (sound c.requires.1).2)

pub accepting-requires : goal.accepting-requires
accepting-requires c =
    let a = c.args in
    (room a.slot.number a.a a.b a.c (slots_in a.table.now) (slots_in c.advance.new.table) c.requires.0 c.requires.1 c.advance.ensures c.register-to.result).0
