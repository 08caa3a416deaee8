-- `effect::sandbox` meets its contract: the parent's change, then the child.
use Rattle.std.proofs.Common.{refl, arith}
use Rattle.machine.specs.State.{with_spare}
use Rattle.table.proofs.Change.{change_change}
use Rattle.effect.proofs.Effects.{sandbox_done, sandbox_stopped, goes_on, sound}
use Rattle.effect.proofs.sandbox.Goals as goal

pub gets-requires : goal.gets-requires
gets-requires c = rw c.set_spare.ensures (goes_on (with_spare _) (λ t. refl) c.requires.0.goes, (sound c.requires.1).0)

pub spawn-requires : goal.spawn-requires
spawn-requires c = (sound c.requires.1).2.0

pub invariant_of-child : goal.invariant_of-child
invariant_of-child c =
    let size = (sound c.requires.1).2.0 in
    record { in_range = omega (arith, c.spare-spare.ensures, c.requires.0.spare, size) }

pub returns-then-c-spare : goal.returns-then-c-spare
returns-then-c-spare c =
    let spare = c.spare-spare in
    let own = c.label-own in
    let clearance = c.clearance-clearance in
    rw (c.spawn.ensures, c.gets.ensures, c.set_spare.ensures, change_change)
    (sandbox_done c.requires.0 _ _ _ spare.ensures (omega arith) own.ensures clearance.ensures refl refl)

pub returns-else-c-spare : goal.returns-else-c-spare
returns-else-c-spare c = rw c.set_kind.ensures (sandbox_stopped c.requires.0 _ _ _ c.spare-spare.ensures (omega arith))
