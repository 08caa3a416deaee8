-- `effect::accepting` meets its contract: a slot, a live task in it, and then room.
use Rattle.std.proofs.Common.{ℕ, ◌≡◌, Bool, true, false, is_some, IfSome, ap, ◌∙◌, refl}
use Rattle.std.specs.Bool.{then_some}
use Rattle.table.specs.Table.{slots_in}
use Rattle.table.specs.Change.{task_at}
use Rattle.machine.specs.declared.SlotNumber.{SlotNumber}
use Rattle.search.specs.declared.Looked.{Looked}
use Rattle.search.proofs.Claims.{room_is_the_send_rules}
use Rattle.effect.proofs.Effects.{accepts_live}
use Rattle.effect.proofs.accepting.Goals as goal

-- the slot is given where the test holds, and it is that one
is_some_then : {A : Type 0} (b : Bool) (x : A) → is_some (then_some b x) ≡ b
is_some_then true x = refl
is_some_then false x = refl

numbered_then : (b : Bool) (x : SlotNumber) (to : ℕ) → x.number ≡ to → IfSome (then_some b x) (λ s. s.number ≡ to)
numbered_then true x to e = e
numbered_then false x to e = tt

pub returns-then-is_live : goal.returns-then-is_live
returns-then-is_live c =
    let a = c.args in
    let ms = (task_at (slots_in a.table.now) a.to).mailbox in
    let room = ap (λ (r : Looked). r.room) c.look.ensures ∙ room_is_the_send_rules a.label ms in
    rw c.then_some.ensures
    (record {
      told = is_some_then c.look.result.room _ ∙ room ∙ accepts_live (slots_in a.table.now) a.to a.label (cc);
      numbered = numbered_then c.look.result.room _ a.to refl;
    })
