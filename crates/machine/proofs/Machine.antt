-- The machine's laws where labels are masks.
use Prim.Native.Nat.{ℕ, ◌+◌, ◌^◌, ◌<◌, ◌≤◌}
use mathlib.Core.Path.{◌≡◌, ◌∙◌}
use mathlib.Core.Bool.{true, false, cond}
use lib.Bits.{bit_and}
use Rattle.wire.proofs.Lists.{every_weaken}
use Rattle.label.specs.Label.{flows, join}
use Rattle.label.proofs.Order.{DownClosed, label_order, subset_15, subset_common}
use Rattle.machine.specs.declared.Message.{Message}
use Rattle.machine.specs.State.{Slot, unused, used, State, slot_at, has_live_task}
use Rattle.machine.specs.Turn.{current, turn_by}
use Rattle.machine.specs.Post.{post}
use Rattle.machine.specs.View.{view_by}
use Rattle.machine.specs.Valid.{Valid}
use Rattle.machine.proofs.Rules.{MessageFacts, SlotFacts, slot_facts}
use Rattle.machine.specs.Machine.{turns, busy, view}
use Rattle.machine.proofs.Valid.{with_version}
use Rattle.machine.proofs.Valid as Valid
use Rattle.machine.proofs.View.{AllSeen, view_all}
use Rattle.machine.proofs.View as View
use Rattle.machine.proofs.Turn as Turn
use Rattle.machine.proofs.Kept as Kept
use Rattle.machine.proofs.Post as Post

-- what flows to a label that flows to v flows to v
observer_down : (v : ℕ) → DownClosed flows (λ l. flows l v)
observer_down v k l = label_order.transitive k l v

-- ---- validity is kept

pub turns_valid : (n : ℕ) (s : State) → Valid s → Valid (turns n s)
turns_valid = Valid.turns_valid flows join label_order

pub view_valid : (v : ℕ) (s : State) → Valid s → Valid (view v s)
view_valid v = Valid.view_valid (λ l. flows l v)

pub post_valid : (j label value : ℕ) → label ≤ 15 → value < 2 ^ 32 → (s : State) → Valid s → Valid (post j label value s)
post_valid = Valid.post_valid

-- ---- and so are version and program

pub turns_version : (n : ℕ) (s : State) → (turns n s).version ≡ s.version
turns_version = Kept.turns_version flows join

-- what turns do as in version 2 is what they do
pub turns_as_2 : (n : ℕ) (s : State) → ((turns n (with_version 2 s)).slots ≡ (turns n s).slots) × ((turns n (with_version 2 s)).turn_slot ≡ (turns n s).turn_slot) × (busy n (with_version 2 s) ≡ busy n s)
turns_as_2 n s = (Kept.turns_slots_as flows join 2 n s, Kept.turns_slot_as flows join 2 n s, Kept.busy_as flows join 2 n s)

pub turns_program : (n : ℕ) (s : State) → (turns n s).program ≡ s.program
turns_program = Kept.turns_program flows join

-- ---- turns one after another, and their busy count

pub turns_none : (s : State) → s ≡ turns 0 s
turns_none = Turn.turns_none flows join

pub turns_more : (n : ℕ) (s : State) → turns (n + 1) s ≡ turn_by flows join (turns n s)
turns_more = Turn.turns_more flows join

pub turns_add : (m n : ℕ) (s : State) → turns (m + n) s ≡ turns n (turns m s)
turns_add = Turn.turns_add flows join

pub busy_none : (s : State) → busy 0 s ≡ 0
busy_none = Turn.busy_none flows join

pub busy_more : (n : ℕ) (s : State) → busy (n + 1) s ≡ busy n s + cond (has_live_task (current (turns n s))) 1 0
busy_more = Turn.busy_more flows join

pub busy_add : (m n : ℕ) (s : State) → busy (m + n) s ≡ busy m s + busy n (turns m s)
busy_add = Turn.busy_add flows join

pub busy_most : (n : ℕ) (s : State) → busy n s ≤ n
busy_most = Turn.busy_most flows join

-- ---- views and turns

-- the view after n turns of the view is the view after n turns
pub turns_view : (v n : ℕ) (s : State) → Valid s → view v (turns n (view v s)) ≡ view v (turns n s)
turns_view v = Turn.turns_view flows join label_order (λ l. flows l v) (observer_down v)

pub turns_same : (v n : ℕ) (s t : State) → Valid s → Valid t → view v s ≡ view v t → view v (turns n s) ≡ view v (turns n t)
turns_same v = Turn.turns_same flows join label_order (λ l. flows l v) (observer_down v)

-- ---- views and posts

-- where its label flows to v, the view of a post is the post to the view
pub post_shown : (v j label value : ℕ) → flows label v ≡ true → (s : State) → view v (post j label value s) ≡ post j label value (view v s)
post_shown v = Post.post_shown (λ l. flows l v)

-- else the view is as it was
pub post_hidden : (v j label value : ℕ) → flows label v ≡ false → (s : State) → view v (post j label value s) ≡ view v s
post_hidden v = Post.post_hidden (λ l. flows l v)

-- ---- views of views

-- a view of a view is the view for the bits common to both
pub view_common : (v w : ℕ) (s : State) → view w (view v s) ≡ view (bit_and v w) s
view_common v w s = View.view_view (λ l. flows l w) (λ l. flows l v) s ∙ (λ i. view_by (λ l. subset_common l v w i) s)

pub view_either : (v w : ℕ) (s : State) → view w (view v s) ≡ view v (view w s)
view_either v w = View.view_either (λ l. flows l w) (λ l. flows l v)

pub view_twice : (v : ℕ) (s : State) → view v (view v s) ≡ view v s
view_twice v = View.view_twice (λ l. flows l v)

-- ---- label 15

slot_seen : (v n s : ℕ) (x : Slot) → SlotFacts v n s x → AllSeen (λ l. flows l 15) x
slot_seen v n s unused h = tt
slot_seen v n s (used t) h =
    let message : (m : Message) → MessageFacts m → flows m.label 15 ≡ true = λ m f. subset_15 m.label f.label in
    (subset_15 t.label h.label, every_weaken MessageFacts (λ (m : Message). flows m.label 15 ≡ true) message t.mailbox h.mailbox.each)

-- the observer 15 sees everything
pub view_15 : (s : State) → Valid s → view 15 s ≡ s
view_15 s ok = view_all (λ l. flows l 15) s (λ i. slot_seen _ _ i (slot_at s.slots i) (slot_facts _ _ i (slot_at s.slots i) (ok.tasks i)))
