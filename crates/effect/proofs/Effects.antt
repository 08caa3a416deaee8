-- Laws of the effects: what the changes of the table come to is what the instruction does to the slots.
use Rattle.std.proofs.Common.{◌≡◌, ℕ, ◌+◌, ◌-◌, ◌*◌, ◌%◌, ◌^◌, ◌<◌, ◌≤◌, Bool, true, false, ◌&&◌, eqb, ltb, ◌≢◌, List, length, set, sym, refl, ap, ◌∙◌, subst, arith, lt-ltb, ne_eqb, le-leb}
use borrow.Author.Tests.{lt-leb}
use lib.ListN.{get_or-eq_default}
use lib.Seq.{set-get_or}
use Rattle.label.specs.Label.{is_subset, flows, join}
use Rattle.wire.proofs.Lists.{and_both}
use Rattle.instruction.specs.declared.Instruction.{Instruction}
use Rattle.instruction.specs.declared.Instruction.TheVariants.{End, Set, Copy, Add, Subtract, Go, Zero, Raise, Send, Take, Poll, Sandbox, Identity, Count}
use Rattle.instruction.specs.Program.{count}
use Rattle.instruction.proofs.Table.{Sound, decode_sound}
use Rattle.machine.specs.Limits.{highest_label}
use Rattle.machine.specs.declared.Message.{Message}
use Rattle.machine.specs.State.{Task, Slot, unused, used, State, slot_at, is_live, has_live_task, with_label, with_spare, with_pc, register, with_register, next, without_message}
use Rattle.machine.specs.declared.Found.{Found}
use Rattle.machine.specs.Effect.{Action, no_action, deliver, spawn, Outcome, without_action, stopped, receives, child_of, find, found, execute}
use Rattle.machine.specs.Turn.{has_room, enqueue, perform, applied}
use Rattle.machine.specs.Post.{mail_of, has_more}
use Rattle.machine.specs.Valid.{Valid}
use Rattle.machine.proofs.Rules.{SlotFacts, slot_facts}
use Rattle.machine.proofs.Mailbox.{mailbox_room_lem}
use Rattle.machine.proofs.Search.{find_some, find_none}
use Rattle.machine.proofs.Post.{deliver_more}
use Rattle.table.specs.Change.{task_or, task_at, Used, message_at, change_slot, change, slot_with_kind, with_message}
use Rattle.table.proofs.Change.{length_slots, change_same, change_none, change_set, change_at, change_here}
use Rattle.effect.specs.Effects.{executed, computed, accepts, RoomFor, GoesOn, Ready, WasDecoded}

-- the place that was read, and 1 more
pub place_up : (s : ℕ) (ss : List Slot) → change s (with_pc ((task_at ss s).pc + 1)) ss ≡ change s next ss
place_up s ss = change_same ss s (with_pc ((task_at ss s).pc + 1)) next (λ t e. rw e)

-- the message that was read goes
pub message_out : (s a b i : ℕ) (ss : List Slot) {x y : ℕ} → x ≡ (message_at ss s i).value → y ≡ (message_at ss s i).sender
    → change s (λ t. next (with_register b y (with_register a x (without_message i t)))) ss ≡ change s (receives a b i) ss
message_out s a b i ss {x} {y} e f =
    change_same ss s (λ t. next (with_register b y (with_register a x (without_message i t)))) (receives a b i) (λ t h. rw (e, f, h))

-- ---- what an instruction comes to: its task stops, or changes and then acts

-- a task that gets a kind other than 0
pub kind_here : (ss : List Slot) (s : ℕ) → slot_at ss s ≡ used (task_at ss s) → (k : ℕ) → eqb k 0 ≡ false
    → set ss s (slot_with_kind k (slot_at ss s)) ≡ applied s (stopped k (task_at ss s)) ss
kind_here ss s here k h = ap (λ (x : Slot). set ss s (slot_with_kind k x)) here ∙ rw h

module _ {s : ℕ} {ss : List Slot} (ready : Ready s ss) where
  stops : (i : Instruction) (k : ℕ) → eqb k 0 ≡ false → execute flows join i s (task_at ss s) ≡ stopped k (task_at ss s)
      → set ss s (slot_with_kind k (slot_at ss s)) ≡ executed i s ss
  unfolding executed
  stops i k z h = kind_here ss s ready.goes.here k z ∙ ap (λ (o : Outcome). applied s o ss) (sym h)

  -- its own change first, then its action
  with_action : (i : Instruction) (f : Task → Task) (a : Action) → execute flows join i s (task_at ss s) ≡ record { task = f (task_at ss s); action = a }
      → perform a (change s f ss) ≡ executed i s ss
  unfolding executed
  with_action i f a h = ap (perform a) (change_here ss s ready.goes.here f) ∙ ap (λ (o : Outcome). applied s o ss) (sym h)

  -- or its own change alone
  alone : (i : Instruction) (f : Task → Task) → execute flows join i s (task_at ss s) ≡ without_action (f (task_at ss s))
      → change s f ss ≡ executed i s ss
  alone i f h = with_action i f no_action h

  -- ---- registers and place

  pub end_done : (after : List Slot) → after ≡ set ss s (slot_with_kind 2 (slot_at ss s)) → after ≡ executed End s ss
  unfolding execute
  end_done after e = e ∙ stops End 2 refl refl

  pub set_done : (after : List Slot) (a b c : ℕ) → after ≡ change s (λ t. next (with_register a (b * 256 + c) t)) ss → after ≡ executed (Set a b c) s ss
  unfolding execute
  set_done after a b c e = e ∙ alone (Set a b c) (λ t. next (with_register a (b * 256 + c) t)) refl

  pub copy_done : (a b : ℕ) {x : ℕ} → x ≡ register (task_at ss s) b → change s (λ t. next (with_register a x t)) ss ≡ executed (Copy a b) s ss
  unfolding execute
  copy_done a b {x} e = alone (Copy a b) (λ t. next (with_register a x t)) (rw e)

  pub add_done : (after : List Slot) (a b c : ℕ) → after ≡ change s (computed (λ x y. (x + y) % 2 ^ 32) a b c) ss → after ≡ executed (Add a b c) s ss
  unfolding execute
  add_done after a b c e = e ∙ alone (Add a b c) (computed (λ x y. (x + y) % 2 ^ 32) a b c) refl

  pub subtract_done : (after : List Slot) (a b c : ℕ) → after ≡ change s (computed (λ x y. (x + 2 ^ 32 - y) % 2 ^ 32) a b c) ss
      → after ≡ executed (Subtract a b c) s ss
  unfolding execute
  subtract_done after a b c e = e ∙ alone (Subtract a b c) (computed (λ x y. (x + 2 ^ 32 - y) % 2 ^ 32) a b c) refl

  pub go_done : (after : List Slot) (a : ℕ) → after ≡ change s (with_pc a) ss → after ≡ executed (Go a) s ss
  unfolding execute
  go_done after a e = e ∙ alone (Go a) (with_pc a) refl

  pub zero_jumps : (a b : ℕ) {x : ℕ} → x ≡ register (task_at ss s) a → x ≡ 0 → change s (with_pc b) ss ≡ executed (Zero a b) s ss
  unfolding execute
  zero_jumps a b e z = alone (Zero a b) (with_pc b) (rw (← e, z))

  pub zero_goes_on : (a b : ℕ) {x : ℕ} → x ≡ register (task_at ss s) a → x ≢ 0 → change s next ss ≡ executed (Zero a b) s ss
  unfolding execute
  zero_goes_on a b {x} e z = alone (Zero a b) next (rw (← e, ne_eqb x 0 z))

  -- x is the label that the raise comes to, and the test is whether it stays within the clearance
  module _ (a : ℕ) {own x clearance : ℕ} {within : Bool} (label : own ≡ (task_at ss s).label) (raised : x ≡ join own a)
      (most : clearance ≡ (task_at ss s).clearance) (test : within ≡ is_subset x clearance) where
    raise_test : is_subset (join (task_at ss s).label a) (task_at ss s).clearance ≡ within
    raise_test = rw (← label, ← raised, ← most, ← test)

    pub raise_done : within ≡ true → change s (λ t. next (with_label x t)) ss ≡ executed (Raise a) s ss
    unfolding execute
    raise_done e = alone (Raise a) (λ t. next (with_label x t)) (rw (raise_test, e, raised, label))

    pub raise_stopped : within ≡ false → set ss s (slot_with_kind 6 (slot_at ss s)) ≡ executed (Raise a) s ss
    unfolding execute
    raise_stopped e = stops (Raise a) 6 refl (rw (raise_test, e))

  pub identity_done : (a b : ℕ) {own : ℕ} → own ≡ (task_at ss s).label
      → change s (λ t. next (with_register b s (with_register a own t))) ss ≡ executed (Identity a b) s ss
  unfolding execute
  identity_done a b {own} e = alone (Identity a b) (λ t. next (with_register b s (with_register a own t))) (rw e)

  -- ---- messages

  module _ (a b c : ℕ) {own : ℕ} (label : own ≡ (task_at ss s).label) where
    pub send_done : {to value : ℕ} → flows own b ≡ true → to ≡ register (task_at ss s) a → value ≡ register (task_at ss s) c
        → perform (deliver to (record { label = b; sender = s; value = value })) (change s next ss) ≡ executed (Send a b c) s ss
    unfolding execute
    send_done {to} {value} admitted e f =
        with_action (Send a b c) next (deliver to (record { label = b; sender = s; value = value })) (rw (← label, admitted, e, f))

    pub send_stopped : flows own b ≡ false → set ss s (slot_with_kind 4 (slot_at ss s)) ≡ executed (Send a b c) s ss
    unfolding execute
    send_stopped refused = stops (Send a b c) 4 refl (rw (← label, refused))

  -- f is what the task's own search told
  module _ (a b : ℕ) {own : ℕ} {f : Found} (label : own ≡ (task_at ss s).label) (told : f ≡ find flows own (task_at ss s).mailbox) where
    own_oldest : f.oldest ≡ (found flows (task_at ss s)).oldest
    own_oldest = ap (λ (x : Found). x.oldest) told ∙ rw label

    pub take_some : f.oldest < length (task_at ss s).mailbox
        → (change s (receives a b f.oldest) ss ≡ executed (Take a b) s ss) × (true ≡ ltb 0 (found flows (task_at ss s)).receivable)
    unfolding execute
    take_some inside =
        let t = task_at ss s in
        let some : ltb 0 (found flows t).receivable ≡ true
        = lt-ltb 0 (found flows t).receivable (find_some flows t.label t.mailbox (omega (arith, own_oldest))) in
        (alone (Take a b) (receives a b f.oldest) (rw (own_oldest, some)), sym some)

    pub take_none : length (task_at ss s).mailbox ≤ f.oldest → (ss ≡ executed (Take a b) s ss) × (false ≡ ltb 0 (found flows (task_at ss s)).receivable)
    unfolding execute
    take_none past =
        let t = task_at ss s in
        let none : ltb 0 (found flows t).receivable ≡ false
        = rw (find_none flows t.label t.mailbox (omega (arith, own_oldest))) in
        (sym (change_none ss s (λ t. t) (λ t e. refl)) ∙ alone (Take a b) (λ t. t) (rw none), sym none)

  -- as take, where something is receivable
  pub poll_some : (a b c : ℕ) → ltb 0 (found flows (task_at ss s)).receivable ≡ true → executed (Take a b) s ss ≡ executed (Poll a b c) s ss
  unfolding executed execute
  poll_some a b c e = rw e

  pub poll_none : (a b c : ℕ) → ltb 0 (found flows (task_at ss s)).receivable ≡ false → change s (with_pc c) (executed (Take a b) s ss) ≡ executed (Poll a b c) s ss
  unfolding executed execute
  poll_none a b c e = rw e (change_set s (with_pc c) ss (used (task_at ss s)))

  pub count_done : (a : ℕ) {own : ℕ} {f : Found} → own ≡ (task_at ss s).label → f ≡ find flows own (task_at ss s).mailbox
      → change s (λ t. next (with_register a f.receivable t)) ss ≡ executed (Count a) s ss
  unfolding execute
  count_done a {f = f} label told = alone (Count a) (λ t. next (with_register a f.receivable t)) (rw (told, label))

  -- ---- new tasks

  module _ (a b c : ℕ) {spare : ℕ} (has : spare ≡ (task_at ss s).spare) where
    pub sandbox_done : {own clearance left child : ℕ} → c ≤ spare → own ≡ (task_at ss s).label → clearance ≡ (task_at ss s).clearance → left ≡ spare - c
        → child ≡ s + left + 1
        → set (change s (λ t. next (with_register a child (with_spare left t))) ss) child (used (child_of s own clearance b c)) ≡ executed (Sandbox a b c) s ss
    unfolding execute
    sandbox_done {own} {clearance} {left} {child} enough l m e f =
        with_action (Sandbox a b c) (λ t. next (with_register a child (with_spare left t))) (spawn child (child_of s own clearance b c))
        (rw (f, e, l, m, ← has, le-leb c spare enough))

    pub sandbox_stopped : spare < c → set ss s (slot_with_kind 5 (slot_at ss s)) ≡ executed (Sandbox a b c) s ss
    unfolding execute
    sandbox_stopped few = stops (Sandbox a b c) 5 refl (rw (← has, lt-leb c spare few))

-- ---- a message delivered to a slot

-- a mailbox of a valid state has room in the table where it has fewer than four messages of a label
pub valid_room : {s : State} → Valid s → (j l : ℕ) → l ≤ highest_label → RoomFor l (task_at s.slots j).mailbox
valid_room {s} ok j = roomy (slot_at s.slots j) (slot_facts s.version (count s.program) j (slot_at s.slots j) (ok.tasks j))
  where
    roomy : (x : Slot) → SlotFacts s.version (count s.program) j x → (l : ℕ) → l ≤ highest_label → RoomFor l (task_or x).mailbox
    roomy unused f l h = (h, λ room. omega arith)
    roomy (used t) f l h = (h, mailbox_room_lem t.mailbox f.mailbox l h)

-- a slot that accepts a message has room for it in the table
pub accepts_room : (ss : List Slot) (to l : ℕ) → accepts l (slot_at ss to) ≡ true → RoomFor l (task_at ss to).mailbox → Used to ss × (length (task_at ss to).mailbox < 64)
accepts_room ss to l = there (slot_at ss to)
  where
    there : (x : Slot) → accepts l x ≡ true → RoomFor l (task_or x).mailbox → (x ≡ used (task_or x)) × (length (task_or x).mailbox < 64)
    there unused e room = let z : ◌≡◌ {A = ℕ} 0 1 = cc in absurd (omega arith)
    there (used t) e room = (refl, room.1 (and_both (is_live t) (has_room l t.mailbox) e).1)

-- a live task is there
pub live_here : (ss : List Slot) (s : ℕ) → has_live_task (slot_at ss s) ≡ true → Used s ss
live_here ss s = there (slot_at ss s)
  where
    there : (x : Slot) → has_live_task x ≡ true → x ≡ used (task_or x)
    there unused e = cc
    there (used t) e = refl

module _ (ss : List Slot) (to l : ℕ) where
  accepts_both : accepts l (slot_at ss to) ≡ (has_live_task (slot_at ss to) && has_room l (task_at ss to).mailbox)
  accepts_both = both (slot_at ss to)
    where
      both : (x : Slot) → accepts l x ≡ (has_live_task x && has_room l (task_or x).mailbox)
      both unused = refl
      both (used t) = refl

  pub accepts_live : has_live_task (slot_at ss to) ≡ true → has_room l (task_at ss to).mailbox ≡ accepts l (slot_at ss to)
  accepts_live live = rw (accepts_both, live)

  pub accepts_stopped : has_live_task (slot_at ss to) ≡ false → false ≡ accepts l (slot_at ss to)
  accepts_stopped stopped = rw (accepts_both, stopped)

-- there is no slot above 15
pub accepts_beyond : (ss : List Slot) (to l : ℕ) → length ss ≤ to → false ≡ accepts l (slot_at ss to)
accepts_beyond ss to l past = rw (get_or-eq_default ss unused past)

-- where a slot accepts nothing: its task is not live, or there is no such slot
pub ruleset accepts_none = (accepts_stopped, accepts_beyond, length_slots)

module _ (ss : List Slot) (to : ℕ) (m : Message) where
  -- the slots after the delivery, and whether the message joined
  abbrev Delivered : List Slot → Bool → Type 0
  Delivered after joined = (after ≡ perform (deliver to m) ss) × (joined ≡ has_more to ss after)

  told : {after : List Slot} {joined : Bool} → accepts m.label (slot_at ss to) ≡ joined → after ≡ perform (deliver to m) ss → Delivered after joined
  told e f = (f, sym (ap (has_more to ss) f ∙ deliver_more m ss to ∙ same (slot_at ss to) ∙ e))
    where
      same : (x : Slot) → (has_live_task x && has_room m.label (mail_of x)) ≡ accepts m.label x
      same unused = refl
      same (used t) = refl

  -- a slot that accepts the message gets it
  pub deliver_joins : accepts m.label (slot_at ss to) ≡ true → {after : List Slot} → after ≡ change to (with_message m) ss → Delivered after true
  deliver_joins e changed = told e (changed ∙ ap (set ss to) (joins (slot_at ss to) e))
    where
      joins : (x : Slot) → accepts m.label x ≡ true → change_slot (with_message m) x ≡ enqueue m x
      joins unused e = refl
      joins (used t) e = rw e

  -- in all other cases it is dropped
  pub deliver_drops : accepts m.label (slot_at ss to) ≡ false → Delivered ss false
  deliver_drops e = told e (sym (set-get_or ss to unused) ∙ ap (set ss to) (stays (slot_at ss to) e))
    where
      stays : (x : Slot) → accepts m.label x ≡ false → x ≡ enqueue m x
      stays unused e = refl
      stays (used t) e = rw e

-- ---- a task that goes on still does once a field other than its place has changed

pub goes_on : {s : ℕ} {ss : List Slot} (f : Task → Task) → ((t : Task) → (f t).pc ≡ t.pc) → GoesOn s ss → GoesOn s (change s f ss)
goes_on {s} {ss} f same go =
    let x : slot_at (change s f ss) s ≡ used (f (task_at ss s)) = change_at s f ss ∙ ap (change_slot f) go.here in
    record { here = rw x; place = rw (x, same (task_at ss s)) go.place }

-- ---- operands of an instruction that was decoded

-- what the arms of the match know of it, and what a form knows of its operands
pub decoded_as : {i j : Instruction} → WasDecoded i → i ≡ j → WasDecoded j
decoded_as d e = subst WasDecoded e d

pub sound : {i : Instruction} (d : WasDecoded i) → Sound d.n i
sound {i} d = decode_sound d.n d.code d.a d.b d.c i d.legal

-- ---- the arms of the match over the instruction: one law serves every arm

-- the instruction is the form j
pub executed_as : (after ss : List Slot) (s : ℕ) (i j : Instruction) → i ≡ j → after ≡ executed j s ss → after ≡ executed i s ss
executed_as after ss s i j e h = rw e h

-- with the effects that have no function of their own
pub ruleset by_form = (executed_as, end_done, set_done, go_done, decoded_as)
