-- Valid states stay valid: an outcome keeps every range, so a turn does, and so do a view and a post.
use Prim.Native.Nat.{ℕ, zero, suc, ◌+◌, ◌-◌, ◌*◌, ◌^◌, ◌≤◌, ◌<◌}
use mathlib.Core.Logic.{◌≢◌}
use mathlib.Core.Path.{◌≡◌, refl}
use mathlib.Core.Bool.{Bool, true, false, ◌&&◌}
use mathlib.Core.List.{List, [], ◌∷◌, ◌++◌, map}
use native.Mathlib.Nat.{mod-lt}
use native.Mathlib.Omega.{arith}
use borrow.Author.Tests.{leb-true, le-leb, eqb-true}
use lib.Dec.{leb, ltb, eqb}
use lib.ListN.{get_or, set, replicate, length-set, get_or-map}
use Rattle.std.specs.Prelude.{Option, Some, None}
use Rattle.wire.specs.Lists.{Bytes}
use Rattle.wire.proofs.Lists.{split, and_both, every_at, get_d_set_at}
use Rattle.label.specs.Label.{is_subset}
use Rattle.label.proofs.Order.{Order, subset_15}
use Rattle.instruction.specs.declared.Instruction.{Instruction}
use Rattle.instruction.specs.declared.Instruction.TheVariants.{End, Set, Copy, Add, Subtract, Go, Zero, Raise, Send, Take, Poll, Sandbox, Identity, Count}
use Rattle.instruction.proofs.Encode.{encode}
use Rattle.instruction.specs.Program.{count, instruction_at, is_legal}
use Rattle.instruction.proofs.Table.{Sound}
use Rattle.instruction.proofs.Program.{at_below, at_sound, at_bytes, legal_at}
use Rattle.machine.specs.Version.{has_clearances}
use Rattle.machine.specs.Limits.{highest_kind}
use Rattle.machine.specs.declared.Message.{Message}
use Rattle.machine.specs.State.{Task, Slot, unused, used, State, slot_at, spare_of, with_kind, with_label, with_spare, with_pc, with_mailbox, no_message, message, register, with_register, next}
use Rattle.machine.specs.Effect.{Action, no_action, deliver, spawn, Outcome, without_action, receives, child_of, child_slot, found, taken, execute, carried_out, outcome}
use Rattle.machine.specs.Turn.{has_room, enqueue, perform, applied, successor, step, turn_by, turns_by}
use Rattle.machine.specs.Post.{host_message, post}
use Rattle.machine.specs.View.{view_slot, view_by}
use Rattle.machine.specs.Valid.{Valid}
use Rattle.machine.proofs.Rules.{MessageFacts, MailboxFacts, five_kinds, six_kinds, ClearanceFacts, TaskFacts, SlotFacts, slot_facts, slot_valid, spares_free, spares_test}
use Rattle.machine.proofs.Mailbox.{mailbox_keep, mailbox_without, mailbox_append, mailbox_nil, mailbox_64}
use Rattle.machine.proofs.Search.{find_most}
use Rattle.machine.proofs.Effect.{outcome_contained}
use Rattle.machine.proofs.Spare.{Spares, spares_deliver, spares_view, spares_applied}

-- ---- a task with one field changed

module _ (v n s : ℕ) (t : Task) (ok : TaskFacts v n s t) where
  kind_ok : (k : ℕ) → 1 ≤ k → k ≤ highest_kind v → TaskFacts v n s (with_kind k t)
  kind_ok k h g = record { kind_low = h; kind_high = g; label = ok.label; clearance = ok.clearance; spare = ok.spare; pc = ok.pc; registers = ok.registers; words = ok.words; mailbox = ok.mailbox }

  label_ok : (l : ℕ) → l ≤ 15 → ClearanceFacts v l t.clearance → TaskFacts v n s (with_label l t)
  label_ok l h g = record { kind_low = ok.kind_low; kind_high = ok.kind_high; label = h; clearance = g; spare = ok.spare; pc = ok.pc; registers = ok.registers; words = ok.words; mailbox = ok.mailbox }

  spare_ok : (k : ℕ) → k ≤ t.spare → TaskFacts v n s (with_spare k t)
  spare_ok k h = record {
    kind_low = ok.kind_low;
    kind_high = ok.kind_high;
    label = ok.label;
    clearance = ok.clearance;
    spare = omega (arith, ok.spare);
    pc = ok.pc;
    registers = ok.registers;
    words = ok.words;
    mailbox = ok.mailbox;
  }

  pc_ok : (x : ℕ) → x ≤ n → TaskFacts v n s (with_pc x t)
  pc_ok x h = record { kind_low = ok.kind_low; kind_high = ok.kind_high; label = ok.label; clearance = ok.clearance; spare = ok.spare; pc = h; registers = ok.registers; words = ok.words; mailbox = ok.mailbox }

  mailbox_ok : (ms : List Message) → MailboxFacts ms → TaskFacts v n s (with_mailbox ms t)
  mailbox_ok ms h = record { kind_low = ok.kind_low; kind_high = ok.kind_high; label = ok.label; clearance = ok.clearance; spare = ok.spare; pc = ok.pc; registers = ok.registers; words = ok.words; mailbox = h }

  register_ok : (a x : ℕ) → x < 2 ^ 32 → TaskFacts v n s (with_register a x t)
  register_ok a x h = record {
    kind_low = ok.kind_low;
    kind_high = ok.kind_high;
    label = ok.label;
    clearance = ok.clearance;
    spare = ok.spare;
    pc = ok.pc;
    registers = rw length-set ok.registers;
    words = λ b. get_d_set_at (λ (y : ℕ). y < 2 ^ 32) t.registers a b x 0 (λ e. h) (ok.words b);
    mailbox = ok.mailbox;
  }

  next_ok : t.pc < n → TaskFacts v n s (next t)
  next_ok h = pc_ok (t.pc + 1) (omega arith)

-- ---- one task's outcome

-- the action, by the slot that it is for
abbrev ActionFacts : ℕ → ℕ → Action → Type 0
ActionFacts v n no_action = Unit {0}
ActionFacts v n (deliver j m) = MessageFacts m
ActionFacts v n (spawn j c) = TaskFacts v n j c

record OutcomeFacts (v n s : ℕ) (o : Outcome) : Type 0 where
  pub task : TaskFacts v n s o.task
  pub action : ActionFacts v n o.action

zeros_low : (k a : ℕ) → get_or (replicate k 0) a 0 < 2 ^ 32
zeros_low zero a = omega arith
zeros_low (suc k) zero = omega arith
zeros_low (suc k) (suc a) = zeros_low k a

child_words : (s a : ℕ) → s ≤ 15 → get_or (s ∷ replicate 7 0) a 0 < 2 ^ 32
child_words s zero h = omega arith
child_words s (suc a) h = zeros_low 7 a

module _ (may_flow : ℕ → ℕ → Bool) (joined : ℕ → ℕ → ℕ) (order : Order may_flow joined) (v n s : ℕ) (t : Task) (ok : TaskFacts v n s t) where
  without_action_ok : (t' : Task) → TaskFacts v n s t' → OutcomeFacts v n s (without_action t')
  without_action_ok t' h = record { task = h; action = tt }

  child_ok : (b c : ℕ) → b < n → 1 ≤ c → c ≤ t.spare → TaskFacts v n (child_slot s t c) (child_of s t.label t.clearance b c)
  child_ok b c h p q = record {
    kind_low = omega arith;
    kind_high = omega (arith, five_kinds v);
    label = ok.label;
    clearance = ok.clearance;
    spare = omega (arith, ok.spare);
    pc = omega arith;
    registers = refl;
    words = λ a. child_words s a (omega (arith, ok.spare));
    mailbox = mailbox_nil;
  }

  -- a label that stays within the clearance
  raised : (l : ℕ) → is_subset l t.clearance ≡ true → ClearanceFacts v l t.clearance
  raised l e = record { high = ok.clearance.high; above = e; fits = ok.clearance.fits }

  -- one that leaves it is met in version 2 alone: in version 1 the clearance is 15
  leaves : (l : ℕ) → l ≤ 15 → is_subset l t.clearance ≡ false → 6 ≤ highest_kind v
  leaves l low e =
      split (has_clearances v) (λ w. rw w (omega arith))
      (λ w. let all : t.clearance ≡ 15 = eqb-true t.clearance 15 (rw w at ok.clearance.fits) in
      let f : is_subset l 15 ≡ false = rw all at e in
      let g : is_subset l 15 ≡ true = subset_15 l low in
      let z : ◌≡◌ {A = ℕ} 0 1 = cc in omega arith)

  message_ok : (i : ℕ) → MessageFacts (message t i)
  message_ok i = every_at MessageFacts no_message (record { label = omega arith; sender = omega arith; value = omega arith }) t.mailbox ok.mailbox.each i

  module _ (before : t.pc < n) where
    -- register a gets x, and the place goes up
    gets_ok : (a x : ℕ) → x < 2 ^ 32 → OutcomeFacts v n s (without_action (next (with_register a x t)))
    gets_ok a x h = without_action_ok _ (next_ok v n s _ (register_ok v n s t ok a x h) before)

    receives_ok : (a b i : ℕ) → TaskFacts v n s (receives a b i t)
    receives_ok a b i =
        let m = message t i in
        let g = message_ok i in
        let left = mailbox_ok v n s t ok _ (mailbox_without t.mailbox ok.mailbox i) in
        next_ok v n s _ (register_ok v n s _ (register_ok v n s _ left a m.value g.value) b m.sender (omega (arith, g.sender))) before

    taken_ok : (a b : ℕ) (otherwise : Task) → TaskFacts v n s otherwise → OutcomeFacts v n s (taken may_flow a b otherwise t)
    taken_ok a b otherwise h =
        split (ltb 0 (found may_flow t).receivable) (λ e. rw e (without_action_ok _ (receives_ok a b (found may_flow t).oldest))) (λ e. rw e (without_action_ok otherwise h))

    -- a mailbox holds at most 64 messages, and no more are receivable
    receivable_64 : (found may_flow t).receivable ≤ 64
    receivable_64 = omega (arith, find_most may_flow t.label t.mailbox, mailbox_64 t.mailbox ok.mailbox)

    execute_ok : (i : Instruction) → Sound n i → Bytes (encode i) → OutcomeFacts v n s (execute may_flow joined i s t)
    unfolding execute
    execute_ok End h g = without_action_ok _ (kind_ok v n s t ok 2 (omega arith) (omega (arith, five_kinds v)))
    execute_ok (Set a b c) h g = gets_ok a (b * 256 + c) (omega (arith, g.1.1.0, g.1.1.1.0))
    execute_ok (Copy a b) h g = gets_ok a (register t b) (ok.words b)
    execute_ok (Add a b c) h g = gets_ok a _ (mod-lt (register t b + register t c) (omega arith))
    execute_ok (Subtract a b c) h g = gets_ok a _ (mod-lt (register t b + 2 ^ 32 - register t c) (omega arith))
    execute_ok (Go a) h g = without_action_ok _ (pc_ok v n s t ok a (omega arith))
    execute_ok (Zero a b) h g =
        split (eqb (register t a) 0) (λ e. rw e (without_action_ok _ (pc_ok v n s t ok b (omega arith)))) (λ e. rw e (without_action_ok _ (next_ok v n s t ok before)))
    execute_ok (Raise a) h g =
        let l = joined t.label a in
        let low = order.join_label t.label a ok.label h.0 in
        split (is_subset l t.clearance)
        (λ e. rw e (without_action_ok _ (next_ok v n s _ (label_ok v n s t ok l low (raised l e)) before)))
        (λ e. rw e (without_action_ok _ (kind_ok v n s t ok 6 (omega arith) (leaves l low e))))
    execute_ok (Send a b c) h g =
        split (may_flow t.label b)
        (λ e. rw e record { task = next_ok v n s t ok before; action = record { label = h.1; sender = omega (arith, ok.spare); value = ok.words c } })
        (λ e. rw e (without_action_ok _ (kind_ok v n s t ok 4 (omega arith) (omega (arith, five_kinds v)))))
    execute_ok (Take a b) h g = taken_ok a b t ok
    execute_ok (Poll a b c) h g = taken_ok a b (with_pc c t) (pc_ok v n s t ok c (omega arith))
    execute_ok (Sandbox a b c) h g =
        split (leb c t.spare)
        (λ e. let fits : c ≤ t.spare = leb-true c t.spare e in
        rw e
        record {
          task = next_ok v n s _ (register_ok v n s _ (spare_ok v n s t ok (t.spare - c) (omega arith)) a (child_slot s t c) (omega (arith, ok.spare))) before;
          action = child_ok b c (omega arith) (omega arith) fits;
        })
        (λ e. rw e (without_action_ok _ (kind_ok v n s t ok 5 (omega arith) (omega (arith, five_kinds v)))))
    execute_ok (Identity a b) h g =
        without_action_ok _ (next_ok v n s _ (register_ok v n s _ (register_ok v n s t ok a t.label (omega (arith, ok.label))) b s (omega (arith, ok.spare))) before)
    execute_ok (Count a) h g = gets_ok a (found may_flow t).receivable (omega (arith, receivable_64))

  module _ (program : List ℕ) (bytes : Bytes program) (size : count program ≡ n) where
    carried_out_ok : (d : Option Instruction) → instruction_at program t.pc ≡ d → OutcomeFacts v n s (carried_out may_flow joined d s t)
    carried_out_ok (Some i) e =
        execute_ok (omega (arith, at_below program t.pc i e)) i (rw size at (at_sound program t.pc i e)) (at_bytes program t.pc i bytes e)
    carried_out_ok None e = without_action_ok t ok

    outcome_ok : OutcomeFacts v n s (outcome may_flow joined program s t)
    unfolding outcome
    outcome_ok =
        split (eqb t.pc (count program))
        (λ e. rw e (without_action_ok _ (kind_ok v n s t ok 3 (omega arith) (omega (arith, five_kinds v)))))
        (λ e. rw e (carried_out_ok (instruction_at program t.pc) refl))

-- ---- all slots

abbrev SlotsFacts : ℕ → ℕ → List Slot → Type 0
SlotsFacts v n ss = (i : ℕ) → SlotFacts v n i (slot_at ss i)

module _ (v n : ℕ) where
  set_ok : (ss : List Slot) (i : ℕ) (y : Slot) → SlotsFacts v n ss → SlotFacts v n i y → SlotsFacts v n (set ss i y)
  set_ok ss i y g h k = get_d_set_at (SlotFacts v n k) ss i k y unused (λ e. rw e h) (g k)

  enqueue_ok : (s : ℕ) (m : Message) → MessageFacts m → (x : Slot) → SlotFacts v n s x → SlotFacts v n s (enqueue m x)
  enqueue_ok s m g unused h = tt
  enqueue_ok s m g (used t) h =
      split (eqb t.kind 1 && has_room m.label t.mailbox)
      (λ b. rw b (mailbox_ok v n s t h (t.mailbox ++ (m ∷ [])) (mailbox_append t.mailbox h.mailbox m g (and_both (eqb t.kind 1) (has_room m.label t.mailbox) b).1)))
      (λ b. rw b h)

  perform_ok : (a : Action) → ActionFacts v n a → (ss : List Slot) → SlotsFacts v n ss → SlotsFacts v n (perform a ss)
  perform_ok no_action h ss g = g
  perform_ok (deliver j m) h ss g = set_ok ss j (enqueue m (slot_at ss j)) g (enqueue_ok j m h (slot_at ss j) (g j))
  perform_ok (spawn j c) h ss g = set_ok ss j (used c) g h

  applied_ok : (s : ℕ) (o : Outcome) → OutcomeFacts v n s o → (ss : List Slot) → SlotsFacts v n ss → SlotsFacts v n (applied s o ss)
  applied_ok s o h ss g = perform_ok o.action h.action (set ss s (used o.task)) (set_ok ss s (used o.task) g h.task)

  view_slot_ok : (sees : ℕ → Bool) (s : ℕ) (x : Slot) → SlotFacts v n s x → SlotFacts v n s (view_slot sees x)
  view_slot_ok sees s unused h = tt
  view_slot_ok sees s (used t) h =
      split (sees t.label) (λ e. rw e (mailbox_ok v n s t h _ (mailbox_keep t.mailbox h.mailbox (λ m. sees m.label)))) (λ e. rw e tt)

-- ---- states

module _ (s : State) (ok : Valid s) where
  tasks_facts : SlotsFacts s.version (count s.program) s.slots
  tasks_facts i = slot_facts s.version (count s.program) i (slot_at s.slots i) (ok.tasks i)

  slot_fits : (i : ℕ) (x : Slot) → i ≤ 15 → SlotFacts s.version (count s.program) i x → i + spare_of x ≤ 15
  slot_fits i unused l f = omega arith
  slot_fits i (used t) l f = f.spare

  pub valid_spares : Spares s.slots
  valid_spares = record {
    slot_count = ok.slot_count;
    fits = λ i l. slot_fits i (slot_at s.slots i) l (tasks_facts i);
    free = spares_free s.slots ok.slot_count ok.spares;
  }

  -- a task that has not come to place N has an instruction to carry out
  pub instruction_met : (i : ℕ) (t : Task) → slot_at s.slots i ≡ used t → t.pc ≢ count s.program → is_legal (instruction_at s.program t.pc) ≡ true
  instruction_met i t at ne =
      let f : TaskFacts s.version (count s.program) i t = rw at at (tasks_facts i) in
      legal_at s.program ok.legal t.pc (omega (arith, f.pc))

  -- other slots, with the same version and program and a turn slot in range
  with_slots_lem : (turn_slot : ℕ) (ss : List Slot) → turn_slot ≤ 15 → SlotsFacts s.version (count s.program) ss → Spares ss
      → Valid (record { version = s.version; program = s.program; turn_slot = turn_slot; slots = ss })
  with_slots_lem turn_slot ss l f sp = record {
    version = ok.version;
    size = ok.size;
    bytes = ok.bytes;
    legal = ok.legal;
    turn_slot = le-leb turn_slot 15 l;
    slot_count = sp.slot_count;
    tasks = λ i. slot_valid s.version (count s.program) i (slot_at ss i) (f i);
    spares = spares_test ss sp.free;
  }

-- a valid state keeps the rules of version 2 too
slot_as_2 : (v n s : ℕ) (x : Slot) → SlotFacts v n s x → SlotFacts 2 n s x
slot_as_2 v n s unused f = tt
slot_as_2 v n s (used t) f = record {
  kind_low = f.kind_low;
  kind_high = omega (arith, f.kind_high, six_kinds v);
  label = f.label;
  clearance = record { high = f.clearance.high; above = f.clearance.above; fits = refl };
  spare = f.spare;
  pc = f.pc;
  registers = f.registers;
  words = f.words;
  mailbox = f.mailbox;
}

-- the state as one of version v
abbrev pub with_version : ℕ → State → State
with_version v state = record { version = v; program = state.program; turn_slot = state.turn_slot; slots = state.slots }

pub valid_as_2 : (s : State) → Valid s → Valid (with_version 2 s)
valid_as_2 s ok = record {
  version = refl;
  size = ok.size;
  bytes = ok.bytes;
  legal = ok.legal;
  turn_slot = ok.turn_slot;
  slot_count = ok.slot_count;
  tasks = λ i. slot_valid 2 (count s.program) i (slot_at s.slots i) (slot_as_2 s.version (count s.program) i (slot_at s.slots i) (tasks_facts s ok i));
  spares = ok.spares;
}

pub view_valid : (sees : ℕ → Bool) (s : State) → Valid s → Valid (view_by sees s)
unfolding view_by
view_valid sees s ok =
    with_slots_lem s ok s.turn_slot (map (view_slot sees) s.slots) (leb-true s.turn_slot 15 ok.turn_slot)
    (λ i. rw (get_or-map (view_slot sees) s.slots i unused) (view_slot_ok s.version (count s.program) sees i (slot_at s.slots i) (tasks_facts s ok i)))
    (spares_view sees s.slots (valid_spares s ok))

pub post_valid : (j label value : ℕ) → label ≤ 15 → value < 2 ^ 32 → (s : State) → Valid s → Valid (post j label value s)
unfolding post
post_valid j label value l v s ok =
    let a = deliver j (host_message label value) in
    with_slots_lem s ok s.turn_slot (perform a s.slots) (leb-true s.turn_slot 15 ok.turn_slot)
    (perform_ok s.version (count s.program) a (record { label = l; sender = omega arith; value = v }) s.slots (tasks_facts s ok))
    (spares_deliver s.slots j (host_message label value) (valid_spares s ok))

module _ (may_flow : ℕ → ℕ → Bool) (joined : ℕ → ℕ → ℕ) (order : Order may_flow joined) where
  -- one turn of the slot x where the turn slot is
  module _ (s : State) (ok : Valid s) where
    step_ok : (x : Slot) → slot_at s.slots s.turn_slot ≡ x → SlotsFacts s.version (count s.program) (step may_flow joined s.program s.turn_slot s.slots x)
    step_ok unused at = tasks_facts s ok
    step_ok (used t) at =
        let v = s.version in
        let n = count s.program in
        let i = s.turn_slot in
        let facts : TaskFacts v n i t = rw at at (tasks_facts s ok i) in
        split (eqb t.kind 1)
        (λ e. rw e (applied_ok v n i (outcome may_flow joined s.program i t) (outcome_ok may_flow joined order v n i t facts s.program ok.bytes refl) s.slots (tasks_facts s ok)))
        (λ e. rw e (tasks_facts s ok))

    step_spares : (x : Slot) → slot_at s.slots s.turn_slot ≡ x → Spares (step may_flow joined s.program s.turn_slot s.slots x)
    step_spares unused at = valid_spares s ok
    step_spares (used t) at =
        let i = s.turn_slot in
        split (eqb t.kind 1)
        (λ e. rw e (spares_applied s.slots (valid_spares s ok) i t at may_flow (outcome may_flow joined s.program i t) (outcome_contained may_flow joined order i t s.program)))
        (λ e. rw e (valid_spares s ok))

  turn_valid : (s : State) → Valid s → Valid (turn_by may_flow joined s)
  unfolding turn_by
  turn_valid s ok =
      let x = slot_at s.slots s.turn_slot in
      with_slots_lem s ok (successor s.turn_slot) (step may_flow joined s.program s.turn_slot s.slots x) (omega arith) (step_ok s ok x refl) (step_spares s ok x refl)

  pub turns_valid : (n : ℕ) (s : State) → Valid s → Valid (turns_by may_flow joined n s)
  unfolding turns_by
  turns_valid zero s ok = ok
  turns_valid (suc n) s ok = turn_valid (turns_by may_flow joined n s) (turns_valid n s ok)
