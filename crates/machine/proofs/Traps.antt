-- 01's traps of this trade, and five more: a state each on which a machine that falls into the trap breaks the view law.
-- Rows by computation, for an observer from whom the named task or message is hidden.
use Prim.Native.Nat.{ℕ}
use mathlib.Core.Path.{◌≡◌, refl}
use mathlib.Core.List.{List, [], ◌∷◌}
use lib.ListN.{set, replicate}
use Rattle.wire.specs.Lists as Lists
use Rattle.label.specs.Label as Label
use Rattle.instruction.specs.Table as Table
use Rattle.instruction.specs.Program as Program
use Rattle.machine.specs.declared.Message.{Message}
use Rattle.machine.specs.State.{Task, unused, used, State, with_mailbox}
use Rattle.machine.specs.Effect as Effect
use Rattle.machine.specs.Turn as Turn
use Rattle.machine.specs.Post as Post
use Rattle.machine.specs.Post.{post}
use Rattle.machine.specs.View as View
use Rattle.machine.specs.Machine.{turns, view}

-- a turn of the view shows what the turn shows
abbrev ShownAlike : ℕ → State → Type 0
ShownAlike v s = view v (turns 1 (view v s)) ≡ view v (turns 1 s)

-- and so is a post to slot j with a label
abbrev PostShownAlike : ℕ → ℕ → ℕ → State → Type 0
PostShownAlike v j label s = view v (post j label 7 (view v s)) ≡ view v (post j label 7 s)

-- a live task at place 0 whose registers hold their numbers
abbrev task : ℕ → ℕ → Task
task label spare = record { kind = 1; label = label; clearance = 15; spare = spare; pc = 0; registers = 0 ∷ 1 ∷ 2 ∷ 3 ∷ 4 ∷ 5 ∷ 6 ∷ 7 ∷ []; mailbox = [] }

abbrev message : ℕ → Message
message label = record { label = label; sender = 9; value = 7 }

-- the instruction, the task t in slot s, whose turn it is, and another task
abbrev state : List ℕ → ℕ → Task → ℕ → Task → State
state instruction s t s' t' = record { version = 2; program = instruction; turn_slot = s; slots = set (set (replicate 16 unused) s (used t)) s' (used t') }

-- a send to slot j, which its register holds
abbrev send : ℕ → ℕ → List ℕ
send j label = 0x08 ∷ j ∷ label ∷ 3 ∷ []

pub record Traps : Type 0 where
  -- one common mailbox limit: four hidden messages wait, and a public one comes
  pub limit : ShownAlike 0 (state (send 1 0) 0 (task 0 0) 1 (with_mailbox (replicate 4 (message 1)) (task 0 0)))
  -- a sender that learns of its receiver: the receiver is hidden
  pub told : ShownAlike 0 (state (send 2 1) 0 (task 0 0) 2 (task 1 0))
  -- a child in the lowest unused slot: a hidden task stands in slot 0
  pub child : ShownAlike 0 (state (0x0B ∷ 0 ∷ 0 ∷ 2 ∷ []) 5 (task 0 4) 0 (task 1 0))
  -- slots without a live task skipped: the next live task is hidden
  pub skipped : ShownAlike 0 (state (0x01 ∷ 0 ∷ 0 ∷ 0 ∷ []) 0 (task 0 0) 1 (task 1 0))
  -- the oldest message taken and its label tested then: the oldest is hidden
  pub oldest : ShownAlike 0 (state (0x09 ∷ 0 ∷ 1 ∷ 0 ∷ []) 0 (with_mailbox (message 1 ∷ message 0 ∷ []) (task 0 0)) 2 (task 1 0))
  -- a count of all messages: one of two is hidden
  pub counted : ShownAlike 0 (state (0x0D ∷ 0 ∷ 0 ∷ 0 ∷ []) 0 (with_mailbox (message 1 ∷ message 0 ∷ []) (task 0 0)) 2 (task 1 0))
  -- a send that skips its label check: the sender is hidden
  pub unchecked : ShownAlike 0 (state (send 1 0) 0 (task 1 0) 1 (task 0 0))
  -- a raise that replaces the label: the task is hidden from the observer of label 2
  pub replaced : ShownAlike 2 (state (0x07 ∷ 2 ∷ 0 ∷ 0 ∷ []) 0 (task 1 0) 1 (task 0 0))
  -- a post that tells a task of its receiver: the receiver is hidden
  pub posted : PostShownAlike 0 2 0 (state (send 1 0) 0 (task 0 0) 2 (task 1 0))
  -- one common mailbox limit for posts: four hidden messages wait
  pub crowded : PostShownAlike 0 1 0 (state (send 1 0) 0 (task 0 0) 1 (with_mailbox (replicate 4 (message 1)) (task 0 0)))

pub traps : Traps
unfolding Lists.each Label.is_subset Table.decode Program.instruction_at Effect.execute Effect.outcome Turn.turn_by
    Turn.turns_by Post.post View.view_by
traps = record { limit = refl; told = refl; child = refl; skipped = refl; oldest = refl; counted = refl; unchecked = refl; replaced = refl; posted = refl; crowded = refl }
