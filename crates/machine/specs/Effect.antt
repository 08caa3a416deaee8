-- The effect of each instruction: what its task becomes and what it does to the slots, told from that task alone.
use Rattle.std.specs.Prelude.{ℕ, ◌+◌, ◌-◌, ◌*◌, ◌^◌, ◌%◌, Bool, cond, List, [], ◌∷◌, leb, ltb, eqb, length, replicate, Option, Some, None}
use Rattle.wire.specs.Lists.{keep, first_index}
use Rattle.label.specs.Label.{is_subset}
use Rattle.instruction.specs.declared.Instruction.{Instruction}
use Rattle.instruction.specs.declared.Instruction.TheVariants.{End, Set, Copy, Add, Subtract, Go, Zero, Raise, Send, Take, Poll, Sandbox, Identity, Count}
use Rattle.instruction.specs.Program.{count, instruction_at}
use Rattle.machine.specs.declared.Found.{Found}
use Rattle.machine.specs.declared.Message.{Message}
use Rattle.machine.specs.State.{Task, with_kind, with_label, with_spare, with_pc, message, without_message, register, with_register, next}

-- what a task does to the slots: nothing, a message to the slot of that number, or a new task in it
pub data Action : Type 0 where
  no_action : Action
  deliver : ℕ → Message → Action
  spawn : ℕ → Task → Action

pub record Outcome : Type 0 where
  pub task : Task
  pub action : Action

abbrev pub without_action : Task → Outcome
without_action t = record { task = t; action = no_action }

-- a task that stops keeps its place and everything else
abbrev pub stopped : ℕ → Task → Outcome
stopped kind t = without_action (with_kind kind t)

-- register a gets x, and the place goes up
abbrev pub gets : ℕ → ℕ → Task → Outcome
gets a x t = without_action (next (with_register a x t))

-- message i goes, its value into register a, then its sender into register b, so where a and b are the same b's figure stays;
-- and the place goes up
abbrev pub receives : ℕ → ℕ → ℕ → Task → Task
receives a b i t = next (with_register b (message t i).sender (with_register a (message t i).value (without_message i t)))

-- the new task of a sandbox of size n by a task in slot s with label l and clearance c, at place b, and the slot where it stands
abbrev pub child_of : ℕ → ℕ → ℕ → ℕ → ℕ → Task
child_of s l c b n = record { kind = 1; label = l; clearance = c; spare = n - 1; pc = b; registers = s ∷ replicate 7 0; mailbox = [] }

abbrev pub child_slot : ℕ → Task → ℕ → ℕ
child_slot s t n = s + (t.spare - n) + 1

-- ---- over any order of labels: `may_flow` says where a label flows, and `joined` is the join of two

module _ (may_flow : ℕ → ℕ → Bool) where
  -- a message is receivable at label l when its label flows to l
  abbrev pub receivable : ℕ → Message → Bool
  receivable l m = may_flow m.label l

  -- the search of a mailbox at label l: the index of the oldest receivable message, the length where there is none, and how many
  -- are receivable
  abbrev pub find : ℕ → List Message → Found
  find l ms = record { oldest = first_index (receivable l) ms; receivable = length (keep (receivable l) ms) }

  -- what a task finds in its own mailbox
  abbrev pub found : Task → Found
  found t = find t.label t.mailbox

  -- take's effect on t: it becomes `otherwise` where nothing is receivable
  abbrev pub taken : ℕ → ℕ → Task → Task → Outcome
  taken a b otherwise t = without_action (cond (ltb 0 (found t).receivable) (receives a b (found t).oldest t) otherwise)

  module _ (joined : ℕ → ℕ → ℕ) where
    -- instruction i, carried out by the task t in slot s
    unfoldable pub execute : Instruction → ℕ → Task → Outcome
    execute End s t = stopped 2 t
    execute (Set a b c) s t = gets a (b * 256 + c) t
    execute (Copy a b) s t = gets a (register t b) t
    execute (Add a b c) s t = gets a ((register t b + register t c) % 2 ^ 32) t
    execute (Subtract a b c) s t = gets a ((register t b + 2 ^ 32 - register t c) % 2 ^ 32) t
    execute (Go a) s t = without_action (with_pc a t)
    execute (Zero a b) s t = without_action (cond (eqb (register t a) 0) (with_pc b t) (next t))
    execute (Raise a) s t =
        cond (is_subset (joined t.label a) t.clearance) (without_action (next (with_label (joined t.label a) t))) (stopped 6 t)
    execute (Send a b c) s t =
        cond (may_flow t.label b)
        (record { task = next t; action = deliver (register t a) (record { label = b; sender = s; value = register t c }) })
        (stopped 4 t)
    execute (Take a b) s t = taken a b t t
    execute (Poll a b c) s t = taken a b (with_pc c t) t
    execute (Sandbox a b c) s t =
        cond (leb c t.spare)
        (record { task = next (with_register a (child_slot s t c) (with_spare (t.spare - c) t)); action = spawn (child_slot s t c) (child_of s t.label t.clearance b c) })
        (stopped 5 t)
    execute (Identity a b) s t = gets b s (with_register a t.label t)
    execute (Count a) s t = gets a (found t).receivable t

    -- no accepted image has an illegal instruction
    abbrev pub carried_out : Option Instruction → ℕ → Task → Outcome
    carried_out (Some i) s t = execute i s t
    carried_out None s t = without_action t

    -- what a live task in slot s does with its turn: with place N it gets kind 3, else it carries out one instruction
    unfoldable pub outcome : List ℕ → ℕ → Task → Outcome
    outcome program s t =
        cond (eqb t.pc (count program)) (stopped 3 t) (carried_out (instruction_at program t.pc) s t)
