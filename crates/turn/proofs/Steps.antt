-- Laws of turns over the table: what a live task does with its turn, one turn, and one turn more.
use Prim.Native.Nat.{ℕ, ◌+◌, ◌*◌, ◌%◌, ◌≤◌, ◌<◌}
use mathlib.Core.Path.{◌≡◌, refl, sym, ap, subst, ◌∙◌}
use mathlib.Core.Bool.{true, false, cond}
use mathlib.Core.List.{List}
use native.Mathlib.Omega.{arith}
use borrow.Author.Tests.{eq-eqb, ne_eqb}
use lib.ListN.{length, get_or, set}
use Rattle.std.specs.Prelude.{Some}
use Rattle.label.specs.Label.{flows, join}
use Rattle.instruction.specs.declared.Instruction.{Instruction}
use Rattle.instruction.specs.Program.{count, instruction_at}
use Rattle.instruction.proofs.Program.{at_within, at_below}
use Rattle.machine.specs.State.{Slot, unused, used, State, slot_at, has_live_task}
use Rattle.machine.specs.Effect.{outcome}
use Rattle.machine.specs.Turn as Turn
use Rattle.machine.specs.Turn.{applied, current}
use Rattle.machine.specs.Valid.{Valid}
use Rattle.machine.specs.Machine.{turns, busy}
use Rattle.machine.specs.Inner.{Within}
use Rattle.machine.proofs.Rules.{TaskFacts, size_facts, slot_facts}
use Rattle.machine.proofs.Machine.{turns_valid, turns_none, turns_more, turns_add, busy_none, busy_more, busy_add}
use Rattle.machine.proofs.Bounds.{turns_within, turns_idle}
use Rattle.table.specs.Change.{task_or, task_at, slot_with_kind}
use Rattle.turn.specs.Answer.{running_at}
use Rattle.effect.specs.Effects.{executed, Ready, WasDecoded}
use Rattle.effect.proofs.Effects.{kind_here, live_here, valid_room}

-- ---- what a live task does with its turn

-- what was decoded at a place of the program
pub was_decoded : (program : List ℕ) (pc : ℕ) (i : Instruction) → instruction_at program pc ≡ Some i → WasDecoded i
was_decoded program pc i e =
    record {
      n = count program;
      code = get_or program (4 * pc) 0;
      a = get_or program (4 * pc + 1) 0;
      b = get_or program (4 * pc + 2) 0;
      c = get_or program (4 * pc + 3) 0;
      legal = sym (at_within program pc (at_below program pc i e)) ∙ e;
    }

-- pc: the place that was read
module _ (program : List ℕ) (s : ℕ) (ss : List Slot) (live : has_live_task (slot_at ss s) ≡ true) {pc : ℕ} (place : pc ≡ (task_at ss s).pc) where
  module _ (ok : Valid (running_at program s ss)) where
    own : TaskFacts 2 (count program) s (task_at ss s)
    own = rw (live_here ss s live) at (slot_facts 2 (count program) s (slot_at ss s) (ok.tasks s))

    -- with place N it gets kind 3: no place is above
    pub act_ends : count program ≤ pc → set ss s (slot_with_kind 3 (slot_at ss s)) ≡ applied s (outcome flows join program s (task_at ss s)) ss
    unfolding outcome
    act_ends h =
        let last : (task_at ss s).pc ≡ count program = omega (arith, own.pc) in
        kind_here ss s (live_here ss s live) 3 refl ∙ rw (eq-eqb (task_at ss s).pc (count program) last)

    -- a valid state is ready for an instruction
    pub valid_ready : pc < count program → Ready s ss
    valid_ready before =
        record {
          goes = record { here = live_here ss s live; place = omega (arith, own.pc, (size_facts (length program) ok.size).2) };
          spare = own.spare;
          room = valid_room ok;
        }

  -- else it carries out one instruction
  pub act_executes : pc < count program → (i : Instruction) → instruction_at program pc ≡ Some i → executed i s ss ≡ applied s (outcome flows join program s (task_at ss s)) ss
  unfolding outcome executed
  act_executes before i is = rw (ne_eqb (task_at ss s).pc (count program) (λ e. omega arith), ← place, is)

module _ (program : List ℕ) (s : ℕ) (ss : List Slot) where
  turn_live : has_live_task (slot_at ss s) ≡ true
      → applied s (outcome flows join program s (task_at ss s)) ss ≡ (turns 1 (running_at program s ss)).slots
  unfolding Turn.turns_by Turn.turn_by
  turn_live = live (slot_at ss s)
    where
      live : (x : Slot) → has_live_task x ≡ true → applied s (outcome flows join program s (task_or x)) ss ≡ Turn.step flows join program s ss x
      live unused e = cc
      live (used t) e = rw e

-- ---- one turn more

-- a run of n turns from a state has come to these slots, at turn slot s, and met so many live tasks
pub record Ran (start : State) (program : List ℕ) (n s : ℕ) (ss : List Slot) (met : ℕ) : Type 0 where
  pub state : running_at program s ss ≡ turns n start
  pub met_is : met ≡ busy n start

pub ran_none : (program : List ℕ) (s : ℕ) (ss : List Slot) → Ran (running_at program s ss) program 0 s ss 0
ran_none program s ss = let start = running_at program s ss in record { state = turns_none start; met_is = sym (busy_none start) }

module _ {start : State} {program : List ℕ} {n s : ℕ} {ss : List Slot} {met : ℕ} (ran : Ran start program n s ss met) where
  turns_next : (ss' : List Slot) → ss' ≡ (turns 1 (running_at program s ss)).slots
      → running_at program ((s + 1) % 16) ss' ≡ turns (n + 1) start
  unfolding Turn.turns_by Turn.turn_by
  turns_next ss' e =
      ap (λ (rs : List Slot). running_at program ((s + 1) % 16) rs) e ∙ ap (Turn.turn_by flows join) ran.state ∙ sym (turns_more n start)

  busy_next : busy (n + 1) start ≡ met + cond (has_live_task (slot_at ss s)) 1 0
  busy_next =
      busy_more n start ∙ ap (λ (state : State). busy n start + cond (has_live_task (current state)) 1 0) (sym ran.state)
      ∙ ap (λ (k : ℕ). k + cond (has_live_task (slot_at ss s)) 1 0) (sym ran.met_is)

  -- a turn that meets a live task
  pub ran_live : has_live_task (slot_at ss s) ≡ true → {ss' : List Slot} → ss' ≡ applied s (outcome flows join program s (task_at ss s)) ss
      → Ran start program (n + 1) ((s + 1) % 16) ss' (met + 1)
  ran_live live {ss'} e = record { state = turns_next ss' (e ∙ turn_live program s ss live); met_is = sym (busy_next ∙ rw live) }

  -- k turns more, told by the state that they begin with
  pub ran_round : (k s' : ℕ) (ss' : List Slot) (more : ℕ) → let at : State = running_at program s ss in
      more ≡ busy k at → running_at program s' ss' ≡ turns k at → Ran start program (n + k) s' ss' (met + more)
  ran_round k s' ss' more counted state = record {
    state = state ∙ ap (turns k) ran.state ∙ sym (turns_add n k start);
    met_is = ap (λ (m : ℕ). m + more) ran.met_is
        ∙ ap (λ (m : ℕ). busy n start + m) (counted ∙ ap (busy k) ran.state)
        ∙ sym (busy_add n k start);
  }

  -- k turns of slots without a live task are passed over
  pub ran_past : (k : ℕ) → s ≤ 15 → s + k ≤ 16 → ((j : ℕ) → s ≤ j → j < s + k → has_live_task (slot_at ss j) ≡ false) → Ran start program (n + k) ((s + k) % 16) ss met
  ran_past k low fits none =
      let past = turns_idle (running_at program s ss) low k fits none in
      let same : met + 0 ≡ met = omega arith in
      rw same at (ran_round k ((s + k) % 16) ss 0 (sym past.1) past.0)

  pub ran_valid : Valid start → Valid (running_at program s ss)
  ran_valid ok = subst Valid (sym ran.state) (turns_valid n start ok)

  pub ran_within : (bottom top : ℕ) → Within bottom top start.slots → Within bottom top ss
  ran_within bottom top ok = subst (λ (state : State). Within bottom top state.slots) (sym ran.state) (turns_within bottom top n start ok)
