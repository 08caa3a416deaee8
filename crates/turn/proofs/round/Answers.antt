use Prim.Native.Nat.{ℕ, ◌+◌, ◌-◌, ◌%◌, ◌≤◌, ◌<◌, min}
use mathlib.Core.Path.{◌≡◌, sym, ◌∙◌}
use mathlib.Core.Logic.{dite}
use mathlib.Core.List.{List}
use mathlib.Core.Bool.{false}
use native.Mathlib.Decide.{dec_lt}
use native.Mathlib.Omega.{arith}
use borrow.Author.Tests.{leb-true}
use Rattle.machine.specs.State.{Slot, State, slot_at, has_live_task}
use Rattle.machine.proofs.Bounds.{idle_below, idle_above}
use Rattle.table.specs.Table.{slots_in}
use Rattle.turn.specs.Answer.{running}
use Rattle.turn.proofs.Steps.{Ran, ran_none, ran_live, ran_past, ran_valid, ran_within}
use Rattle.turn.proofs.round.Goals as goal
use Rattle.turn.proofs.round.Goals.{then-is_live, else-is_live}

-- a turn more that met a live task, or none
one_met : (from idle slot : ℕ) → from + idle ≤ slot → slot - from - idle + 1 ≡ slot + 1 - from - idle
one_met from idle slot h = omega arith

none_met : (from idle slot : ℕ) → from + idle ≤ slot → slot - from - idle ≡ slot + 1 - from - (idle + 1)
none_met from idle slot h = omega arith

-- a slot in the loop is ahead of the last, and the turns before it were those of the slots before it
at_hand : (s : State) (program : List ℕ) (first end slot met : ℕ) {ss : List Slot} → slot < end → end ≤ 16
    → Ran s program (min slot end - first) (min slot end % 16) ss met → Ran s program (slot - first) slot ss met
at_hand s program first end slot met ahead most ran =
    let is : min slot end ≡ slot = omega arith in
    let here : slot % 16 ≡ slot = omega arith in
    rw here at (rw is at ran)

-- and so it is at a slot behind it that is not behind the last, where so many more met none
further : (s : State) (program : List ℕ) (first end from slot to idle : ℕ) {ss : List Slot} {met : ℕ} → first ≤ slot → from ≤ slot
    → to ≤ end → slot ≤ to → from + idle ≤ to → Ran s program (to - first) (to % 16) ss met → met ≡ to - from - idle
    → (first ≤ to) × (from + idle ≤ to) × Ran s program (min to end - first) (min to end % 16) ss (to - from - idle)
further s program first end from slot to idle low begun l h few ran counted =
    let is : min to end ≡ to = omega arith in
    (omega arith, few, rw (is, ← counted) ran)

-- the first slots have no live task
pub loop-number-init : goal.loop-number-init
loop-number-init c =
    let a = c.args in
    let low = leb-true a.first 15 c.requires.0.turn_slot in
    let m = min c.max-from.result a.end in
    let to : a.first + (m - a.first) ≡ m = omega (arith, c.max-from.ensures, c.requires.1) in
    let none : (j : ℕ) → a.first ≤ j → j < a.first + (m - a.first) → has_live_task (slot_at (slots_in a.table.now) j) ≡ false
    = λ j l h. idle_below a.bottom a.top (slots_in a.table.now) c.requires.3 j (omega (arith, c.max-from.ensures)) in
    let past = ran_past (ran_none a.program.now a.first (slots_in a.table.now)) (m - a.first) low (omega (arith, c.requires.2)) none in
    let first : 0 + (m - a.first) ≡ m - a.first = omega arith in
    let nothing : c.max-from.result - c.max-from.result - 0 ≡ 0 = omega arith in
    (omega (arith, c.max-from.ensures), omega arith, rw nothing (rw first at (rw to at past)))

pub act-requires : goal.act-requires
act-requires c =
    let a = c.args in
    let h = c.loop-number in
    let s = running a.program.now a.first a.table.now in
    let at = at_hand s a.program.now a.first a.end h.number _ (omega arith) c.requires.2 h.invariant.2 in
    (ran_valid at c.requires.0, (cc))

-- the turn of a live task, or of a slot without one
pub loop-number-preserved : goal.loop-number-preserved
loop-number-preserved c =
    let a = c.args in
    let h = c.loop-number in
    let from = c.max-from.result in
    let ss = slots_in h.table in
    let s = running a.program.now a.first a.table.now in
    let at = at_hand s a.program.now a.first a.end h.number _ (omega arith) c.requires.2 h.invariant.2 in
    let more : h.number + 1 - a.first ≡ h.number - a.first + 1 = omega (arith, h.invariant.0) in
    elim c.if-is_live.branch [
      | then-is_live w ↦ rw (w.table-is, w.idle-is)
          (further s a.program.now a.first a.end from h.number (h.number + 1) h.idle h.invariant.0 h.auto.number (omega arith) (omega arith) (omega (arith, h.invariant.1))
          (rw more (ran_live at (sym c.is_live.ensures ∙ w.if-is_live.true) w.act.ensures)) (one_met from h.idle h.number h.invariant.1))
      | else-is_live w ↦ rw (w.table-is, w.idle-is)
          (let none = sym c.is_live.ensures ∙ w.if-is_live.false in
          let past = ran_past at 1 (omega (arith, c.requires.2)) (omega (arith, c.requires.2)) (λ j m g. let is : j ≡ h.number = omega arith in rw is none) in
          further s a.program.now a.first a.end from h.number (h.number + 1) (h.idle + 1) h.invariant.0 h.auto.number (omega arith) (omega arith) (omega (arith, h.invariant.1))
          (rw more past) (none_met from h.idle h.number h.invariant.1))
    ]

-- the last slots have none
pub returns : goal.returns
returns c =
    let a = c.args in
    let h = c.loop-number in
    let s = running a.program.now a.first a.table.now in
    let m = min h.number a.end in
    let at_end : Ran s a.program.now (a.end - a.first) (a.end % 16) (slots_in h.table) (h.number - c.max-from.result - h.idle) =
    dite (dec_lt m a.end)
    (λ l.
    let here : m % 16 ≡ m = omega (arith, c.requires.2) in
    let within = ran_within h.invariant.2 a.bottom a.top c.requires.3 in
    let past = ran_past (rw here at h.invariant.2) (a.end - m) (omega (arith, c.requires.2)) (omega (arith, c.requires.2))
    (λ j g _. idle_above a.bottom a.top (slots_in h.table) within j (omega (arith, c.min.ensures, c.max-stop.ensures))) in
    let turns : m - a.first + (a.end - m) ≡ a.end - a.first = omega (arith, h.invariant.0, c.requires.1) in
    let slot : m + (a.end - m) ≡ a.end = omega arith in
    rw slot at (rw turns at past))
    (λ l. let all : m ≡ a.end = omega arith in rw all at h.invariant.2) in
    let last : c.max-stop.result ≡ h.number = omega arith in
    rw last (at_end.met_is, at_end.state)
