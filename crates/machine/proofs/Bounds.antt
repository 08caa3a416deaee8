-- Laws of the slots between which all that is used lies: nothing outside is ever used; and turns of slots without a live task only go by.
use Prim.Native.Nat.{ℕ, zero, suc, ◌+◌, ◌%◌, ◌≤◌, ◌<◌}
use mathlib.Core.Logic.{dite}
use mathlib.Core.Path.{◌≡◌, refl, ap, ◌∙◌}
use mathlib.Core.Bool.{false, not}
use mathlib.Core.List.{List}
use native.Mathlib.Decide.{ℕ_discrete, dec_lt}
use native.Mathlib.Omega.{arith}
use lib.ListN.{get_or-eq_default}
use Rattle.wire.proofs.Lists.{first_low}
use Rattle.label.specs.Label.{flows, join}
use Rattle.label.proofs.Order.{label_order}
use Rattle.machine.specs.State.{Task, Slot, unused, used, State, slot_at, is_unused, has_live_task, spare_of}
use Rattle.machine.specs.Effect.{spawn}
use Rattle.machine.specs.Turn.{current, step, turn_by, turns_by, busy_by}
use Rattle.machine.specs.Machine.{turns, busy}
use Rattle.machine.specs.Valid.{Valid}
use Rattle.machine.specs.Inner.{bottom_of, top_behind, top_of, WithinSlot, Within}
use Rattle.machine.proofs.Effect.{Allowed}
use Rattle.machine.proofs.Spare.{Spares}
use Rattle.machine.proofs.Valid.{valid_spares}
use Rattle.machine.proofs.Kept.{turns_keep}

-- ---- a turn leaves the bounds as they are

module _ (bottom top : ℕ) where
  within_own : (s : ℕ) (t t' : Task) → t.clearance ≡ t'.clearance → t'.spare ≤ t.spare → WithinSlot bottom top s (used t) → WithinSlot bottom top s (used t')
  within_own s t t' e l h = (h.0, omega (arith, h.1))

  within_child : (s : ℕ) (t t' : Task) (j : ℕ) (c : Task) → Allowed flows s t t' (spawn j c) → WithinSlot bottom top s (used t) → WithinSlot bottom top j (used c)
  within_child s t t' j c a h = (omega (arith, h.0, a.0), omega (arith, h.1, a.0, a.1))

  -- nothing outside is ever used
  pub turns_within : (n : ℕ) (s : State) → Within bottom top s.slots → Within bottom top (turns n s).slots
  turns_within = turns_keep flows join label_order (WithinSlot bottom top) (λ s. tt) within_own within_child

  outside : (s : ℕ) (x : Slot) → WithinSlot bottom top s x → (bottom ≤ s → s < top → ⊥) → x ≡ unused
  outside s unused h out = refl
  outside s (used t) h out = absurd (out h.0 (omega (arith, h.1)))

  pub idle_below : (ss : List Slot) → Within bottom top ss → (s : ℕ) → s < bottom → has_live_task (slot_at ss s) ≡ false
  idle_below ss ok s l = ap has_live_task (outside s (slot_at ss s) (ok s) (λ a b. omega arith))

  pub idle_above : (ss : List Slot) → Within bottom top ss → (s : ℕ) → top ≤ s → has_live_task (slot_at ss s) ≡ false
  idle_above ss ok s l = ap has_live_task (outside s (slot_at ss s) (ok s) (λ a b. omega arith))

-- ---- turns of slots without a live task

-- n of them, up to the last slot: only the turn slot goes on, and none is busy
module _ (s : State) (low : s.turn_slot ≤ 15) where
  abbrev after : ℕ → State
  after n = record { version = s.version; program = s.program; turn_slot = (s.turn_slot + n) % 16; slots = s.slots }

  step_idle : (program : List ℕ) (i : ℕ) (x : Slot) → has_live_task x ≡ false → step flows join program i s.slots x ≡ s.slots
  step_idle program i unused e = refl
  step_idle program i (used t) e = rw e

  next_idle : (n : ℕ) → s.turn_slot + n < 16 → has_live_task (slot_at s.slots (s.turn_slot + n)) ≡ false
      → (after (suc n) ≡ turn_by flows join (after n)) × (has_live_task (current (after n)) ≡ false)
  unfolding turn_by
  next_idle n fits idle =
      let here : (s.turn_slot + n) % 16 ≡ s.turn_slot + n = omega arith in
      let next : (s.turn_slot + suc n) % 16 ≡ (s.turn_slot + n + 1) % 16 = omega arith in
      rw (next, here, step_idle s.program (s.turn_slot + n) (slot_at s.slots (s.turn_slot + n)) idle) (refl, idle)

  pub turns_idle : (n : ℕ) → s.turn_slot + n ≤ 16 → ((j : ℕ) → s.turn_slot ≤ j → j < s.turn_slot + n → has_live_task (slot_at s.slots j) ≡ false)
      → (after n ≡ turns n s) × (busy n s ≡ 0)
  unfolding turns_by busy_by
  turns_idle zero fits idle = let here : (s.turn_slot + 0) % 16 ≡ s.turn_slot = omega arith in (rw here, refl)
  turns_idle (suc n) fits idle =
      let ih = turns_idle n (omega arith) (λ j a b. idle j a (omega arith)) in
      let more = next_idle n (omega arith) (idle (s.turn_slot + n) (omega arith) (omega arith)) in
      (more.0 ∙ ap (turn_by flows join) ih.0, rw (← ih.0, more.1, ih.1))

-- ---- the bounds of a valid state

module _ (s : State) (ok : Valid s) where
  abbrev ss : List Slot
  ss = s.slots

  spares : Spares ss
  spares = valid_spares s ok

  -- a slot that is used is one of the sixteen
  inside : (j : ℕ) (t : Task) → slot_at ss j ≡ used t → j < 16
  inside j t e =
      dite (dec_lt j 16) (λ l. l)
      (λ l. let z : ◌≡◌ {A = ℕ} 0 1 = cc (get_or-eq_default ss unused {n = j} (omega (arith, spares.slot_count))) in absurd (omega arith))

  pub valid_sixteen : Within 0 16 ss
  valid_sixteen j = each (slot_at ss j) refl
    where
      each : (x : Slot) → slot_at ss j ≡ x → WithinSlot 0 16 j x
      each unused e = tt
      each (used t) e = (omega arith, omega (arith, spares.fits j (omega (arith, inside j t e)), ap spare_of e))

  -- no used slot lies in another's spare, so the last one's is behind all of them
  below_top : (j : ℕ) (t : Task) → slot_at ss j ≡ used t → (n : ℕ) → j < n → j + t.spare < top_of n ss
  unfolding top_of
  below_top j t e zero h = absurd (omega arith)
  below_top j t e (suc n) h = dite (ℕ_discrete j n) (λ q. rw (← q, e) (omega arith)) (λ q. other (slot_at ss n) refl (omega arith) (below_top j t e n (omega arith)))
    where
      other : (x : Slot) → slot_at ss n ≡ x → j < n → j + t.spare < top_of n ss → j + t.spare < top_behind n (top_of n ss) x
      other unused f l ih = ih
      other (used u) f l ih =
          dite (dec_lt (j + t.spare) n) (λ g. omega arith)
          (λ g. let z : ◌≡◌ {A = ℕ} 0 1 = cc (spares.free j n l (omega (arith, ap spare_of e))) in absurd (omega arith))

  pub valid_within : Within (bottom_of ss) (top_of 16 ss) ss
  valid_within j = each (slot_at ss j) refl
    where
      each : (x : Slot) → slot_at ss j ≡ x → WithinSlot (bottom_of ss) (top_of 16 ss) j x
      each unused e = tt
      each (used t) e = (first_low (λ x. not (is_unused x)) ss j unused (omega (arith, inside j t e, spares.slot_count)) (rw e), below_top j t e 16 (inside j t e))
