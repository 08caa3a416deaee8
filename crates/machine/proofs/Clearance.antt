-- A task's clearance holds for it and for all that it ever spawns: whatever is used of its slot and its spare has the same clearance.
use Prim.Native.Nat.{ℕ, ◌+◌, ◌≤◌, ◌<◌}
use mathlib.Core.Logic.{dite}
use mathlib.Core.Path.{◌≡◌, refl, sym, ap, ◌∙◌}
use mathlib.Core.Bool.{true}
use mathlib.Core.List.{List}
use native.Mathlib.Decide.{ℕ_discrete, dec_lt}
use native.Mathlib.Omega.{arith}
use Rattle.label.specs.Label.{is_subset, flows, join}
use Rattle.label.proofs.Order.{label_order}
use Rattle.machine.specs.State.{Task, Slot, unused, used, State, slot_at, spare_of}
use Rattle.machine.specs.Effect.{spawn}
use Rattle.machine.specs.Post.{post}
use Rattle.machine.specs.Machine.{turns}
use Rattle.machine.specs.Valid.{Valid}
use Rattle.machine.proofs.Rules.{TaskFacts, slot_facts}
use Rattle.machine.proofs.Effect.{Allowed}
use Rattle.machine.proofs.Valid.{valid_spares}
use Rattle.machine.proofs.Kept.{turns_keep, post_keeps}

-- slots `first` to `last` are apart from those below: these and their spares end below `first`, and those within end at `last` at most and
-- have clearance c
module _ (first last c : ℕ) where
  abbrev pub Apart : ℕ → Slot → Type 0
  Apart j unused = Unit {0}
  Apart j (used t) = (j < first → j + t.spare < first) × (first ≤ j → j ≤ last → (t.clearance ≡ c) × (j + t.spare ≤ last))

  apart_own : (j : ℕ) (t t' : Task) → t.clearance ≡ t'.clearance → t'.spare ≤ t.spare → Apart j (used t) → Apart j (used t')
  apart_own j t t' e l h = (λ p. omega (arith, h.0 p), λ p q. (sym e ∙ (h.1 p q).0, omega (arith, (h.1 p q).1)))

  apart_child : (j : ℕ) (t t' : Task) (i : ℕ) (u : Task) → Allowed flows j t t' (spawn i u) → Apart j (used t) → Apart i (used u)
  apart_child j t t' i u a h =
      dite (dec_lt j first)
      (λ p. (λ q. omega (arith, h.0 p, a.0, a.1), λ q r. absurd (omega (arith, h.0 p, a.0, a.1))))
      (λ p. (λ q. absurd (omega (arith, a.0)), λ q r. let own = h.1 (omega arith) (omega (arith, a.0)) in (sym a.3 ∙ own.0, omega (arith, own.1, a.0, a.1))))

  abbrev pub AllApart : List Slot → Type 0
  AllApart ss = (j : ℕ) → Apart j (slot_at ss j)

  pub turns_apart : (n : ℕ) (s : State) → AllApart s.slots → AllApart (turns n s).slots
  turns_apart = turns_keep flows join label_order Apart (λ j. tt) apart_own apart_child

  pub post_apart : (j label value : ℕ) (s : State) → AllApart s.slots → AllApart (post j label value s).slots
  post_apart = post_keeps flows join label_order Apart (λ j. tt) apart_own apart_child

-- a task of a valid state and its spare
module _ (state : State) (ok : Valid state) (s : ℕ) (t : Task) (at : slot_at state.slots s ≡ used t) where
  abbrev ss : List Slot
  ss = state.slots

  -- no used slot lies in a spare
  not_spare : (i j : ℕ) (u : Task) → slot_at ss j ≡ used u → i < j → j ≤ i + spare_of (slot_at ss i) → ⊥
  not_spare i j u e p q = let z : ◌≡◌ {A = ℕ} 0 1 = cc ((valid_spares state ok).free i j p q) in omega arith

  apart_used : (j : ℕ) (u : Task) → slot_at ss j ≡ used u → Apart s (s + t.spare) t.clearance j (used u)
  apart_used j u e = (
    λ p. dite (dec_lt (j + u.spare) s) (λ q. q) (λ q. absurd (not_spare j s t at p (omega (arith, ap spare_of e)))),
    λ p q.
        dite (ℕ_discrete j s)
        (λ r. let same : used u ≡ used t = sym e ∙ ap (slot_at ss) r ∙ at in let i : u ≡ t = cc in rw (i, r) (refl, omega arith))
        (λ r. absurd (not_spare s j u e (omega arith) (omega (arith, ap spare_of at)))),
  )

  pub valid_apart : AllApart s (s + t.spare) t.clearance ss
  valid_apart j = each (slot_at ss j) refl
    where
      each : (x : Slot) → slot_at ss j ≡ x → Apart s (s + t.spare) t.clearance j x
      each unused e = tt
      each (used u) e = apart_used j u e

-- a used slot of them, in a valid state: its label is within c
pub apart_within : (first last c : ℕ) (state : State) → Valid state → AllApart first last c state.slots → (j : ℕ) → first ≤ j → j ≤ last
    → (t : Task) → slot_at state.slots j ≡ used t → (t.clearance ≡ c) × (is_subset t.label c ≡ true)
apart_within first last c state ok apart j p q t at =
    let e : t.clearance ≡ c = ((rw at at (apart j)).1 p q).0 in
    let f : TaskFacts state.version _ j t = rw at at (slot_facts state.version _ j (slot_at state.slots j) (ok.tasks j)) in
    (e, rw (← e) f.clearance.above)
