-- Laws of the spare rule: sixteen slots, and the slots of every spare are among them and unused.
-- An unused slot has no spare, so the rule speaks of every slot alike.
use Prim.Native.Nat.{ℕ, suc, ◌+◌, ◌≤◌, ◌<◌}
use mathlib.Core.Logic.{◌≢◌}
use mathlib.Core.Path.{◌≡◌, refl, ap, ◌∙◌}
use mathlib.Core.Bool.{Bool, ◌&&◌}
use mathlib.Core.List.{List, map}
use native.Mathlib.Decide.{ℕ_discrete, dec_lt}
use native.Mathlib.Omega.{arith}
use lib.Dec.{eqb}
use lib.ListN.{length, set, length-set, length-map, get_or-map, get_or-eq_default}
use lib.Seq.{get_or-set_same, get_or-set_other}
use Rattle.wire.proofs.Lists.{split, get_d_set_at}
use Rattle.machine.specs.declared.Message.{Message}
use Rattle.machine.specs.State.{Task, Slot, unused, used, slot_at, spare_of}
use Rattle.machine.specs.Effect.{Action, no_action, deliver, spawn, Outcome}
use Rattle.machine.specs.Turn.{has_room, enqueue, perform, applied}
use Rattle.machine.specs.View.{view_slot}
use Rattle.machine.proofs.Rules.{SparesFree}
use Rattle.machine.proofs.Effect.{Allowed, Contained}

pub record Spares (ss : List Slot) : Type 0 where
  pub slot_count : length ss ≡ 16
  pub fits : (s : ℕ) → s ≤ 15 → s + spare_of (slot_at ss s) ≤ 15
  pub free : SparesFree ss

-- ---- slots that take up no more than before

-- slot y in the place of slot x
pub record NoMore (x y : Slot) : Type 0 where
  pub spare : spare_of y ≤ spare_of x
  pub empty : x ≡ unused → y ≡ unused

no_more_same : (x : Slot) → NoMore x x
no_more_same x = record { spare = omega arith; empty = λ e. e }

no_more_used : (t t' : Task) → t'.spare ≤ t.spare → NoMore (used t) (used t')
no_more_used t t' h = record { spare = h; empty = λ e. cc }

no_more_unused : (x : Slot) → NoMore x unused
no_more_unused x = record { spare = omega arith; empty = λ e. refl }

no_more_enqueue : (m : Message) (x : Slot) → NoMore x (enqueue m x)
no_more_enqueue m unused = no_more_same unused
no_more_enqueue m (used t) =
    split (eqb t.kind 1 && has_room m.label t.mailbox) (λ b. rw b (no_more_used t _ (omega arith))) (λ b. rw b (no_more_same (used t)))

no_more_view : (sees : ℕ → Bool) (x : Slot) → NoMore x (view_slot sees x)
no_more_view sees unused = no_more_same unused
no_more_view sees (used t) =
    split (sees t.label) (λ e. rw e (no_more_used t _ (omega arith))) (λ e. rw e (no_more_unused (used t)))

spares_within : (ss ss' : List Slot) → Spares ss → length ss' ≡ 16 → ((i : ℕ) → NoMore (slot_at ss i) (slot_at ss' i)) → Spares ss'
spares_within ss ss' ok n w = record {
  slot_count = n;
  fits = λ s h. omega (arith, (w s).spare, ok.fits s h);
  free = λ s j lt le. (w j).empty (ok.free s j lt (omega (arith, (w s).spare)));
}

spares_set : (ss : List Slot) (i : ℕ) (y : Slot) → Spares ss → NoMore (slot_at ss i) y → Spares (set ss i y)
spares_set ss i y ok w =
    spares_within ss (set ss i y) ok (rw length-set ok.slot_count)
    (λ n. get_d_set_at (NoMore (slot_at ss n)) ss i n y unused (λ h. rw h w) (no_more_same (slot_at ss n)))

pub spares_deliver : (ss : List Slot) (j : ℕ) (m : Message) → Spares ss → Spares (perform (deliver j m) ss)
spares_deliver ss j m ok = spares_set ss j (enqueue m (slot_at ss j)) ok (no_more_enqueue m (slot_at ss j))

pub spares_view : (sees : ℕ → Bool) (ss : List Slot) → Spares ss → Spares (map (view_slot sees) ss)
spares_view sees ss ok =
    spares_within ss (map (view_slot sees) ss) ok (rw length-map ok.slot_count)
    (λ i. rw (get_or-map (view_slot sees) ss i unused) (no_more_view sees (slot_at ss i)))

-- ---- a sandbox: the parent in slot i keeps the first part of its spare, and the child in slot j stands ahead of the rest
module _ (ss : List Slot) (ok : Spares ss) (i j : ℕ) (t t' c : Task) (at : slot_at ss i ≡ used t) (low : i ≤ 15)
    (ahead : suc (i + t'.spare) ≡ j) (parts : suc (t'.spare + c.spare) ≡ t.spare) where
  after : List Slot
  after = set (set ss i (used t')) j (used c)

  owns : spare_of (slot_at ss i) ≡ t.spare
  owns = rw at

  bound : i + t.spare ≤ 15
  bound = omega (arith, ok.fits i low, owns)

  after_j : slot_at after j ≡ used c
  unfolding after
  after_j = get_or-set_same (set ss i (used t')) j (used c) unused (rw length-set (omega (arith, ok.slot_count, bound)))

  after_i : slot_at after i ≡ used t'
  unfolding after
  after_i = get_or-set_other (set ss i (used t')) j i (used c) unused (omega arith) ∙ get_or-set_same ss i (used t') unused (omega (arith, ok.slot_count))

  after_other : (n : ℕ) → n ≢ i → n ≢ j → slot_at after n ≡ slot_at ss n
  unfolding after
  after_other n p q = get_or-set_other (set ss i (used t')) j n (used c) unused q ∙ get_or-set_other ss i n (used t') unused p

  -- no slot of another's spare is one of the two
  apart : (a b : ℕ) → a ≢ i → a < b → b ≤ a + spare_of (slot_at ss a) → (b ≢ i) × (b ≢ j)
  apart a b p lt le = (not_i, not_j)
    where
      in_use : (n : ℕ) → n ≡ i → slot_at ss n ≡ unused → ⊥
      in_use n h f = let z : ◌≡◌ {A = ℕ} 0 1 = cc in omega arith

      not_i : b ≢ i
      not_i h = in_use b h (ok.free a b lt le)

      no_spare : slot_at ss a ≡ unused → ⊥
      no_spare f = omega (arith, ap spare_of f)

      not_j : b ≢ j
      not_j h = go (dec_lt a i)
        where
          go : Dec (a < i) → ⊥
          go (yes s) = in_use i refl (ok.free a i s (omega arith))
          go (no s) = no_spare (ok.free i a (omega arith) (omega (arith, owns)))

  after_fits : (a : ℕ) → a ≤ 15 → Dec (a ≡ j) → Dec (a ≡ i) → a + spare_of (slot_at after a) ≤ 15
  after_fits a h (yes p) q = rw (p, after_j) (omega (arith, bound))
  after_fits a h (no p) (yes q) = rw (q, after_i) (omega (arith, bound))
  after_fits a h (no p) (no q) = rw (after_other a q p) (ok.fits a h)

  after_free : (a b : ℕ) → a < b → b ≤ a + spare_of (slot_at after a) → Dec (a ≡ j) → Dec (a ≡ i) → slot_at after b ≡ unused
  after_free a b lt le (yes p) q =
      let h : b ≤ j + c.spare = rw (p, after_j) at le in
      after_other b (omega arith) (omega arith) ∙ ok.free i b (omega arith) (omega (arith, owns))
  after_free a b lt le (no p) (yes q) =
      let h : b ≤ i + t'.spare = rw (q, after_i) at le in
      after_other b (omega arith) (omega arith) ∙ ok.free i b (omega arith) (omega (arith, owns))
  after_free a b lt le (no p) (no q) =
      let h : b ≤ a + spare_of (slot_at ss a) = rw (after_other a q p) at le in
      let n = apart a b q lt h in
      after_other b n.0 n.1 ∙ ok.free a b lt h

  spares_spawn : Spares (set (set ss i (used t')) j (used c))
  unfolding after
  spares_spawn = record {
    slot_count = rw (length-set, length-set) ok.slot_count;
    fits = λ a h. after_fits a h (ℕ_discrete a j) (ℕ_discrete a i);
    free = λ a b lt le. after_free a b lt le (ℕ_discrete a j) (ℕ_discrete a i);
  }

-- ---- one turn of the task t in slot i

module _ (ss : List Slot) (ok : Spares ss) (i : ℕ) (t : Task) (at : slot_at ss i ≡ used t) where
  -- only the sixteen slots are used
  used_low : i ≤ 15
  used_low = go (dec_lt i 16)
    where
      go : Dec (i < 16) → i ≤ 15
      go (yes h) = omega arith
      go (no h) = let z : ◌≡◌ {A = ℕ} 0 1 = cc (get_or-eq_default ss unused {n = i} (omega (arith, ok.slot_count))) in omega arith

  module _ (may_flow : ℕ → ℕ → Bool) where
    spares_own : (t' : Task) → t.spare ≡ t'.spare → Spares (set ss i (used t'))
    spares_own t' h = spares_set ss i (used t') ok (rw at (no_more_used t t' (omega arith)))

    spares_perform : (t' : Task) (a : Action) → Allowed may_flow i t t' a → Spares (perform a (set ss i (used t')))
    spares_perform t' no_action h = spares_own t' h
    spares_perform t' (deliver j m) h = spares_deliver (set ss i (used t')) j m (spares_own t' h.0)
    spares_perform t' (spawn j c) h = spares_spawn ss ok i j t t' c at used_low h.0 h.1

    -- a child's slot was unused
    pub spawn_unused : (t' : Task) (j : ℕ) (c : Task) → Allowed may_flow i t t' (spawn j c) → slot_at ss j ≡ unused
    spawn_unused t' j c h = ok.free i j (omega arith) (rw at (omega arith))

    pub spares_applied : (o : Outcome) → Contained may_flow i t o → Spares (applied i o ss)
    spares_applied o h = spares_perform o.task o.action h.allowed
