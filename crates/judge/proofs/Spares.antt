-- The rule on spare slots as one pass decides it: a used slot stands above the spares of all slots before it.
use Prim.Native.Nat.{ℕ, zero, suc, ◌+◌, ◌≤◌, ◌<◌, max}
use mathlib.Core.Path.{◌≡◌, refl, sym, ap, ◌∙◌}
use mathlib.Core.Bool.{Bool, true, false, ◌||◌}
use mathlib.Core.List.{List, [], ◌∷◌}
use native.Mathlib.Decide.{dec_lt}
use native.Mathlib.Nat.{not-suc-le-zero}
use native.Mathlib.Numerals.{add-one}
use native.Mathlib.Omega.{arith}
use borrow.Author.Tests.{leb-true, le-leb, lt-leb}
use lib.Dec.{leb, eqb, eqb-suc-zero}
use lib.ListN.{length, get_or, get_or-eq_default}
use Rattle.wire.specs.Lists.{each}
use Rattle.wire.proofs.Lists.{split, each_intro, each_at, each_none, each_more, each_fails}
use Rattle.machine.specs.State.{Slot, unused, used, slot_at, is_unused, spare_of}
use Rattle.machine.specs.Valid.{spares_unused}
use Rattle.machine.proofs.Rules.{SparesFree, spares_free, spares_test}
use Rattle.image.specs.Record.{slot_of}
use Rattle.image.specs.Image.{record_of, skip, slots_of}
use Rattle.image.specs.Inner.{clearance_width}
use Rattle.image.proofs.Offsets.{task_at_lem}
use Rattle.image.proofs.Slots.{slot_at_lem, length_slots_of}
use Rattle.image.proofs.Walk.{skip_none, skip_next}

module _ (ss : List Slot) where
  -- the first slot above the first s slots and their spares
  unfoldable pub free_from : ℕ → ℕ
  free_from zero = 0
  free_from (suc s) = max (free_from s) (s + spare_of (slot_at ss s) + 1)

  pub free_none : free_from 0 ≡ 0
  unfolding free_from
  free_none = refl

  free_next : (s : ℕ) → free_from (s + 1) ≡ max (free_from s) (s + spare_of (slot_at ss s) + 1)
  unfolding free_from
  free_next s = rw (add-one s)

  -- slot s is in no spare of a slot before it, if it is used
  abbrev pub is_clear : ℕ → Bool
  is_clear s = is_unused (slot_at ss s) || leb (free_from s) s

  -- each spare before s ends below free_from s
  spares_below : (s i : ℕ) → i < s → i + spare_of (slot_at ss i) < free_from s
  unfolding free_from
  spares_below zero i h = absurd (not-suc-le-zero h)
  spares_below (suc s) i h =
      let ih = spares_below s i in
      elim (dec_lt i s) [
        | yes l ↦ let z = ih l in omega arith
        | no l ↦ let e : i ≡ s = omega arith in rw e (omega arith)
      ]

  -- and free_from s is no higher than a used slot from s on
  below_used : SparesFree ss → (j : ℕ) → is_unused (slot_at ss j) ≡ false → (s : ℕ) → s ≤ j → free_from s ≤ j
  unfolding free_from
  below_used h j u zero l = omega arith
  below_used h j u (suc s) l =
      let ih = below_used h j u s (omega arith) in
      elim (dec_lt (s + spare_of (slot_at ss s)) j) [
        | yes p ↦ omega arith
        | no p ↦ let z : ◌≡◌ {A = ℕ} 0 1 = cc (ap is_unused (h s j (omega arith) (omega arith))) in omega arith
      ]

  clear : length ss ≡ 16 → spares_unused ss ≡ true → each 16 is_clear ≡ true
  clear n e =
      each_intro 16 is_clear
      (λ s l. split (is_unused (slot_at ss s)) (λ u. rw u) (λ u. rw (u, le-leb (free_from s) s (below_used (spares_free ss n e) s u s (omega arith)))))

  -- a slot in a spare before it is unused, for it is not above that spare
  free : length ss ≡ 16 → each 16 is_clear ≡ true → SparesFree ss
  free n e i j lt le =
      elim (dec_lt j 16) [
        | yes h ↦ go (slot_at ss j) refl h
        | no h ↦ get_or-eq_default ss unused {n = j} (omega arith)
      ]
    where
      go : (x : Slot) → slot_at ss j ≡ x → j < 16 → slot_at ss j ≡ unused
      go unused f h = f
      go (used t) f h =
          absurd (omega (arith, spares_below j i lt, leb-true (free_from j) j (rw f at (each_at 16 is_clear e j h))))

  pub spares_clear : length ss ≡ 16 → spares_unused ss ≡ each 16 is_clear
  spares_clear n =
      split (each 16 is_clear)
      (λ e. spares_test ss (free n e) ∙ sym e)
      (λ e. split (spares_unused ss) (λ f. let g : each 16 is_clear ≡ true = clear n f in cc) (λ f. f ∙ sym e))

-- ---- a slot as its record shows it

module _ (v : ℕ) where
  unused_empty : (r : List ℕ) → is_unused (slot_of v r) ≡ eqb (length r) 0
  unused_empty [] = refl
  unused_empty (x ∷ r) = sym (eqb-suc-zero (length r))

  spare_byte : (r : List ℕ) → spare_of (slot_of v r) ≡ get_or r (2 + clearance_width v) 0
  spare_byte [] = refl
  spare_byte (x ∷ r) = (task_at_lem v (x ∷ r)).spare

  module _ (b : List ℕ) (s : ℕ) (h : s < 16) where
    pub clear_at : is_clear (slots_of v 16 b) s ≡ eqb (length (record_of (skip s b))) 0 || leb (free_from (slots_of v 16 b) s) s
    clear_at = rw (slot_at_lem v 16 s b h, unused_empty)

    pub free_at : free_from (slots_of v 16 b) (s + 1) ≡ max (free_from (slots_of v 16 b) s) (s + get_or (record_of (skip s b)) (2 + clearance_width v) 0 + 1)
    free_at = free_next (slots_of v 16 b) s ∙ rw (slot_at_lem v 16 s b h, spare_byte)

    -- a used slot below the first that is free
    pub spare_used : (r : List ℕ) → r ≡ record_of (skip s b) → eqb (length r) 0 ≡ false → (f : ℕ) → f ≡ free_from (slots_of v 16 b) s → s < f → spares_unused (slots_of v 16 b) ≡ false
    spare_used r e full f is high =
        let ss = slots_of v 16 b in
        let below : s < free_from ss s = omega arith in
        spares_clear ss (length_slots_of v 16 b) ∙ each_fails 16 (is_clear ss) s h (rw (clear_at, ← e, full, lt-leb (free_from ss s) s below))

-- the pass: no slot seen, one more, one that is in a spare, all sixteen
pub ruleset by_slot = (skip_none, skip_next, free_none, free_at, each_none, each_more, clear_at, spare_used, spares_clear, length_slots_of)
