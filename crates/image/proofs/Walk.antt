-- Laws of a walk over the slots, from the front of the bytes that are left to the bytes behind.
use Prim.Native.Nat.{ℕ, zero, suc, ◌+◌, ◌-◌, ◌<◌, ◌≤◌}
use mathlib.Core.Path.{◌≡◌, refl}
use mathlib.Core.List.{List}
use native.Mathlib.Omega.{arith}
use Rattle.image.specs.Refusal.{◌then◌, slot_number, slots_number}
use Rattle.image.specs.Image.{behind, skip}

pub skip_none : (b : List ℕ) → skip 0 b ≡ b
unfolding skip
skip_none b = refl

pub skip_next : (k : ℕ) (b : List ℕ) → skip (k + 1) b ≡ behind (skip k b)
unfolding skip
skip_next zero b = refl
skip_next (suc k) b = let e : suc k + 1 ≡ suc (k + 1) = omega arith in rw e (skip_next k (behind b))

-- the first of the slots that are left, and none left
pub slots_first : (v s n : ℕ) (b : List ℕ) → s < 16 → slots_number v (16 - s) s n b ≡ (slot_number v s n b then slots_number v (16 - (s + 1)) (s + 1) n (behind b))
unfolding slots_number
slots_first v s n b h = let e : 16 - s ≡ suc (16 - (s + 1)) = omega arith in rw e

pub slots_done : (v s n : ℕ) (b : List ℕ) → 16 ≤ s → slots_number v (16 - s) s n b ≡ 0
unfolding slots_number
slots_done v s n b h = let e : 16 - s ≡ 0 = omega arith in rw e
