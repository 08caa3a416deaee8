-- Laws of the count of a label's messages: what it comes to, and how it is made of the set of them.
use Prim.Native.Nat.{ℕ, zero, suc, ◌+◌, ◌-◌, ◌/◌, ◌%◌, ◌^◌, ◌<◌, ◌≤◌}
use mathlib.Core.Path.{◌≡◌, refl, sym, ap, ap₂, ◌∙◌}
use mathlib.Core.Bool.{Bool, true, false, cond}
use mathlib.Core.List.{List, [], ◌∷◌}
use native.Mathlib.Nat.{pow-suc, mod-lt, not-suc-le-zero}
use native.Mathlib.Omega.{arith}
use borrow.Author.Tests.{lt-ltb, le-ltb}
use lib.Dec.{eqb, ltb}
use lib.Bits.{and_le_l}
use lib.ListN.{length}
use lib.Count.{count_trailing_zeros, under}
use Rattle.wire.proofs.Lists.{split}
use Rattle.label.proofs.Bits.{two}
use Rattle.planes.specs.Planes.{set_of, without_lowest}
use Rattle.planes.proofs.Sets.{set_odd, set_half, set_below, even_half, odd_half, lowest_gone}
use Rattle.machine.specs.declared.Message.{Message}
use Rattle.search.specs.declared.Looked.{Looked}
use Rattle.search.specs.Look.{one_more, look_for}

-- all are met
pub look_met : (label : ℕ) (ms : List Message) → look_for label ms 0 ≡ record { room = false; looked = 0 }
unfolding look_for
look_met label [] = rw (le-ltb 0 0 (omega arith))
look_met label (m ∷ ms) = refl

-- a mailbox with fewer messages than are looked for
pub look_few : (label : ℕ) (ms : List Message) (k : ℕ) → length ms < k → look_for label ms k ≡ record { room = true; looked = length ms }
unfolding look_for
look_few label [] k h = rw (lt-ltb 0 k h)
look_few label (m ∷ ms) zero h = absurd (not-suc-le-zero h)
look_few label (m ∷ ms) (suc k) h =
    split (eqb m.label label)
    (λ e. rw (e, look_few label ms k (omega arith)))
    (λ e. rw (e, look_few label ms (suc k) (omega arith)))

-- ---- the same of a set: n messages are looked through for k whose bits are 1

unfoldable pub look_in : ℕ → ℕ → ℕ → Looked
look_in zero x k = record { room = ltb 0 k; looked = 0 }
look_in (suc n) x zero = record { room = false; looked = 0 }
look_in (suc n) x (suc k) = one_more (look_in n (x / 2) (suc k - x % 2))

-- the set of a label's messages
look_set : (label : ℕ) (ms : List Message) (k : ℕ) → look_in (length ms) (set_of (λ m. eqb m.label label) ms) k ≡ look_for label ms k
unfolding look_for look_in
look_set label [] k = refl
look_set label (m ∷ ms) zero = refl
look_set label (m ∷ ms) (suc k) =
    let p : Message → Bool = λ m. eqb m.label label in
    let less : suc k - cond (p m) 1 0 ≡ cond (p m) k (suc k) = split (p m) (λ e. rw e (omega arith)) (λ e. rw e (omega arith)) in
    ap₂ (λ (a b : ℕ). one_more (look_in (length ms) b (suc k - a))) (set_odd p m ms) (set_half p m ms)
    ∙ ap (λ (j : ℕ). one_more (look_in (length ms) (set_of p ms) j)) less
    ∙ ap one_more (look_set label ms (cond (p m) k (suc k)))

look_in_met : (n x : ℕ) → look_in n x 0 ≡ record { room = false; looked = 0 }
unfolding look_in
look_in_met zero x = rw (le-ltb 0 0 (omega arith))
look_in_met (suc n) x = refl

-- one is passed, and one less is looked for
look_rest : (n x k : ℕ) → look_in n (without_lowest x) (suc k) ≡ look_in n x (suc (suc k))
unfolding look_in
look_rest zero x k = rw (lt-ltb 0 (suc k) (omega arith), lt-ltb 0 (suc (suc k)) (omega arith))
look_rest (suc n) x k =
    let same : suc k - 0 ≡ suc k = omega arith in
    let none : suc (suc k) - 0 ≡ suc (suc k) = omega arith in
    let one : suc (suc k) - 1 ≡ suc k = omega arith in
    rw (lowest_gone x, same)
    (two (λ y. x % 2 ≡ y → one_more (look_in n (without_lowest x / 2) (suc k)) ≡ one_more (look_in n (x / 2) (suc (suc k) - x % 2)))
    (λ e. rw (even_half x e, e, none) (ap one_more (look_rest n (x / 2) k)))
    (λ e. rw (odd_half x e, e, one))
    (x % 2) (mod-lt x (omega arith)) refl)

-- none is left
look_none : (n k : ℕ) → look_in n 0 (suc k) ≡ record { room = true; looked = n }
unfolding look_in
look_none zero k = rw (lt-ltb 0 (suc k) (omega arith))
look_none (suc n) k = let same : suc k - 0 ≡ suc k = omega arith in rw same (ap one_more (look_none n k))

-- the first of those that are left is the last that is looked at
look_first : (w n x : ℕ) → n ≤ w → x < 2 ^ n → (x ≡ 0 → ⊥) → look_in n x 1 ≡ record { room = false; looked = suc (count_trailing_zeros w x) }
unfolding look_in count_trailing_zeros
look_first w zero x l h some = absurd (some (omega arith))
look_first zero (suc n) x l h some = absurd (not-suc-le-zero l)
look_first (suc w) (suc n) x l h some =
    let small = rw pow-suc at h in
    two (λ y. x % 2 ≡ y → one_more (look_in n (x / 2) (1 - x % 2)) ≡ record { room = false; looked = suc (under (x % 2) (count_trailing_zeros w (x / 2))) })
    (λ e. rw e (ap one_more (look_first w n (x / 2) (omega arith) (omega arith) (λ z. some (omega arith)))))
    (λ e. let met : 1 - 1 ≡ 0 = omega arith in rw (e, met, look_in_met n (x / 2)))
    (x % 2) (mod-lt x (omega arith)) refl

-- ---- the loop

-- `left` of the label's messages among n begins with the nth of them
pub record Going (label : ℕ) (ms : List Message) (n left nth : ℕ) : Type 0 where
  pub begun : 1 ≤ nth
  pub most : nth ≤ 4
  pub within : left < 2 ^ n
  pub answer : look_in n left (5 - nth) ≡ look_for label ms 4

module _ (label : ℕ) (ms : List Message) (n left : ℕ) where
  pub going_first : n ≡ length ms → left ≡ set_of (λ m. eqb m.label label) ms → Going label ms n left 1
  going_first count set =
      record {
        begun = omega arith;
        most = omega arith;
        within = rw (count, set) (set_below (λ m. eqb m.label label) ms);
        answer = rw (count, set) (look_set label ms 4);
      }

  pub going_next : (nth : ℕ) → nth < 4 → Going label ms n left nth → Going label ms n (without_lowest left) (nth + 1)
  going_next nth early g =
      let fewer : 5 - (nth + 1) ≡ suc (3 - nth) = omega arith in
      let more : 5 - nth ≡ suc (suc (3 - nth)) = omega (arith, g.begun) in
      record {
        begun = omega arith;
        most = omega arith;
        within = omega (arith, and_le_l left (left - 1), g.within);
        answer = rw fewer (look_rest n left (3 - nth)) ∙ rw more at g.answer;
      }

  module _ (nth : ℕ) (late : 4 ≤ nth) (g : Going label ms n left nth) where
    at_fourth : look_in n left 1 ≡ look_for label ms 4
    at_fourth = let one : 5 - nth ≡ 1 = omega (arith, g.most) in rw one at g.answer

    pub going_none : left ≡ 0 → record { room = true; looked = n } ≡ look_for label ms 4
    going_none none = sym (look_none n 0) ∙ ap (λ (x : ℕ). look_in n x 1) (sym none) ∙ at_fourth

    pub going_some : n ≤ 64 → (left ≡ 0 → ⊥) → record { room = false; looked = count_trailing_zeros 64 left + 1 } ≡ look_for label ms 4
    going_some many some =
        let last : count_trailing_zeros 64 left + 1 ≡ suc (count_trailing_zeros 64 left) = omega arith in
        rw last (sym (look_first 64 n left many g.within some) ∙ at_fourth)
