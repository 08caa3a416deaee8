-- Laws of sets: a word whose bits are right is the set, how many are in it, which is the first, and the set without its lowest.
use Rattle.std.proofs.Common.{◌≡◌, ℕ, zero, suc, ◌+◌, ◌-◌, ◌/◌, ◌%◌, ◌^◌, ◌<◌, ◌≤◌, min, Bool, cond, ◌&&◌, eqb, ltb, List, [], ◌∷◌, length, get_or, take, sym, refl, ap, ◌∙◌, ap₂, not-suc-le-zero, mod-lt, pow-suc, arith, pow_pos, le-ltb, lt-ltb}
use native.Mathlib.Nat.{mod-one}
use lib.Dec.{eqb-suc-zero, eqb-suc-suc, leb-suc-suc}
use lib.Arith.{mod-mul}
use lib.Bits.{and_step, and_self}
use lib.Count.{ones, ones_step, count_trailing_zeros, under}
use Rattle.wire.specs.Lists.{keep, tabulate, first_index}
use Rattle.wire.proofs.Lists.{split}
use Rattle.label.specs.Label.{bit}
use Rattle.label.proofs.Bits.{bit_first, bit_half, bit_zero, two}
use Rattle.planes.specs.Planes.{set_of, without_lowest}

module _ {A : Type 0} (p : A → Bool) where
  -- a word whose n low bits are the test's
  pub set_of_bits : (n : ℕ) (f : ℕ → A) (x : ℕ) → ((i : ℕ) → i < n → bit i x ≡ cond (p (f i)) 1 0) → x % 2 ^ n ≡ set_of p (tabulate n f)
  unfolding set_of tabulate
  set_of_bits zero f x h = mod-one x
  set_of_bits (suc n) f x h =
      let ih = set_of_bits n (λ i. f (suc i)) (x / 2) (λ i l. sym (bit_half i x) ∙ h (suc i) (omega arith)) in
      let first : x % 2 ≡ cond (p (f 0)) 1 0 = sym (bit_first x) ∙ h 0 (omega arith) in
      ap (λ (y : ℕ). x % y) (pow-suc 2 n) ∙ mod-mul x (pow_pos n) (omega arith) ∙ rw (ih, first) (omega arith)

  -- ---- a set by halves

  pub set_odd : (x : A) (xs : List A) → set_of p (x ∷ xs) % 2 ≡ cond (p x) 1 0
  unfolding set_of
  set_odd x xs = split (p x) (λ e. rw e (omega arith)) (λ e. rw e (omega arith))

  pub set_half : (x : A) (xs : List A) → set_of p (x ∷ xs) / 2 ≡ set_of p xs
  unfolding set_of
  set_half x xs = split (p x) (λ e. rw e (omega arith)) (λ e. rw e (omega arith))

  pub set_below : (xs : List A) → set_of p xs < 2 ^ length xs
  unfolding set_of
  set_below [] = omega arith
  set_below (x ∷ xs) = let ih = set_below xs in rw pow-suc (split (p x) (λ e. rw e (omega arith)) (λ e. rw e (omega arith)))

  -- bit by bit
  pub set_bit : (xs : List A) (i : ℕ) (d : A) → bit i (set_of p xs) ≡ cond (ltb i (length xs) && p (get_or xs i d)) 1 0
  unfolding set_of
  set_bit [] i d = rw (le-ltb i 0 (omega arith)) (bit_zero i)
  set_bit (x ∷ xs) zero d = rw (lt-ltb 0 (suc (length xs)) (omega arith)) (bit_first (set_of p (x ∷ xs)) ∙ set_odd x xs)
  set_bit (x ∷ xs) (suc i) d = rw (leb-suc-suc (suc i) (length xs)) (bit_half i (set_of p (x ∷ xs)) ∙ ap (bit i) (set_half x xs) ∙ set_bit xs i d)

  pub ones_set : (xs : List A) → ones (set_of p xs) ≡ length (keep p xs)
  unfolding set_of ones
  ones_set [] = refl
  ones_set (x ∷ xs) =
      let ih = ones_set xs in
      ones_step (set_of p (x ∷ xs)) ∙ ap₂ (λ (a b : ℕ). a + ones b) (set_odd x xs) (set_half x xs)
      ∙ split (p x) (λ e. rw e (omega (arith, ih))) (λ e. rw e (omega (arith, ih)))

  pub first_set : (xs : List A) → count_trailing_zeros (length xs) (set_of p xs) ≡ first_index p xs
  unfolding count_trailing_zeros
  first_set [] = refl
  first_set (x ∷ xs) =
      let ih = first_set xs in
      ap₂ (λ (a b : ℕ). under a (count_trailing_zeros (length xs) b)) (set_odd x xs) (set_half x xs) ∙ split (p x) (λ e. rw e) (λ e. rw e (ap suc ih))

  -- among the first n, the first is the same or is not there
  pub first_take : (n : ℕ) (xs : List A) → n ≤ length xs → first_index p (take n xs) ≡ min (first_index p xs) n
  first_take zero xs h = omega arith
  first_take (suc n) [] h = absurd (not-suc-le-zero h)
  first_take (suc n) (x ∷ xs) h =
      let ih = first_take n xs (omega arith) in
      split (p x) (λ e. rw e (omega arith)) (λ e. rw (e, ih) (omega arith))

-- ---- a set without its lowest

module _ (x : ℕ) where
  pub even_half : x % 2 ≡ 0 → without_lowest x / 2 ≡ without_lowest (x / 2)
  even_half e =
      let h : (x - 1) / 2 ≡ x / 2 - 1 = omega arith in
      let s = and_step x (x - 1) in
      rw (s, h, e) (omega arith)

  pub odd_half : x % 2 ≡ 1 → without_lowest x / 2 ≡ x / 2
  odd_half e =
      let h : (x - 1) / 2 ≡ x / 2 = omega arith in
      let m : (x - 1) % 2 ≡ 0 = omega arith in
      let s = and_step x (x - 1) in
      rw (s, h, m, and_self (x / 2)) (omega arith)

  pub lowest_gone : without_lowest x % 2 ≡ 0
  lowest_gone =
      let even : x % 2 ≡ 0 → without_lowest x % 2 ≡ 0 = λ e. rw (and_step x (x - 1), e) (omega arith) in
      let odd : x % 2 ≡ 1 → without_lowest x % 2 ≡ 0 = λ e. let d : (x - 1) % 2 ≡ 0 = omega arith in rw (and_step x (x - 1), d) (omega arith) in
      two (λ y. x % 2 ≡ y → without_lowest x % 2 ≡ 0) even odd (x % 2) (mod-lt x (omega arith)) refl

-- bit by bit
pub rest_bit : (n x i : ℕ) → x < 2 ^ n → bit i (without_lowest x) ≡ cond (eqb i (count_trailing_zeros n x)) 0 (bit i x)
unfolding count_trailing_zeros
rest_bit zero x i h = let none : x ≡ 0 = omega arith in rw (none, bit_zero i) (split (eqb i 0) (λ e. rw e) (λ e. rw e))
rest_bit (suc n) x zero h =
    let t = count_trailing_zeros n (x / 2) in
    rw (bit_first (without_lowest x), lowest_gone x, bit_first x)
    (two (λ y. 0 ≡ cond (eqb 0 (under y t)) 0 y) (split (eqb 0 (under 0 t)) (λ e. rw e) (λ e. rw e)) refl (x % 2) (mod-lt x (omega arith)))
rest_bit (suc n) x (suc i) h =
    let small = rw pow-suc at h in
    let t = count_trailing_zeros n (x / 2) in
    rw (bit_half i (without_lowest x), bit_half i x)
    (two (λ y. x % 2 ≡ y → bit i (without_lowest x / 2) ≡ cond (eqb (suc i) (under y t)) 0 (bit i (x / 2)))
    (λ e. rw (even_half x e, eqb-suc-suc i t) (rest_bit n (x / 2) i (omega arith)))
    (λ e. rw (odd_half x e, eqb-suc-zero i))
    (x % 2) (mod-lt x (omega arith)) refl)
