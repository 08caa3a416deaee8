-- Laws of the bits that each operation on a word of 64 gives.
use Rattle.std.proofs.Common.{◌≡◌, ℕ, ◌+◌, ◌-◌, ◌*◌, ◌/◌, ◌%◌, ◌^◌, ◌<◌, ◌≤◌, min, true, cond, eqb, ltb, leb, refl, ap, ◌∙◌, one-mul, arith, lit<, shl_exact, lt-ltb}
use lib.Pow.{pow-lt, ones_split, ones_lt, high}
use lib.Bits.{bit_and, bit_or, bit_xor}
use Rattle.wire.proofs.Lists.{split}
use Rattle.label.specs.Label.{bit}
use Rattle.label.proofs.Bits.{bit_half, bit_lt, two, bit_zero, bit_and_lem, bit_or_lem, bit_xor_lem, bit_not, bit_below, bit_one}
use Rattle.planes.specs.Planes.{Bits, behind_gap}

abbrev pub all_ones : ℕ
all_ones = 18446744073709551615

-- ones of n bits, shifted down from w of them
pub shifted_ones : (w n : ℕ) → n ≤ w → (2 ^ w - 1) / 2 ^ (w - n) ≡ 2 ^ n - 1
shifted_ones w n h =
    let e : w ≡ n + (w - n) = omega arith in
    ap (λ (v : ℕ). (2 ^ v - 1) / 2 ^ (w - n)) e ∙ ap (λ (y : ℕ). y / 2 ^ (w - n)) (ones_split n (w - n)) ∙ high (2 ^ n - 1) (w - n) (ones_lt (w - n))

pub one_shifted : (n : ℕ) → n < 64 → (1 * 2 ^ n) % 2 ^ 64 ≡ 2 ^ n
one_shifted n h = shl_exact {a = 1} 1 n 64 (lit< tt) (omega arith) ∙ one-mul (2 ^ n)

-- 0 less a bit: nothing, or all ones
pub bits_spread : (t : ℕ) → t < 2 → Bits (λ i. t) ((0 + (all_ones + 1 - t)) % (all_ones + 1))
bits_spread =
    two (λ t. Bits (λ i. t) ((0 + (all_ones + 1 - t)) % (all_ones + 1)))
    (λ i l. bit_zero i)
    (λ i l. bit_below i 64 ∙ rw (below l))
  where
    below : {i : ℕ} → i < 64 → ltb i 64 ≡ true
    below {i} l = lt-ltb i 64 l

module _ (x y t : ℕ) (b : Bits (λ i. t) y) (small : t < 2) where
  pub bits_unlike : Bits (λ i. cond (eqb (bit i x) t) 0 1) (bit_xor x y)
  bits_unlike i l = bit_xor_lem i x y ∙ rw (b i l)

  pub bits_above : y < 2 ^ 64 → Bits (λ i. cond (leb (bit i x) t) 0 1) (bit_and x (all_ones - y))
  bits_above h i l =
      bit_and_lem i x (all_ones - y) ∙ rw (bit_not i 64 y l h, b i l)
      (two (λ p. min p (1 - t) ≡ cond (leb p t) 0 1)
      (two (λ t. min 0 (1 - t) ≡ cond (leb 0 t) 0 1) refl refl t small) (two (λ t. min 1 (1 - t) ≡ cond (leb 1 t) 0 1) refl refl t small)
      (bit i x) (bit_lt i x))

-- bit n becomes t: it is turned over where it is another
pub bits_with : (x u n t : ℕ) → n < 64 → t < 2 → Bits (λ i. cond (eqb (bit i x) t) 0 1) u → Bits (λ i. cond (eqb i n) t (bit i x)) (bit_xor x (bit_and u ((1 * 2 ^ n) % 2 ^ 64)))
bits_with x u n t h small b i l =
    rw (one_shifted n h, bit_xor_lem i x (bit_and u (2 ^ n)), bit_and_lem i u (2 ^ n), bit_one i n, b i l)
    (two (λ p. cond (eqb p (min (cond (eqb p t) 0 1) (cond (eqb i n) 1 0))) 0 1 ≡ cond (eqb i n) t p)
    (split (eqb i n)
    (λ e. rw e (two (λ t. cond (eqb 0 (min (cond (eqb 0 t) 0 1) 1)) 0 1 ≡ t) refl refl t small))
    (λ e. rw e (two (λ t. cond {A = ℕ} (eqb 0 (min (cond (eqb 0 t) 0 1) 0)) 0 1 ≡ 0) refl refl t small)))
    (split (eqb i n)
    (λ e. rw e (two (λ t. cond (eqb 1 (min (cond (eqb 1 t) 0 1) 1)) 0 1 ≡ t) refl refl t small))
    (λ e. rw e (two (λ t. cond {A = ℕ} (eqb 1 (min (cond (eqb 1 t) 0 1) 0)) 0 1 ≡ 1) refl refl t small)))
    (bit i x) (bit_lt i x))

pub bits_without : (x k : ℕ) → k < 64
    → Bits (λ i. bit (behind_gap k i) x) (bit_or (bit_and x ((1 * 2 ^ k) % 2 ^ 64 - 1)) (bit_and (x / 2) (all_ones - ((1 * 2 ^ k) % 2 ^ 64 - 1))))
bits_without x k h i l =
    let b = bit_lt i x in
    let b' = bit_lt i (x / 2) in
    let low : 2 ^ k - 1 < 2 ^ 64 = omega (arith, pow-lt h) in
    rw (one_shifted k h, bit_or_lem i (bit_and x (2 ^ k - 1)) (bit_and (x / 2) (all_ones - (2 ^ k - 1))), bit_and_lem i x (2 ^ k - 1), bit_and_lem i (x / 2) (all_ones - (2 ^ k - 1)), bit_not i 64 (2 ^ k - 1) l low, bit_below i k)
    (split (ltb i k) (λ f. rw f (omega arith)) (λ f. rw (f, bit_half i x) (omega arith)))
