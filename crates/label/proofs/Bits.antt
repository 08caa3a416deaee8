-- Bit i of what the operations on numbers give: a law for each operation, and numbers known by their bits.
use Prim.Native.Nat.{ℕ, zero, suc, ◌+◌, ◌*◌, ◌-◌, ◌/◌, ◌%◌, ◌^◌, ◌<◌, min, max}
use mathlib.Core.Path.{◌≡◌, refl, sym, ap, ◌∙◌}
use mathlib.Core.Bool.{cond}
use native.Mathlib.Nat.{pow-suc, pow-succ', div-div-eq-div-mul, not-suc-le-zero, mod-lt}
use native.Mathlib.Omega.{arith}
use borrow.Author.Tests.{lt-ltb, le-ltb}
use lib.Dec.{ltb, eqb, leb-suc-suc, eqb-suc-suc, eqb-zero-suc, eqb-suc-zero}
use lib.Pow.{pow_pos}
use lib.Bits.{bit_and, bit_or, bit_xor, differ, and_shr, and_step, or_shr, or_step, xor_shr, xor_step}
use Rattle.label.specs.Label.{bit}

pub bit_first : (x : ℕ) → bit 0 x ≡ x % 2
bit_first x = let e : x / 1 % 2 ≡ x % 2 = omega arith in e

pub bit_half : (o x : ℕ) → bit (suc o) x ≡ bit o (x / 2)
bit_half o x = rw (pow-succ', ← div-div-eq-div-mul)

pub bit_lt : (o x : ℕ) → bit o x < 2
bit_lt o x = mod-lt (x / 2 ^ o) (omega arith)

-- a bit t ahead of the bits of r
module _ (t r : ℕ) (h : t < 2) where
  pub bit_ahead_first : bit 0 (t + 2 * r) ≡ t
  bit_ahead_first = bit_first (t + 2 * r) ∙ omega arith

  pub bit_ahead_rest : (o : ℕ) → bit (suc o) (t + 2 * r) ≡ bit o r
  bit_ahead_rest o = let half : (t + 2 * r) / 2 ≡ r = omega arith in bit_half o (t + 2 * r) ∙ ap (bit o) half

-- numbers of n bits are equal where their bits are
pub bits_ext : (n x y : ℕ) → x < 2 ^ n → y < 2 ^ n → ((o : ℕ) → o < n → bit o x ≡ bit o y) → x ≡ y
bits_ext zero x y h k e = omega arith
bits_ext (suc n) x y h k e =
    let h' = rw pow-suc at h in
    let k' = rw pow-suc at k in
    let z : bit 0 x ≡ bit 0 y = e 0 (omega arith) in
    let r : x / 2 ≡ y / 2 = bits_ext n (x / 2) (y / 2) (omega arith) (omega arith) (λ o l. sym (bit_half o x) ∙ e (suc o) (omega arith) ∙ bit_half o y) in
    omega arith

-- a bit is 0 or 1
pub two : (P : ℕ → Type 0) → P 0 → P 1 → (x : ℕ) → x < 2 → P x
two P a b zero h = a
two P a b (suc zero) h = b
two P a b (suc (suc x)) h = absurd (omega arith)

-- ---- the operations

pub bit_zero : (o : ℕ) → bit o 0 ≡ 0
bit_zero zero = refl
bit_zero (suc o) = bit_half o 0 ∙ bit_zero o

pub bit_and_lem : (o x y : ℕ) → bit o (bit_and x y) ≡ min (bit o x) (bit o y)
bit_and_lem o x y = rw (and_shr x y o, and_step) (omega arith)

pub bit_or_lem : (o x y : ℕ) → bit o (bit_or x y) ≡ max (bit o x) (bit o y)
bit_or_lem o x y = rw (or_shr x y o, or_step) (omega arith)

pub bit_xor_lem : (o x y : ℕ) → bit o (bit_xor x y) ≡ cond (eqb (bit o x) (bit o y)) 0 1
bit_xor_lem o x y =
    let h = bit_xor (x / 2 ^ o / 2) (y / 2 ^ o / 2) in
    let Apart : ℕ → ℕ → Type 0 = λ a b. (h * 2 + differ a b) % 2 ≡ cond (eqb a b) 0 1 in
    rw (xor_shr x y o, xor_step)
    (two (λ a. Apart a (bit o y)) (two (Apart 0) (omega arith) (omega arith) (bit o y) (bit_lt o y)) (two (Apart 1) (omega arith) (omega arith) (bit o y) (bit_lt o y))
    (bit o x) (bit_lt o x))

-- the complement of a number of n bits
pub bit_not : (o n x : ℕ) → o < n → x < 2 ^ n → bit o (2 ^ n - 1 - x) ≡ 1 - bit o x
bit_not o zero x l h = absurd (not-suc-le-zero l)
bit_not zero (suc n) x l h = let k = rw pow-suc at h in rw pow-suc (omega arith)
bit_not (suc o) (suc n) x l h =
    let k = rw pow-suc at h in
    let half : (2 ^ suc n - 1 - x) / 2 ≡ 2 ^ n - 1 - x / 2 = rw pow-suc (omega arith) in
    rw (bit_half o (2 ^ suc n - 1 - x), half, bit_half o x) (bit_not o n (x / 2) (omega arith) (omega arith))

-- ones below n
pub bit_below : (o n : ℕ) → bit o (2 ^ n - 1) ≡ cond (ltb o n) 1 0
bit_below o zero = rw (le-ltb o 0 (omega arith)) (bit_zero o)
bit_below zero (suc n) =
    let k = pow_pos n in
    let odd : (2 ^ suc n - 1) % 2 ≡ 1 = rw pow-suc (omega arith) in
    rw (lt-ltb 0 (suc n) (omega arith), bit_first (2 ^ suc n - 1)) odd
bit_below (suc o) (suc n) =
    let k = pow_pos n in
    let half : (2 ^ suc n - 1) / 2 ≡ 2 ^ n - 1 = rw pow-suc (omega arith) in
    rw (bit_half o (2 ^ suc n - 1), half, leb-suc-suc (suc o) n) (bit_below o n)

-- bit n alone
pub bit_one : (o n : ℕ) → bit o (2 ^ n) ≡ cond (eqb o n) 1 0
bit_one zero zero = refl
bit_one zero (suc n) = let even : 2 ^ suc n % 2 ≡ 0 = rw pow-suc (omega arith) in rw (eqb-zero-suc n, bit_first (2 ^ suc n)) even
bit_one (suc o) zero = rw (eqb-suc-zero o) (bit_half o 1 ∙ bit_zero o)
bit_one (suc o) (suc n) =
    let half : 2 ^ suc n / 2 ≡ 2 ^ n = rw pow-suc (omega arith) in
    rw (bit_half o (2 ^ suc n), half, eqb-suc-suc o n) (bit_one o n)
