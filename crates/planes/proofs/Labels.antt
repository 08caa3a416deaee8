-- Laws of the label that planes hold: each of its bits is a plane's, and the tests on labels go bit by bit.
use Rattle.std.proofs.Common.{◌≡◌, ℕ, zero, suc, ◌+◌, ◌*◌, ◌%◌, ◌^◌, ◌<◌, ◌≤◌, Bool, true, eqb, leb, sym, ap, ◌∙◌, not-suc-le-zero, pow-suc, arith, pow_mono, eq-eqb, eqb-true}
use mathlib.Core.Logic.{dite}
use native.Mathlib.Decide.{dec_lt}
use native.Mathlib.Nat.{div-eq_of_lt}
use lib.Dec.{leb-zero}
use Rattle.wire.specs.Lists.{each}
use Rattle.wire.proofs.Lists.{each_intro, each_at, same_tests}
use Rattle.label.specs.Label.{bit, is_subset, flows}
use Rattle.label.proofs.Bits.{bit_ahead_first, bit_ahead_rest, bits_ext, bit_lt}
use Rattle.planes.specs.Planes.{label_from}

label_lt : (n : ℕ) (plane : ℕ → ℕ) (i : ℕ) → label_from n plane i < 2 ^ n
unfolding label_from
label_lt zero plane i = omega arith
label_lt (suc n) plane i =
    let ih = label_lt n (λ b. plane (suc b)) i in
    let first = bit_lt i (plane 0) in
    rw pow-suc (omega arith)

pub label_bit : (n : ℕ) (plane : ℕ → ℕ) (i b : ℕ) → b < n → bit b (label_from n plane i) ≡ bit i (plane b)
unfolding label_from
label_bit zero plane i b h = absurd (not-suc-le-zero h)
label_bit (suc n) plane i zero h = bit_ahead_first (bit i (plane 0)) (label_from n (λ b. plane (suc b)) i) (bit_lt i (plane 0))
label_bit (suc n) plane i (suc b) h =
    bit_ahead_rest (bit i (plane 0)) (label_from n (λ b. plane (suc b)) i) (bit_lt i (plane 0)) b ∙ label_bit n (λ b. plane (suc b)) i b (omega arith)

-- a label is known by its bits
pub label_is : (n : ℕ) (plane : ℕ → ℕ) (i m : ℕ) → m < 2 ^ n → ((b : ℕ) → b < n → bit i (plane b) ≡ bit b m) → label_from n plane i ≡ m
label_is n plane i m h e = bits_ext n (label_from n plane i) m (label_lt n plane i) h (λ b l. label_bit n plane i b l ∙ e b l)

pub label_same : (n : ℕ) (plane plane' : ℕ → ℕ) (i j : ℕ) → ((b : ℕ) → b < n → bit i (plane b) ≡ bit j (plane' b)) → label_from n plane i ≡ label_from n plane' j
label_same n plane plane' i j e =
    label_is n plane i (label_from n plane' j) (label_lt n plane' j) (λ b l. e b l ∙ sym (label_bit n plane' j b l))

-- the label of message i is m
pub label_test : (n : ℕ) (plane : ℕ → ℕ) (i m : ℕ) → m < 2 ^ n → eqb (label_from n plane i) m ≡ each n (λ b. eqb (bit i (plane b)) (bit b m))
label_test n plane i m h =
    let same : ℕ → Bool = λ b. eqb (bit i (plane b)) (bit b m) in
    same_tests (eqb (label_from n plane i) m) (each n same)
    (λ e. each_intro n same (λ b l. eq-eqb (bit i (plane b)) (bit b m) (sym (label_bit n plane i b l) ∙ ap (bit b) (eqb-true (label_from n plane i) m e))))
    (λ e. eq-eqb (label_from n plane i) m (label_is n plane i m h (λ b l. eqb-true (bit i (plane b)) (bit b m) (each_at n same e b l))))

-- the label of message i, of four bits, flows to m
pub label_flows : (plane : ℕ → ℕ) (i m : ℕ) → flows (label_from 4 plane i) m ≡ each 4 (λ b. leb (bit i (plane b)) (bit b m))
unfolding is_subset
label_flows plane i m =
    let k = label_from 4 plane i in
    let small = label_lt 4 plane i in
    let high : (b : ℕ) → 2 ^ 4 ≤ 2 ^ b → leb (bit b k) (bit b m) ≡ true
    = λ b h. let none : bit b k ≡ 0 = ap (λ (y : ℕ). y % 2) (div-eq_of_lt {n = k} {m = 2 ^ b} (omega arith)) in rw none (leb-zero (bit b m)) in
    let low : (b : ℕ) → b < 4 → leb (bit b k) (bit b m) ≡ leb (bit i (plane b)) (bit b m) = λ b l. rw (label_bit 4 plane i b l) in
    same_tests (each 8 (λ b. leb (bit b k) (bit b m))) (each 4 (λ b. leb (bit i (plane b)) (bit b m)))
    (λ e. each_intro 4 (λ b. leb (bit i (plane b)) (bit b m)) (λ b l. sym (low b l) ∙ each_at 8 (λ b. leb (bit b k) (bit b m)) e b (omega arith)))
    (λ e. each_intro 8 (λ b. leb (bit b k) (bit b m))
    (λ b l. dite (dec_lt b 4) (λ h. low b h ∙ each_at 4 (λ b. leb (bit i (plane b)) (bit b m)) e b h) (λ h. high b (pow_mono {i = 4} {j = b} (omega arith)))))

-- four bits written out
pub label_four : (plane : ℕ → ℕ) (i : ℕ) → label_from 4 plane i ≡ bit i (plane 0) + 2 * (bit i (plane 1) + 2 * (bit i (plane 2) + 2 * bit i (plane 3)))
unfolding label_from
label_four plane i = let none : bit i (plane 3) + 2 * 0 ≡ bit i (plane 3) = omega arith in rw none
