-- The subset test on masks: k & m is k exactly when each bit of k is also in m.
use Prim.Native.Nat.{ℕ, ◌^◌, ◌<◌}
use mathlib.Core.Path.{◌≡◌, ap, ◌∙◌}
use mathlib.Core.Bool.{true, false}
use native.Mathlib.Nat.{lt_of_le_of_lt}
use native.Mathlib.Omega.{arith}
use borrow.Author.Tests.{eq-eqb, ne_eqb, le-leb, leb-true}
use lib.Dec.{leb, eqb}
use lib.Bits.{bit_and, and_le_l}
use Rattle.wire.specs.Lists.{each}
use Rattle.wire.proofs.Lists.{split, each_intro, each_at}
use Rattle.label.specs.Label.{bit, is_subset}
use Rattle.label.proofs.Bits.{bit_and_lem, bits_ext}

module _ (n k m : ℕ) (fits : k < 2 ^ n) where
  mask_subset : eqb (bit_and k m) k ≡ each n (λ o. leb (bit o k) (bit o m))
  mask_subset = split (each n (λ o. leb (bit o k) (bit o m))) (λ e. rw e (whole e)) (λ e. rw e (part e))
    where
      whole : each n (λ o. leb (bit o k) (bit o m)) ≡ true → eqb (bit_and k m) k ≡ true
      whole e =
          eq-eqb (bit_and k m) k
          (bits_ext n (bit_and k m) k (lt_of_le_of_lt (and_le_l k m) fits) fits
          (λ o l. let q = leb-true (bit o k) (bit o m) (each_at n (λ o. leb (bit o k) (bit o m)) e o l) in bit_and_lem o k m ∙ omega arith))

      part : each n (λ o. leb (bit o k) (bit o m)) ≡ false → eqb (bit_and k m) k ≡ false
      part e =
          ne_eqb (bit_and k m) k
          (λ q. let f = each_intro n (λ o. leb (bit o k) (bit o m)) (λ o l. le-leb (bit o k) (bit o m) (omega (arith, bit_and_lem o k m, ap (bit o) q))) in
          let z : ◌≡◌ {A = ℕ} 0 1 = cc in omega arith)

pub mask_test : (k m : ℕ) → k < 256 → eqb (bit_and k m) k ≡ is_subset k m
unfolding is_subset
mask_test k m h = mask_subset 8 k m h
