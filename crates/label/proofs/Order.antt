-- The order laws: labels under `flows` and `join`.
use Prim.Native.Nat.{ℕ, ◌<◌, ◌≤◌}
use mathlib.Core.Path.{◌≡◌, refl}
use mathlib.Core.Bool.{Bool, true, ◌&&◌}
use native.Mathlib.Omega.{arith}
use borrow.Author.Tests.{le-leb, leb-true}
use lib.Dec.{leb}
use lib.Bits.{bit_and, or_lt}
use Rattle.wire.specs.Lists.{each}
use Rattle.wire.proofs.Lists.{split, each_intro, each_at}
use Rattle.label.specs.Label.{bit, is_subset, flows, join}
use Rattle.label.proofs.Bits.{bit_and_lem, bit_or_lem}

-- what the machine's laws ask of an order on labels: a preorder, with a join above its first argument and within the labels
pub record Order (may_flow : ℕ → ℕ → Bool) (joined : ℕ → ℕ → ℕ) : Type 0 where
  pub reflexive : (k : ℕ) → may_flow k k ≡ true
  pub transitive : (k l m : ℕ) → may_flow k l ≡ true → may_flow l m ≡ true → may_flow k m ≡ true
  pub join_above : (k m : ℕ) → may_flow k (joined k m) ≡ true
  pub join_label : (k m : ℕ) → k ≤ 15 → m ≤ 15 → joined k m ≤ 15

-- an observer that sees a label sees every label that flows to it
abbrev pub DownClosed : (ℕ → ℕ → Bool) → (ℕ → Bool) → Type 0
DownClosed may_flow sees = (k l : ℕ) → may_flow k l ≡ true → sees l ≡ true → sees k ≡ true

module _ (k m : ℕ) where
  subset_intro : ((o : ℕ) → o < 8 → bit o k ≤ bit o m) → is_subset k m ≡ true
  unfolding is_subset
  subset_intro h = each_intro 8 (λ o. leb (bit o k) (bit o m)) (λ o l. le-leb (bit o k) (bit o m) (h o l))

  subset_at : is_subset k m ≡ true → (o : ℕ) → o < 8 → bit o k ≤ bit o m
  unfolding is_subset
  subset_at e o l = leb-true (bit o k) (bit o m) (each_at 8 (λ o. leb (bit o k) (bit o m)) e o l)

pub label_order : Order flows join
label_order = record {
  reflexive = λ k. subset_intro k k (λ o l. omega arith);
  transitive = λ k l m p q. subset_intro k m (λ o h. omega (arith, subset_at k l p o h, subset_at l m q o h));
  join_above = λ k m. subset_intro k (join k m) (λ o l. omega (arith, bit_or_lem o k m));
  join_label = λ k m p q. omega (arith, or_lt 4 k m (omega arith) (omega arith));
}

-- every label is within 15, and so flows to it: computed for the sixteen labels
pub subset_15 : (k : ℕ) → k ≤ 15 → is_subset k 15 ≡ true
unfolding is_subset each
subset_15 k h = each_at 16 (λ k. is_subset k 15) refl k (omega arith)

-- ---- what is within two labels is what is within their common bits

module _ (k v w : ℕ) where
  common_within : is_subset k v ≡ true → is_subset k w ≡ true → is_subset k (bit_and v w) ≡ true
  common_within p q = subset_intro k (bit_and v w) (λ o l. omega (arith, bit_and_lem o v w, subset_at k v p o l, subset_at k w q o l))

  within_left : is_subset k (bit_and v w) ≡ true → is_subset k v ≡ true
  within_left p = subset_intro k v (λ o l. omega (arith, bit_and_lem o v w, subset_at k (bit_and v w) p o l))

  within_right : is_subset k (bit_and v w) ≡ true → is_subset k w ≡ true
  within_right p = subset_intro k w (λ o l. omega (arith, bit_and_lem o v w, subset_at k (bit_and v w) p o l))

  pub subset_common : (is_subset k v && is_subset k w) ≡ is_subset k (bit_and v w)
  subset_common =
      split (is_subset k (bit_and v w))
      (λ e. rw (e, within_left e, within_right e))
      (λ e. split (is_subset k v)
      (λ p. split (is_subset k w) (λ q. cc (common_within p q)) (λ q. rw (e, p, q)))
      (λ p. rw (e, p)))
