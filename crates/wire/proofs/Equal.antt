-- Laws of the test whether two lists of bytes are the same: it is the library's.
use Prim.Native.Nat.{ℕ}
use mathlib.Core.Path.{◌≡◌, refl}
use mathlib.Core.Bool.{Bool, true}
use mathlib.Core.List.{List}
use borrow.Author.Tests.{eqb-true, eq-eqb}
use Rattle.std.specs.Bool.{Decides}
use lib.Dec.{eqb}
use lib.ListN.{length, get_or}
use lib.Seq.{ext_get_or}
use Rattle.wire.specs.Lists.{each}
use Rattle.wire.specs.Inner.{same}
use Rattle.wire.proofs.Lists.{and_both, same_tests, each_at, each_intro}

module _ (s t : List ℕ) where
  -- it finds the same bytes
  pub same_equal : same s t ≡ true → s ≡ t
  unfolding same
  same_equal e =
      let b = and_both (eqb (length s) (length t)) (each (length s) (λ i. eqb (get_or s i 0) (get_or t i 0))) e in
      ext_get_or 0 s t (eqb-true _ _ b.0) (λ i h. eqb-true _ _ (each_at (length s) (λ i. eqb (get_or s i 0) (get_or t i 0)) b.1 i h))

  equal_same : s ≡ t → same s t ≡ true
  unfolding same
  equal_same e =
      rw (← e, eq-eqb (length s) (length s) refl)
      (each_intro (length s) (λ i. eqb (get_or s i 0) (get_or s i 0)) (λ i h. eq-eqb (get_or s i 0) (get_or s i 0) refl))

  -- whatever decides whether they are equal tells that
  pub same_decided : (r : Bool) → Decides r (s ≡ t) → r ≡ same s t
  same_decided r d = same_tests r (same s t) (λ e. equal_same (d.0 e)) (λ e. d.1 (same_equal e))
