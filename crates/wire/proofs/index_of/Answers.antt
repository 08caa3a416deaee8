-- `wire::index_of` meets its contract: the first index that the library finds is the one of the definition.
use Prim.Native.Nat.{ℕ, ◌+◌}
use mathlib.Core.Logic.{◌≢◌}
use mathlib.Core.Path.{◌≡◌, refl, sym, ◌∙◌}
use mathlib.Core.List.{List, ◌∷◌}
use native.Mathlib.Omega.{arith}
use borrow.Author.Tests.{tests, eq-eqb, ne_eqb}
use Rattle.std.proofs.Common.{rules}
use Rattle.std.proofs.lemmas.Iterator.{YieldsList-from_slice, IsFirst-from_position, index_from_first}
use lib.Dec.{eqb}
use Rattle.wire.specs.Lists.{first_index}
use Rattle.wire.proofs.index_of.Goals as goal

module _ (x : ℕ) where
  at_x : (y : ℕ) (ys : List ℕ) → y ≡ x → first_index (λ y. eqb y x) (y ∷ ys) ≡ 0
  at_x y ys e = rw (eq-eqb y x e)

  past_x : (y : ℕ) (ys : List ℕ) → y ≢ x → first_index (λ y. eqb y x) (y ∷ ys) ≡ first_index (λ y. eqb y x) ys + 1
  past_x y ys n = rw (ne_eqb y x n) (omega arith)

pub returns : goal.returns
returns c =
    let a = c.args in
    let found = IsFirst-from_position _ _ _ (λ y. y ≡ a.x) (λ y. y ≢ a.x) c.position.ensures.ran (YieldsList-from_slice a.s.now cc)
    (λ y q k. search (rules, tests)) (λ y q k. search (rules, tests)) in
    c.unwrap_or.ensures ∙ sym (index_from_first (first_index (λ y. eqb y a.x)) (λ y. y ≡ a.x) (λ y. y ≢ a.x) refl (at_x a.x) (past_x a.x) a.s.now _ found)
