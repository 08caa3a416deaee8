-- `word::code_of` meets its contract: the first code that has the word, or none of the table's has it.
use Prim.Native.Nat.{ℕ, ◌<◌, ◌≤◌}
use mathlib.Core.Path.{◌≡◌}
use mathlib.Core.Bool.{Bool, true, false}
use mathlib.Core.List.{List}
use native.Mathlib.Omega.{arith}
use borrow.Author.Tests.{tests, lt-ltb, le-ltb}
use lib.ListN.{length, get_or}
use Rattle.std.proofs.Common.{rules, Option, Some, None, MatchOption}
use Rattle.std.proofs.lemmas.Iterator.{first_from_Range}
use Rattle.wire.specs.Lists.{tabulate}
use Rattle.wire.specs.Inner.{same}
use Rattle.wire.proofs.Lists.{first_above, first_here}
use Rattle.wire.proofs.Tabulate.{get_d_tabulate, length_tabulate}
use Rattle.instruction.specs.Table.{table}
use Rattle.word.specs.Word.{word_of}
use Rattle.word.specs.Inner.{code_of, code_found}
use Rattle.word.proofs.code_of.Goals as goal

module _ (w : List ℕ) where
  abbrev codes : List ℕ
  codes = tabulate (length table) (λ k. k)

  abbrev has : ℕ → Bool
  has k = same w (word_of k)

  -- what is told of a code is told of the one at its index
  at : (k : ℕ) (t : Bool) → k < length table → has k ≡ t → has (get_or codes k 0) ≡ t
  at k t h e = rw (get_d_tabulate (length table) (λ k. k) k 0 h) e

  above : (n : ℕ) → n ≤ length table → ((k : ℕ) → 0 ≤ k → k < n → has k ≡ false) → n ≤ code_of w
  unfolding code_of
  above n h f =
      first_above has codes n 0 (rw (length_tabulate (length table) (λ k. k)) h) (λ k l. at k false (omega arith) (f k (omega arith) l))

  found : (r : Option ℕ)
      → MatchOption r ((k : ℕ) → 0 ≤ k → k < length table → has k ≡ false)
      (λ i. (0 ≤ i) × (i < length table) × (has i ≡ true) × ((k : ℕ) → 0 ≤ k → k < i → has k ≡ false))
      → r ≡ code_found w
  unfolding code_found code_of
  found None h = rw (le-ltb (code_of w) (length table) (above (length table) (omega arith) h))
  found (Some i) h =
      let low : i ≤ code_of w = above i (omega arith) h.3 in
      let here : i ≡ code_of w =
      first_here has codes i 0 (rw (length_tabulate (length table) (λ k. k)) h.1) (at i true h.1 h.2) low in
      rw (← here, lt-ltb i (length table) h.1)

pub returns : goal.returns
returns c =
    let s = c.args.s.now in
    found s c.find.result
    (first_from_Range _ _ _ _ (λ k. same s (word_of k) ≡ true) (λ k. same s (word_of k) ≡ false) c.find.ensures.ran
    (λ x q k. search (rules, tests)) (λ x q k. search (rules, tests)))
