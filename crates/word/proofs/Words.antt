-- Laws of the words: no word has a space or more than eight letters, each has its own code, and a code that was found has that word.
use Prim.Native.Nat.{ℕ, ◌<◌, ◌≤◌}
use mathlib.Core.Path.{◌≡◌, refl, sym}
use mathlib.Core.Bool.{Bool, true, false, ◌&&◌, not}
use mathlib.Core.List.{List, [], ◌∷◌}
use native.Mathlib.Omega.{arith}
use borrow.Author.Tests.{leb-true, ltb-true, ltb-false, eqb-true, not-true}
use lib.Dec.{leb, ltb, eqb}
use lib.ListN.{length}
use Rattle.wire.specs.Lists.{each, tabulate, Every, all}
use Rattle.wire.specs.Inner.{same}
use Rattle.wire.specs.Output.{overwrite}
use Rattle.wire.proofs.Lists.{split, and_both, each_at, first_passes}
use Rattle.wire.proofs.Tabulate.{length_tabulate, get_d_tabulate}
use Rattle.wire.proofs.Equal.{same_equal}
use Rattle.text.specs.Text.{ascii}
use Rattle.instruction.specs.Table.{Row, table, by_code}
use Rattle.word.specs.Word.{word_of}
use Rattle.word.specs.Inner.{code_of, code_found}
use Rattle.std.proofs.Common.{Some, None}

-- by computation, of every row
known : each (length table) (λ k. eqb (code_of (word_of k)) k && all (λ y. not (eqb y 32)) (word_of k)) ≡ true
unfolding each all code_of word_of same tabulate ascii
known = refl

none_passes : (p : ℕ → Bool) (xs : List ℕ) → all (λ y. not (p y)) xs ≡ true → Every (λ y. p y ≡ false) xs
unfolding all
none_passes p [] e = tt
none_passes p (x ∷ xs) e = let b = and_both (not (p x)) (all (λ y. not (p y)) xs) e in (not-true (p x) b.0, none_passes p xs b.1)

module _ (k : ℕ) (h : k < length table) where
  facts : (eqb (code_of (word_of k)) k ≡ true) × (all (λ y. not (eqb y 32)) (word_of k) ≡ true)
  facts =
      and_both (eqb (code_of (word_of k)) k) (all (λ y. not (eqb y 32)) (word_of k))
      (each_at (length table) (λ k. eqb (code_of (word_of k)) k && all (λ y. not (eqb y 32)) (word_of k)) known k h)

  pub word_code : code_of (word_of k) ≡ k
  word_code = eqb-true _ _ facts.0

  pub word_no_space : Every (λ y. eqb y 32 ≡ false) (word_of k)
  word_no_space = none_passes (λ y. eqb y 32) (word_of k) facts.1

-- where the code is the number k, what was written is its word
pub word_put : (after w out : List ℕ) (code k : ℕ) → code ≡ k → after ≡ overwrite w out → w ≡ word_of k → after ≡ overwrite (word_of code) out
word_put after w out code k e wrote same = rw (e, ← same) wrote

pub code_word : (w : List ℕ) → code_of w < length table → word_of (code_of w) ≡ w
unfolding code_of
code_word w h =
    let codes = tabulate (length table) (λ (k : ℕ). k) in
    let long : length codes ≡ length table = length_tabulate (length table) (λ k. k) in
    let found = first_passes (λ k. same w (word_of k)) codes 0 (rw long h) in
    sym (same_equal w (word_of (code_of w)) (rw (get_d_tabulate (length table) (λ k. k) (code_of w) 0 h) at found))

-- ---- no word has more than eight letters

rows_most : (rs : List Row) (code : ℕ) → all (λ r. leb (length (ascii r.word)) 8) rs ≡ true → length (by_code (λ r. ascii r.word) [] rs code) ≤ 8
unfolding all
rows_most [] code e = omega arith
rows_most (r ∷ rs) code e =
    let b = and_both (leb (length (ascii r.word)) 8) (all (λ r. leb (length (ascii r.word)) 8) rs) e in
    let ih = rows_most rs code b.1 in
    split (eqb code r.code) (λ t. rw t (leb-true _ _ b.0)) (λ t. rw t ih)

pub word_most : (code : ℕ) → length (word_of code) ≤ 8
unfolding word_of all ascii tabulate
word_most code = rows_most table code refl

-- ---- a word whose code is found

module _ (w : List ℕ) where
  -- the code is one of the table's, and a word without one is not in the table
  pub code_some : (k : ℕ) → code_found w ≡ Some k → (k ≡ code_of w) × (k < length table)
  unfolding code_found
  code_some k =
      split (ltb (code_of w) (length table))
      (λ t. rw t (λ e. let same : code_of w ≡ k = cc in (sym same, rw (← same) (ltb-true (code_of w) (length table) t))))
      (λ t. rw t (λ e. cc))

  pub code_none : code_found w ≡ None → length table ≤ code_of w
  unfolding code_found
  code_none =
      split (ltb (code_of w) (length table))
      (λ t. rw t (λ e. cc))
      (λ t e. ltb-false (code_of w) (length table) t)
