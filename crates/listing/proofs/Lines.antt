-- Laws of a line: it is found where one stands, and what is found stands there.
use Prim.Native.Nat.{ℕ, suc, ◌+◌, ◌<◌, ◌≤◌}
use mathlib.Core.Path.{◌≡◌, refl, sym, ap, ◌∙◌}
use mathlib.Core.Bool.{true, false}
use mathlib.Core.List.{List, [], ◌∷◌, ◌++◌, append-nil, append_assoc}
use Rattle.std.specs.Prelude.{Some, None}
use native.Mathlib.Nat.{not-suc-le-zero}
use native.Mathlib.Numerals.{add-one}
use native.Mathlib.Omega.{arith}
use borrow.Author.Tests.{lt-ltb, ltb-true}
use lib.Dec.{ltb}
use lib.ListN.{length, drop, length-append, length-drop}
use lib.Seq.{drop-append_seam, drop-append-add}
use Rattle.wire.specs.Lists.{tabulate}
use Rattle.wire.specs.Items.{encode_items}
use Rattle.wire.proofs.Lists.{split, and_both}
use Rattle.text.specs.Text.{ascii, decimal, spaced, line_rest}
use Rattle.text.specs.Inner.{ahead, number_length, number_value}
use Rattle.text.proofs.Reading.{ahead_splits, ahead_of, number_value_lem, number_length_lem, found_number, found_inside}
use Rattle.instruction.specs.Table.{table}
use Rattle.word.specs.Word.{word_of}
use Rattle.word.specs.Inner.{code_of}
use Rattle.word.proofs.Words.{word_code, word_no_space, code_word}
use Rattle.listing.specs.Listing.{Line, line_text}
use Rattle.listing.specs.declared.ReadLine.{ReadLine}
use Rattle.listing.specs.Inner.{behind_word, behind_number, line_at, has_line, line_length, told_line, read_line}

-- with s between the parts and e at the end
joined : (w s p q r e rest : List ℕ)
    → (w ++ (((s ++ p) ++ ((s ++ q) ++ ((s ++ r) ++ []))) ++ e)) ++ rest ≡ w ++ (s ++ (p ++ (s ++ (q ++ (s ++ (r ++ (e ++ rest)))))))
joined w s p q r e rest = simp (append_assoc, append-nil) refl

-- the bytes of a line, and what stands behind them
line_spelled : (l : Line) (rest : List ℕ)
    → line_text l ++ rest ≡ word_of l.code ++ 32 ∷ (decimal l.a ++ 32 ∷ (decimal l.b ++ 32 ∷ (decimal l.c ++ 10 ∷ rest)))
unfolding line_text line_rest encode_items spaced ascii tabulate
line_spelled l rest = joined (word_of l.code) (32 ∷ []) (decimal l.a) (decimal l.b) (decimal l.c) (10 ∷ []) rest

-- ---- a line that stands there is found

-- what is behind the byte that ends w
behind_end : (w : List ℕ) (end : ℕ) (rest : List ℕ) → drop (length w + 1) (w ++ end ∷ rest) ≡ rest
behind_end w end rest = drop-append-add w (end ∷ rest) 1

behind_number_lem : (end x : ℕ) (rest : List ℕ) → end < 48 → drop (number_length end (decimal x ++ end ∷ rest)) (decimal x ++ end ∷ rest) ≡ rest
behind_number_lem end x rest h = rw (number_length_lem end x rest h, ← add-one (length (decimal x))) (behind_end (decimal x) end rest)

-- the parts of a line one behind the other
module _ (l : Line) (rest : List ℕ) (known : l.code < length table) where
  abbrev c_on : List ℕ
  c_on = decimal l.c ++ 10 ∷ rest

  abbrev b_on : List ℕ
  b_on = decimal l.b ++ 32 ∷ c_on

  abbrev a_on : List ℕ
  a_on = decimal l.a ++ 32 ∷ b_on

  abbrev whole : List ℕ
  whole = word_of l.code ++ 32 ∷ a_on

  word_ahead : ahead 32 whole ≡ word_of l.code
  word_ahead = ahead_of 32 (word_of l.code) a_on (word_no_space l.code known)

  word_behind : behind_word whole ≡ a_on
  word_behind = rw word_ahead (behind_end (word_of l.code) 32 a_on)

  a_behind : behind_number (behind_word whole) ≡ b_on
  a_behind = rw word_behind (behind_number_lem 32 l.a b_on (omega arith))

  b_behind : behind_number (behind_number (behind_word whole)) ≡ c_on
  b_behind = rw a_behind (behind_number_lem 32 l.b c_on (omega arith))

  whole_line : line_at whole ≡ l
  unfolding line_at
  whole_line =
      rw (
        b_behind,
        a_behind,
        word_behind,
        word_ahead,
        word_code l.code known,
        number_value_lem 32 l.a b_on (omega arith),
        number_value_lem 32 l.b c_on (omega arith),
        number_value_lem 10 l.c rest (omega arith),
      )
      refl

  whole_length : line_length whole ≡ length (word_of l.code) + 1 + suc (length (decimal l.a)) + suc (length (decimal l.b)) + suc (length (decimal l.c))
  unfolding line_length has_line
  whole_length =
      rw (
        b_behind,
        a_behind,
        word_behind,
        word_ahead,
        word_code l.code known,
        number_length_lem 32 l.a b_on (omega arith),
        number_length_lem 32 l.b c_on (omega arith),
        number_length_lem 10 l.c rest (omega arith),
        lt-ltb l.code (length table) known,
        lt-ltb 0 (suc (length (decimal l.a))) (omega arith),
        lt-ltb 0 (suc (length (decimal l.b))) (omega arith),
        lt-ltb 0 (suc (length (decimal l.c))) (omega arith),
      )
      refl

pub text_length : (l : Line) → length (line_text l) ≡ length (word_of l.code) + 1 + suc (length (decimal l.a)) + suc (length (decimal l.b)) + suc (length (decimal l.c))
text_length l =
    ap length (sym (append-nil (line_text l)) ∙ line_spelled l [])
    ∙ simp length-append (omega arith)

module _ (l : Line) (rest : List ℕ) (known : l.code < length table) where
  pub line_found : line_at (line_text l ++ rest) ≡ l
  line_found = rw (line_spelled l rest) (whole_line l rest known)

  pub line_length_lem : line_length (line_text l ++ rest) ≡ length (line_text l)
  line_length_lem = rw (line_spelled l rest) (whole_length l rest known ∙ sym (text_length l))

pub line_some : (l : Line) → 0 < length (line_text l)
line_some l = omega (arith, text_length l)

-- ---- a line that is found stands there

pub record Found (b : List ℕ) : Type 0 where
  pub known : (line_at b).code < length table
  pub stands : b ≡ line_text (line_at b) ++ drop (line_length b) b
  pub size : line_length b ≡ length (line_text (line_at b))

-- a code of the table and three numbers
pub line_parts : (b : List ℕ) → has_line b ≡ true
    → (code_of (ahead 32 b) < length table)
    × (0 < number_length 32 (behind_word b))
    × (0 < number_length 32 (behind_number (behind_word b)))
    × (0 < number_length 10 (behind_number (behind_number (behind_word b))))
unfolding has_line
line_parts b e =
    let abc = and_both _ (ltb 0 (number_length 10 (behind_number (behind_number (behind_word b))))) e in
    let ab = and_both _ (ltb 0 (number_length 32 (behind_number (behind_word b)))) abc.0 in
    let a = and_both _ (ltb 0 (number_length 32 (behind_word b))) ab.0 in
    (ltb-true _ _ a.0, ltb-true _ _ a.1, ltb-true _ _ ab.1, ltb-true _ _ abc.1)

line_there : (b : List ℕ) → 0 < line_length b → has_line b ≡ true
unfolding line_length
line_there b found = split (has_line b) (λ e. e) (λ e. absurd (not-suc-le-zero (rw e at found)))

module _ (b : List ℕ) (found : 0 < line_length b) where
  abbrev tests : (code_of (ahead 32 b) < length table)
      × (0 < number_length 32 (behind_word b))
      × (0 < number_length 32 (behind_number (behind_word b)))
      × (0 < number_length 10 (behind_number (behind_number (behind_word b))))
  tests = line_parts b (line_there b found)

  -- a byte ends the word, since a number stands behind it
  word_ends : length (ahead 32 b) < length b
  word_ends = omega (arith, found_inside 32 (behind_word b) tests.1, length-drop (length (ahead 32 b) + 1) b, tests.1)

  abbrev c_behind : List ℕ
  c_behind = let on = behind_number (behind_number (behind_word b)) in drop (number_length 10 on) on

  parts : b ≡ line_text (line_at b) ++ c_behind
  unfolding line_at
  parts =
      let word : b ≡ ahead 32 b ++ 32 ∷ behind_word b = ahead_splits 32 b word_ends ∙ rw (add-one (length (ahead 32 b))) refl in
      let a = found_number 32 (behind_word b) tests.1 in
      let b' = found_number 32 (behind_number (behind_word b)) tests.2 in
      let c = found_number 10 (behind_number (behind_number (behind_word b))) tests.3 in
      word
      ∙ ap (λ (r : List ℕ). ahead 32 b ++ 32 ∷ r) (a ∙ ap (λ (r : List ℕ). decimal (number_value 32 (behind_word b)) ++ 32 ∷ r) (b' ∙ ap (λ (r : List ℕ). decimal (number_value 32 (behind_number (behind_word b))) ++ 32 ∷ r) c))
      ∙ rw (line_spelled (line_at b) c_behind, code_word (ahead 32 b) tests.0) refl

  known : (line_at b).code < length table
  unfolding line_at
  known = tests.0

  pub line_stands : Found b
  line_stands =
      let l = line_at b in
      let size : line_length b ≡ length (line_text l) = ap line_length parts ∙ line_length_lem l c_behind known in
      record { known = known; stands = parts ∙ ap (λ (r : List ℕ). line_text l ++ r) (sym (rw size (ap (drop (length (line_text l))) parts ∙ drop-append_seam (line_text l) c_behind))); size = size }

-- what the tests of the code tell: a line is there, and its bytes are within b
module _ (b : List ℕ) (e : has_line b ≡ true) where
  abbrev sum : ℕ
  sum =
      length (ahead 32 b)
      + 1
      + number_length 32 (behind_word b)
      + number_length 32 (behind_number (behind_word b))
      + number_length 10 (behind_number (behind_number (behind_word b)))

  pub has_length : line_length b ≡ sum
  unfolding line_length
  has_length = rw e

  pub has_some : 0 < line_length b
  has_some = omega (arith, has_length)

  pub has_inside : sum ≤ length b
  has_inside =
      let f = line_stands b has_some in
      omega (arith, has_length, f.size, ap length f.stands, length-append (line_text (line_at b)) (drop (line_length b) b))

pub has_none : (b : List ℕ) → has_line b ≡ false → line_length b ≡ 0
unfolding line_length
has_none b e = rw e

-- ---- what is told of the line at the front of b

module _ (b : List ℕ) where
  pub line_told : {r : ReadLine} → read_line b ≡ Some r → (has_line b ≡ true) × (r ≡ told_line b)
  unfolding read_line
  line_told {r} e =
      split (has_line b)
      (λ t. let found : Some (told_line b) ≡ Some r = rw t at e in (t, cc))
      (λ t. let found : None ≡ Some r = rw t at e in cc)

  pub none_told : read_line b ≡ None → line_length b ≡ 0
  unfolding read_line
  none_told e =
      split (has_line b)
      (λ t. let found : Some (told_line b) ≡ None = rw t at e in cc)
      (λ t. has_none b t)
