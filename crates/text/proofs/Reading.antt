-- Laws of reading a number: the digits that are read are those that are written, and no others.
use Prim.Native.Nat.{ℕ, zero, suc, ◌+◌, ◌*◌, ◌/◌, ◌%◌, ◌-◌, ◌<◌, ◌≤◌}
use mathlib.Core.Logic.{dite}
use mathlib.Core.Path.{◌≡◌, refl, sym, ap, ◌∙◌}
use mathlib.Core.Bool.{Bool, true, false, ◌&&◌, ◌||◌}
use mathlib.Core.List.{List, [], ◌∷◌, ◌++◌, append-nil, append_assoc}
use native.Mathlib.Decide.{dec_lt}
use native.Mathlib.Nat.{not-suc-le-zero}
use native.Mathlib.Numerals.{add-one}
use native.Mathlib.Omega.{arith}
use borrow.Author.Tests.{lt-ltb, ltb-true, ltb-false, leb-true, le-leb, lt-leb, eqb-true, eq-eqb, ne_eqb}
use lib.Dec.{leb, ltb, eqb}
use lib.ListN.{length, get_or, drop, length-append, get_or-append, drop_of_length-le}
use lib.Seq.{length-take-le, split_at, take-append_seam, drop-cons}
use Rattle.wire.specs.Lists.{Every, all, first_index}
use Rattle.wire.proofs.Lists.{length_nil, split, and_both, all_append, first_le, first_passes, first_behind}
use Rattle.text.specs.Text.{decimal}
use Rattle.text.specs.Inner.{is_digit, is_decimal, value_from, byte_value, ahead, number_length, number_value, number_read}
use Rattle.std.specs.Bool.{then_some}
use Rattle.std.proofs.Common.{Option, Some, None}
use Rattle.text.proofs.Text.{decimal_digit, decimal_more, length_digit, length_more}

-- ---- digits and their number

pub value_least : (x : ℕ) (w : List ℕ) → x ≤ value_from x w
value_least x [] = omega arith
value_least x (d ∷ w) = omega (arith, value_least (x * 10 + d % 16) w)

value_append : (x : ℕ) (v w : List ℕ) → value_from x (v ++ w) ≡ value_from (value_from x v) w
value_append x [] w = refl
value_append x (d ∷ v) w = value_append (x * 10 + d % 16) v w

digit_range : (d : ℕ) → is_digit d ≡ true → (48 ≤ d) × (d ≤ 57)
digit_range d e = let b = and_both (leb 48 d) (leb d 57) e in (leb-true 48 d b.0, leb-true d 57 b.1)

-- a digit behind a number that is not 0 is the last of another
digit_behind : (x d : ℕ) → 1 ≤ x → 48 ≤ d → d ≤ 57 → decimal (x * 10 + d % 16) ≡ decimal x ++ (d ∷ [])
digit_behind x d h low high =
    let y = x * 10 + d % 16 in
    let r : d % 16 ≡ d - 48 = omega arith in
    let front : y / 10 ≡ x = omega arith in
    let last : 48 + y % 10 ≡ d = omega arith in
    decimal_more y (omega arith) ∙ rw (front, last)

digits_behind : (x : ℕ) (w : List ℕ) → 1 ≤ x → all is_digit w ≡ true → decimal (value_from x w) ≡ decimal x ++ w
unfolding all
digits_behind x [] h e = sym (append-nil (decimal x))
digits_behind x (d ∷ w) h e =
    let b = and_both (is_digit d) (all is_digit w) e in
    let r = digit_range d b.0 in
    digits_behind (x * 10 + d % 16) w (omega (arith, r)) b.1 ∙ ap (λ (v : List ℕ). v ++ w) (digit_behind x d h r.0 r.1)
    ∙ append_assoc (decimal x) (d ∷ []) w

-- ---- a number in decimal is read as itself

-- at least one digit, all are digits, and the first is 0 only of 0
pub record IsNumber (x : ℕ) (w : List ℕ) : Type 0 where
  pub some : 1 ≤ length w
  pub digits : all is_digit w ≡ true
  pub first : 1 ≤ x → 48 < get_or w 0 0
  pub value : value_from 0 w ≡ x

one_digit : (x : ℕ) → x < 10 → IsNumber x (decimal x)
unfolding all
one_digit x h =
    let same : x % 10 ≡ x = omega arith in
    let low : leb 48 (48 + x) ≡ true = le-leb 48 (48 + x) (omega arith) in
    let high : leb (48 + x) 57 ≡ true = le-leb (48 + x) 57 (omega arith) in
    let value : 0 * 10 + (48 + x) % 16 ≡ x = omega arith in
    rw (decimal_digit x h, same)
    record { some = omega arith; digits = rw (low, high); first = λ l. omega arith; value = value }

more_digits : (x : ℕ) → 10 ≤ x → IsNumber (x / 10) (decimal (x / 10)) → IsNumber x (decimal x)
unfolding all
more_digits x h w =
    let d = 48 + x % 10 in
    let low : leb 48 d ≡ true = le-leb 48 d (omega arith) in
    let high : leb d 57 ≡ true = le-leb d 57 (omega arith) in
    let last : d % 16 ≡ x % 10 = omega arith in
    let value : x / 10 * 10 + x % 10 ≡ x = omega arith in
    rw (decimal_more x h)
    record {
      some = simp length-append (omega arith);
      digits = rw (all_append, w.digits, low, high);
      first = λ l. rw (get_or-append (decimal (x / 10)) (d ∷ []) 0 0 (omega (arith, w.some))) (w.first (omega arith));
      value = value_append 0 (decimal (x / 10)) (d ∷ []) ∙ rw (w.value, last) value;
    }

written_below : (k x : ℕ) → x < k → IsNumber x (decimal x)
written_below zero x h = absurd (not-suc-le-zero h)
written_below (suc k) x h =
    dite (dec_lt x 10) (one_digit x)
    (λ l. let big : 10 ≤ x = omega arith in more_digits x big (written_below k (x / 10) (omega arith)))

pub written : (x : ℕ) → IsNumber x (decimal x)
written x = written_below (suc x) x (omega arith)

is_decimal_lem : (x : ℕ) → is_decimal (decimal x) ≡ true
unfolding is_decimal
is_decimal_lem x =
    let w = written x in
    dite (dec_lt x 10)
    (λ l. rw (w.digits, eq-eqb (length (decimal x)) 1 (length_digit x l)))
    (λ l.
    let big : 10 ≤ x = omega arith in
    let two : 1 < length (decimal x) = omega (arith, length_more x big, (written (x / 10)).some) in
    rw (w.digits, ne_eqb (length (decimal x)) 1 (λ z. omega arith), lt-ltb 1 (length (decimal x)) two, lt-ltb 48 (get_or (decimal x) 0 0) (w.first (omega arith))))

-- ---- and what is read as a number is that number in decimal

decimal_of : (w : List ℕ) → is_decimal w ≡ true → decimal (value_from 0 w) ≡ w
unfolding is_decimal all
decimal_of [] e = cc
decimal_of (d ∷ w) e =
    let b = and_both (all is_digit (d ∷ w)) (eqb (length (d ∷ w)) 1 || (ltb 1 (length (d ∷ w)) && ltb 48 d)) e in
    let ds = and_both (is_digit d) (all is_digit w) b.0 in
    let r = digit_range d ds.0 in
    let low : 0 * 10 + d % 16 ≡ d - 48 = omega (arith, r) in
    let same : 48 + (d - 48) % 10 ≡ d = omega (arith, r) in
    let only : decimal (0 * 10 + d % 16) ≡ d ∷ [] = rw low (decimal_digit (d - 48) (omega (arith, r)) ∙ ap (λ (x : ℕ). x ∷ []) same) in
    split (eqb (length (d ∷ w)) 1)
    (λ t. let none = length_nil w (omega (arith, eqb-true (length (d ∷ w)) 1 t)) in rw none only)
    (λ t.
    let first = and_both (ltb 1 (length (d ∷ w))) (ltb 48 d) (rw t at b.1) in
    digits_behind (0 * 10 + d % 16) w (omega (arith, r, ltb-true 48 d first.1)) ds.1 ∙ ap (λ (v : List ℕ). v ++ w) only)

-- ---- a number that a byte ends

-- what stands ahead of the byte, where it is met, the byte, and what stands behind it
pub ahead_splits : (end : ℕ) (b : List ℕ) → length (ahead end b) < length b → b ≡ ahead end b ++ end ∷ drop (suc (length (ahead end b))) b
ahead_splits end b h =
    let k = first_index (λ y. eqb y end) b in
    let long : length (ahead end b) ≡ k = length-take-le k b (first_le (λ y. eqb y end) b) in
    let met : get_or b k 0 ≡ end = eqb-true (get_or b k 0) end (first_passes (λ y. eqb y end) b 0 (omega (arith, long))) in
    split_at b k 0 (omega (arith, long)) ∙ rw (met, long)

-- of bytes none of which is the one that ends them
pub ahead_of : (end : ℕ) (w rest : List ℕ) → Every (λ y. eqb y end ≡ false) w → ahead end (w ++ end ∷ rest) ≡ w
ahead_of end w rest h = rw (first_behind (λ y. eqb y end) w end rest h (eq-eqb end end refl)) (take-append_seam w (end ∷ rest))

digits_end : (end : ℕ) (w : List ℕ) → end < 48 → all is_digit w ≡ true → Every (λ y. eqb y end ≡ false) w
unfolding all
digits_end end [] h e = tt
digits_end end (d ∷ w) h e =
    let b = and_both (is_digit d) (all is_digit w) e in
    (ne_eqb d end (λ z. omega (arith, digit_range d b.0)), digits_end end w h b.1)

-- a number is found where one stands
module _ (end x : ℕ) (rest : List ℕ) (h : end < 48) where
  number_ahead : ahead end (decimal x ++ end ∷ rest) ≡ decimal x
  number_ahead = ahead_of end (decimal x) rest (digits_end end (decimal x) h (written x).digits)

  pub number_value_lem : number_value end (decimal x ++ end ∷ rest) ≡ x
  unfolding number_value
  number_value_lem = rw number_ahead (written x).value

  pub number_length_lem : number_length end (decimal x ++ end ∷ rest) ≡ suc (length (decimal x))
  unfolding number_length
  number_length_lem =
      let more : length (decimal x) < length (decimal x ++ end ∷ rest) = simp length-append (omega arith) in
      rw (number_ahead, lt-ltb _ _ more, is_decimal_lem x)

-- and one that is found stands there
module _ (end : ℕ) (b : List ℕ) (found : 0 < number_length end b) where
  tests : (length (ahead end b) < length b) × (is_decimal (ahead end b) ≡ true)
  unfolding number_length
  tests =
      split (ltb (length (ahead end b)) (length b) && is_decimal (ahead end b))
      (λ e. let t = and_both (ltb (length (ahead end b)) (length b)) (is_decimal (ahead end b)) e in (ltb-true _ _ t.0, t.1))
      (λ e. absurd (not-suc-le-zero (rw e at found)))

  found_length : number_length end b ≡ suc (length (ahead end b))
  unfolding number_length
  found_length = rw (lt-ltb _ _ tests.0, tests.1)

  found_decimal : decimal (number_value end b) ≡ ahead end b
  unfolding number_value
  found_decimal = decimal_of (ahead end b) tests.1

  pub found_number : b ≡ decimal (number_value end b) ++ end ∷ drop (number_length end b) b
  found_number = rw (found_decimal, found_length) (ahead_splits end b tests.0)

  pub found_inside : number_length end b ≤ length b
  found_inside = omega (arith, found_length, tests.0)

-- ---- a loop over the digits: the one at index i, and a number above 255, which the others only make larger

pub value_more : (x : ℕ) (s : List ℕ) (i y : ℕ) → i < length s → y ≡ x * 10 + get_or s i 0 % 16 → value_from x (drop i s) ≡ value_from y (drop (i + 1) s)
value_more x s i y h e = rw (drop-cons s i 0 h, add-one i, e) refl

pub value_above : (x : ℕ) (s : List ℕ) (i : ℕ) → i < length s → 255 < x * 10 + get_or s i 0 % 16 → None ≡ byte_value (value_from x (drop i s))
value_above x s i h above =
    let y = x * 10 + get_or s i 0 % 16 in
    let least = value_least y (drop (i + 1) s) in
    rw (value_more x s i y h refl, lt-leb (value_from y (drop (i + 1) s)) 255 (omega arith)) refl

pub value_whole : (x : ℕ) (s : List ℕ) (i : ℕ) → length s ≤ i → x ≤ 255 → Some x ≡ byte_value (value_from x (drop i s))
value_whole x s i end h = rw (drop_of_length-le s end, le-leb x 255 h) refl

-- ---- a number as it is read

module _ (end : ℕ) (b : List ℕ) where
  -- its value is told in any case
  pub number_told : (number_read end b).value ≡ byte_value (number_value end b)
  unfolding number_read
  number_told = refl

  -- its bytes are told exactly where it stands
  pub number_some : (n : ℕ) → (number_read end b).length ≡ Some n → (0 < number_length end b) × (n ≡ number_length end b)
  unfolding number_read
  number_some n =
      split (ltb 0 (number_length end b))
      (λ t. rw t (λ e. let same : number_length end b ≡ n = cc in (ltb-true 0 (number_length end b) t, sym same)))
      (λ t. rw t (λ e. cc))

  pub number_none : (number_read end b).length ≡ None → number_length end b ≡ 0
  unfolding number_read
  number_none =
      split (ltb 0 (number_length end b))
      (λ t. rw t (λ e. cc))
      (λ t. let none = ltb-false 0 (number_length end b) t in λ e. omega arith)

  -- by the tests that find it
  pub number_found : {n : ℕ} {v l : Option ℕ} {stands : Bool}
      → stands ≡ ltb (length (ahead end b)) (length b) && is_decimal (ahead end b)
      → v ≡ byte_value (number_value end b) → n ≡ length (ahead end b) → l ≡ then_some stands (n + 1)
      → record { value = v; length = l } ≡ number_read end b
  unfolding number_read number_length
  number_found {stands = true} t e k m = rw (e, m, k, ← t, lt-ltb 0 (suc (length (ahead end b))) (omega arith), add-one (length (ahead end b)))
  number_found {stands = false} t e k m = rw (e, m, ← t)
