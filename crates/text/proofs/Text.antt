-- Laws of text: the digits of a number one by one, how many there are, and the lines made of numbers.
use Prim.Native.Nat.{ℕ, zero, suc, ◌+◌, ◌/◌, ◌%◌, ◌^◌, ◌<◌, ◌≤◌}
use mathlib.Core.Logic.{dite}
use mathlib.Core.Path.{◌≡◌, refl, sym, ap, ◌∙◌}
use mathlib.Core.List.{List, [], ◌∷◌, ◌++◌}
use native.Mathlib.Nat.{not-suc-le-zero, pow-suc}
use native.Mathlib.Decide.{dec_lt}
use native.Mathlib.Omega.{arith}
use borrow.Author.Tests.{lt-ltb, le-ltb, ltb-false}
use lib.Dec.{ltb}
use lib.ListN.{length, set, length-append}
use Rattle.wire.specs.Output.{overwrite}
use Rattle.wire.proofs.Lists.{split}
use Rattle.wire.proofs.Output.{stores_behind}
use Rattle.wire.specs.Lists.{tabulate}
use Rattle.wire.specs.Items.{encode_items}
use Rattle.text.specs.Text.{ascii, digits, decimal, spaced, line_rest}

-- more room for digits changes nothing
digits_same : (k m x : ℕ) → x < k → x < m → digits k x ≡ digits m x
unfolding digits
digits_same zero m x h l = absurd (not-suc-le-zero h)
digits_same (suc k) zero x h l = absurd (not-suc-le-zero l)
digits_same (suc k) (suc m) x h l =
    split (ltb x 10)
    (λ e. rw e)
    (λ e. let big : 10 ≤ x = ltb-false x 10 e in
    rw (e, digits_same k m (x / 10) (omega arith) (omega arith)))

pub decimal_digit : (x : ℕ) → x < 10 → decimal x ≡ (48 + x % 10) ∷ []
unfolding decimal digits
decimal_digit x h = rw (lt-ltb x 10 h)

pub decimal_more : (x : ℕ) → 10 ≤ x → decimal x ≡ decimal (x / 10) ++ ((48 + x % 10) ∷ [])
unfolding decimal digits
decimal_more x h =
    rw (le-ltb x 10 h) (ap (λ (d : List ℕ). d ++ ((48 + x % 10) ∷ [])) (digits_same x (suc (x / 10)) (x / 10) (omega arith) (omega arith)))

pub length_digit : (x : ℕ) → x < 10 → length (decimal x) ≡ 1
length_digit x h = ap length (decimal_digit x h)

pub length_more : (x : ℕ) → 10 ≤ x → length (decimal x) ≡ length (decimal (x / 10)) + 1
length_more x h = ap length (decimal_more x h) ∙ length-append (decimal (x / 10)) ((48 + x % 10) ∷ [])

-- a number below 10 to the power k + 1 has at most k + 1 digits
pub decimal_width : (k x : ℕ) → x < 10 ^ suc k → length (decimal x) ≤ suc k
decimal_width zero x h = omega (arith, length_digit x h)
decimal_width (suc k) x h =
    let h' = rw pow-suc at h in
    dite (dec_lt x 10) (λ l. omega (arith, length_digit x l))
    (λ l. let big : 10 ≤ x = omega arith in omega (arith, length_more x big, decimal_width k (x / 10) (omega (arith, h'))))

-- ---- writing one: its only digit, and its last behind the others

pub digit_written : (x : ℕ) (out : List ℕ) → x < 10 → length (decimal x) ≤ length out → set out 0 (48 + x % 10) ≡ overwrite (decimal x) out
digit_written x out h room =
    let one : 1 ≤ length out = omega (arith, length_digit x h) in
    rw (decimal_digit x h) (stores_behind [] ((48 + x % 10) ∷ []) out out 0 refl one refl)

pub last_digit_written : {xs : List ℕ} {n : ℕ} (x : ℕ) (out : List ℕ) → 10 ≤ x → length (decimal x) ≤ length out
    → n ≡ length (decimal (x / 10)) → xs ≡ overwrite (decimal (x / 10)) out → set xs n (48 + x % 10) ≡ overwrite (decimal x) out
last_digit_written {xs} {n} x out h room k e =
    let fits : length (decimal (x / 10)) + 1 ≤ length out = omega (arith, length_more x h) in
    rw (decimal_more x h) (stores_behind (decimal (x / 10)) ((48 + x % 10) ∷ []) out xs n (sym k) fits e)

-- ---- a space and a number, and the rest of a line

pub length_spaced : (x : ℕ) → length (spaced x) ≡ 1 + length (decimal x)
unfolding spaced ascii tabulate
length_spaced x = omega arith

pub line_parts : (xs : List ℕ) → line_rest xs ≡ encode_items spaced xs ++ (10 ∷ [])
unfolding line_rest ascii tabulate
line_parts xs = refl

pub length_line : (xs : List ℕ) → length (line_rest xs) ≡ length (encode_items spaced xs) + 1
length_line xs = ap length (line_parts xs) ∙ length-append (encode_items spaced xs) (10 ∷ [])
