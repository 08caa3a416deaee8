-- Text as bytes: ASCII, numbers in decimal, and lines of them.
use Rattle.std.specs.Prelude.{ℕ, zero, suc, ◌+◌, ◌/◌, ◌%◌, cond, List, [], ◌∷◌, ◌++◌, ltb}
use Prim.Native.String.{String, len, char_at}
use Prim.Native.Char.{code}
use Rattle.wire.specs.Lists.{tabulate}
use Rattle.wire.specs.Items.{encode_items}

-- a text of ASCII characters
unfoldable pub ascii : String → List ℕ
ascii s = tabulate (len s) (λ i. code (char_at s i))

-- at most k digits of x, 48 being 0 in ASCII: the last behind those of x / 10, of which a number below 10 has none
unfoldable pub digits : ℕ → ℕ → List ℕ
digits zero x = []
digits (suc k) x = cond (ltb x 10) [] (digits k (x / 10)) ++ ((48 + x % 10) ∷ [])

-- x in decimal, without leading zeros; x has at most x + 1 digits
unfoldable pub decimal : ℕ → List ℕ
decimal x = digits (suc x) x

-- a space and x
unfoldable pub spaced : ℕ → List ℕ
spaced x = ascii " " ++ decimal x

-- the rest of a line: each number behind a space, and a line feed
unfoldable pub line_rest : List ℕ → List ℕ
line_rest xs = encode_items spaced xs ++ ascii "\n"
