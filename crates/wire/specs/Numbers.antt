-- Unsigned big-endian numbers of any width.
use Rattle.std.specs.Prelude.{ℕ, zero, suc, ◌+◌, ◌*◌, ◌/◌, ◌%◌, List, [], ◌∷◌, ◌++◌, get_or}

-- the number in the first w bytes of s
abbrev pub decode_number : ℕ → List ℕ → ℕ
decode_number zero s = 0
decode_number (suc w) s = decode_number w s * 256 + get_or s w 0

-- the w bytes of the number x
abbrev pub encode_number : ℕ → ℕ → List ℕ
encode_number zero x = []
encode_number (suc w) x = encode_number w (x / 256) ++ (x % 256 ∷ [])
