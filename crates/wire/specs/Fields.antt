-- Numbers one after another, each in a field of its own width.
use Rattle.std.specs.Prelude.{ℕ, zero, suc, ◌+◌, Bool, cond, List, [], ◌∷◌, ◌++◌, get_or, drop}
use Rattle.wire.specs.Numbers.{decode_number, encode_number}

-- how many bytes a field has, and what it is read as where it has none
pub record Field : Type 0 where
  pub width : ℕ
  pub absent : ℕ

-- a field of w bytes
abbrev pub bytes : ℕ → Field
bytes w = record { width = w; absent = 0 }

-- w bytes where the test passes, and else none, which are read as d
abbrev pub bytes_if : Bool → ℕ → ℕ → Field
bytes_if test w d = record { width = cond test w 0; absent = d }

-- how many bytes fields have together
abbrev pub size : List Field → ℕ
size [] = 0
size (f ∷ fs) = f.width + size fs

-- the number in the first w bytes of b, and d where w is 0
abbrev pub number_or : ℕ → ℕ → List ℕ → ℕ
number_or d zero b = d
number_or d (suc w) b = decode_number (suc w) b

-- the numbers in the fields at the front of b
unfoldable pub decode_fields : List Field → List ℕ → List ℕ
decode_fields [] b = []
decode_fields (f ∷ fs) b = number_or f.absent f.width b ∷ decode_fields fs (drop f.width b)

-- the bytes of the fields with the numbers xs in them
unfoldable pub encode_fields : List Field → List ℕ → List ℕ
encode_fields [] xs = []
encode_fields (f ∷ fs) xs = encode_number f.width (get_or xs 0 0) ++ encode_fields fs (drop 1 xs)
