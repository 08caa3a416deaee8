-- Definitions for contracts of functions that are no calls: reading a number in decimal. No claim and no call's promise reaches them.
use Rattle.std.specs.Prelude.{ℕ, suc, ◌+◌, ◌*◌, ◌%◌, Bool, cond, ◌&&◌, ◌||◌, List, [], ◌∷◌, Option, Some, None, leb, ltb, eqb, length, get_or, take}
use Rattle.wire.specs.Lists.{all, first_index}
use Rattle.text.specs.declared.Number.{Number}

-- 0 to 9 in ASCII
abbrev pub is_digit : ℕ → Bool
is_digit x = leb 48 x && leb x 57

-- digits, at least one, and the first is 0 only where it is the only one
unfoldable pub is_decimal : List ℕ → Bool
is_decimal w = all is_digit w && (eqb (length w) 1 || (ltb 1 (length w) && ltb 48 (get_or w 0 0)))

-- the number x, and the digits w behind its own; 48 % 16 is 0
abbrev pub value_from : ℕ → List ℕ → ℕ
value_from x [] = x
value_from x (d ∷ w) = value_from (x * 10 + d % 16) w

-- a number as a byte, none above 255
abbrev pub byte_value : ℕ → Option ℕ
byte_value x = cond (leb x 255) (Some x) None

-- what stands ahead of the first byte `end`, all of b where it has none
abbrev pub ahead : ℕ → List ℕ → List ℕ
ahead end b = take (first_index (λ y. eqb y end) b) b

-- a number at the front of b that ends with the byte `end`: how many bytes both have, 0 where no such number stands there; and the number
unfoldable pub number_length : ℕ → List ℕ → ℕ
number_length end b = cond (ltb (length (ahead end b)) (length b) && is_decimal (ahead end b)) (suc (length (ahead end b))) 0

unfoldable pub number_value : ℕ → List ℕ → ℕ
number_value end b = value_from 0 (ahead end b)

-- and both as they are read: the number as a byte; and how many bytes, none where no number stands there
unfoldable pub number_read : ℕ → List ℕ → Number
number_read end b = record { value = byte_value (number_value end b); length = cond (ltb 0 (number_length end b)) (Some (number_length end b)) None }
