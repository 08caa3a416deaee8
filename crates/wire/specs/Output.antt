-- What a write leaves of an output.
use Rattle.std.specs.Prelude.{ℕ, List, ◌++◌, length, drop}

-- the output with w written at its front, and what stood behind that as it was
abbrev pub overwrite : List ℕ → List ℕ → List ℕ
overwrite w out = w ++ drop (length w) out
