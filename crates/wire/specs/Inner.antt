-- Definitions for contracts of functions that are no calls: no claim and no call's promise reaches them.
use Rattle.std.specs.Prelude.{ℕ, Bool, cond, ◌&&◌, List, leb, eqb, length, get_or}
use Rattle.wire.specs.Lists.{each}
use Rattle.wire.specs.Output.{overwrite}

-- the output with w written at its front where w fits; an output too short for it stays as it was
abbrev pub written : List ℕ → List ℕ → List ℕ
written w out = cond (leb (length w) (length out)) (overwrite w out) out

-- the same bytes
unfoldable pub same : List ℕ → List ℕ → Bool
same s t = eqb (length s) (length t) && each (length s) (λ i. eqb (get_or s i 0) (get_or t i 0))
