-- Definitions for contracts of functions that are no calls, which no claim and no call's promise reaches.
use Rattle.std.specs.Prelude.{ℕ, cond, ◌&&◌, List, [], leb, eqb, take}
use Rattle.wire.specs.Fields.{encode_fields}
use Rattle.machine.specs.Limits.{highest_slot}
use Rattle.machine.specs.Version.{has_clearances}
use Rattle.image.specs.Format.{task_fields}
use Rattle.image.specs.Image.{slots_part, skip}
use Rattle.image.specs.Refusal.{image_number}

-- the bytes from slot s on, its length first: none for a slot number above 15 or a refused image
unfoldable pub from_slot : List ℕ → ℕ → List ℕ
from_slot b s = cond (leb s highest_slot && eqb (image_number b) 0) (skip s (slots_part b)) []

-- the bytes of a task's fields ahead of its registers, which hold these numbers, in an image of version v
abbrev pub head_bytes : ℕ → List ℕ → List ℕ
head_bytes v xs = encode_fields (take 5 (task_fields v)) xs

-- how many bytes the clearance has
abbrev pub clearance_width : ℕ → ℕ
clearance_width v = cond (has_clearances v) 1 0
