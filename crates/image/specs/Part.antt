-- The part of an image that holds a slot's record.
use Rattle.std.specs.Prelude.{ℕ, ◌+◌, cond, ◌&&◌, List, [], leb, eqb, length, take, drop}
use Rattle.machine.specs.Limits.{highest_slot}
use Rattle.image.specs.declared.Extent.{Extent}
use Rattle.image.specs.Image.{slots_at, slots_part, record_length, span, skip}
use Rattle.image.specs.Refusal.{image_number}

-- where the record of slot s begins, behind its length
unfoldable pub record_start : List ℕ → ℕ → ℕ
record_start b s = slots_at b + span s (slots_part b) + 2

-- the record of a slot: no bytes for an unused slot, a slot number above 15 or a refused image
unfoldable pub record_part : List ℕ → ℕ → List ℕ
record_part b s = cond (leb s highest_slot && eqb (image_number b) 0) (take (record_length (skip s (slots_part b))) (drop (record_start b s) b)) []

-- where that part stands: its start and its length, both 0 where it is empty
unfoldable pub record_extent : List ℕ → ℕ → Extent
record_extent b s = record { start = cond (eqb (length (record_part b s)) 0) 0 (record_start b s); length = length (record_part b s) }
