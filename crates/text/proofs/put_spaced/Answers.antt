-- `text::put_spaced` meets its contract: the number is written behind the space.
use mathlib.Core.Path.{refl}
use Prim.Native.Nat.{ℕ, ◌≤◌}
use mathlib.Core.List.{List, [], ◌∷◌}
use native.Mathlib.Omega.{arith}
use lib.ListN.{length, set}
use lib.Seq.{sets-eq}
use Rattle.wire.specs.Lists.{tabulate}
use Rattle.wire.proofs.Output.{FrontWritten, part_inside, part_room, both_written}
use Rattle.text.specs.Text.{ascii, decimal, spaced}
use Rattle.text.proofs.Text.{length_spaced}
use Rattle.text.proofs.put_spaced.Goals as goal

-- the space is stored
front : (x : ℕ) (out : List ℕ) → length (spaced x) ≤ length out → FrontWritten (32 ∷ []) (decimal x) out (set out 0 32) 1
unfolding spaced ascii tabulate
front x out room = record { size = refl; front = sets-eq (32 ∷ []) out 0 (omega (arith, room)); room = room }

pub returns : goal.returns
unfolding spaced ascii tabulate
returns c = both_written (front c.args.x c.args.out.now c.requires) c.put_decimal.ensures

pub bounds-out-0 : goal.bounds-out-0
bounds-out-0 c = omega (arith, length_spaced c.args.x, c.requires)

pub slice_bounds-put_decimal-count : goal.slice_bounds-put_decimal-count
slice_bounds-put_decimal-count c = part_inside (front c.args.x c.args.out.now c.requires)

pub slice_bounds-put_decimal-start : goal.slice_bounds-put_decimal-start
slice_bounds-put_decimal-start c = part_inside (front c.args.x c.args.out.now c.requires)

pub put_decimal-requires : goal.put_decimal-requires
put_decimal-requires c = part_room (front c.args.x c.args.out.now c.requires)
