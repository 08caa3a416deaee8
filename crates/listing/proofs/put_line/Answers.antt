-- `listing::put_line` meets its contract: the numbers are written behind the word.
use Prim.Native.Nat.{ℕ, ◌≤◌}
use mathlib.Core.Path.{◌≡◌}
use mathlib.Core.List.{List, [], ◌∷◌}
use native.Mathlib.Omega.{arith}
use lib.ListN.{length, length-append}
use Rattle.wire.specs.Output.{overwrite}
use Rattle.wire.proofs.Output.{FrontWritten, part_inside, part_room, both_written}
use Rattle.text.specs.Text.{line_rest}
use Rattle.word.specs.Word.{word_of}
use Rattle.listing.specs.Listing.{Line, line_text, line_of}
use Rattle.listing.proofs.put_line.Goals as goal

abbrev word : Line → List ℕ
word l = word_of l.code

abbrev others : Line → List ℕ
others l = line_rest (l.a ∷ l.b ∷ l.c ∷ [])

-- the word stands at the front
begun : (l : Line) {out xs : List ℕ} {n : ℕ} → length (line_text l) ≤ length out → (n ≡ length (word l)) × (xs ≡ overwrite (word l) out)
    → FrontWritten (word l) (others l) out xs n
unfolding line_text
begun l room wrote = record { size = wrote.0; front = wrote.1; room = room }

pub put-n-requires : goal.put-n-requires
unfolding line_text
put-n-requires c = let l = line_of c.args.instruction.now in omega (arith, c.requires.1, length-append (word l) (others l))

pub slice_bounds-put_line_rest-count : goal.slice_bounds-put_line_rest-count
slice_bounds-put_line_rest-count c = part_inside (begun (line_of c.args.instruction.now) c.requires.1 c.put-n.ensures)

pub put_line_rest-requires : goal.put_line_rest-requires
put_line_rest-requires c =
    rw (c.from.ensures, c.from-2.ensures, c.from-3.ensures) (part_room (begun (line_of c.args.instruction.now) c.requires.1 c.put-n.ensures))

pub returns : goal.returns
unfolding line_text
returns c =
    both_written (begun (line_of c.args.instruction.now) c.requires.1 c.put-n.ensures)
    (rw (c.from.ensures, c.from-2.ensures, c.from-3.ensures) at c.put_line_rest.ensures)
