-- `sheet::put_refusal` meets its contract: the number is written behind the word.
use Prim.Native.Nat.{ℕ, ◌≤◌}
use mathlib.Core.Path.{◌≡◌}
use mathlib.Core.List.{List, [], ◌∷◌}
use native.Mathlib.Omega.{arith}
use lib.ListN.{length, length-append}
use Rattle.refusal.specs.declared.Refusal.{Refusal}
use Rattle.refusal.specs.Refusal.{number_of}
use Rattle.wire.specs.Lists.{tabulate}
use Rattle.wire.specs.Output.{overwrite}
use Rattle.wire.proofs.Output.{FrontWritten, part_room, both_written}
use Rattle.text.specs.Text.{ascii, line_rest}
use Rattle.sheet.specs.Sheet.{refusal_line}
use Rattle.sheet.proofs.put_refusal.Goals as goal

-- the word has room, and with it written so has what stands behind it
word_room : (refusal : Refusal) (out : List ℕ) → length (refusal_line (number_of refusal)) ≤ length out → length (ascii "refused") ≤ length out
unfolding refusal_line
word_room refusal out room = let whole = simp length-append at room in omega (arith, whole)

front : (refusal : Refusal) (out : List ℕ) {number n : ℕ} {new : List ℕ} → number ≡ number_of refusal → length (refusal_line (number_of refusal)) ≤ length out
    → (n ≡ length (ascii "refused")) × (new ≡ overwrite (ascii "refused") out) → FrontWritten (ascii "refused") (line_rest (number ∷ [])) out new n
unfolding refusal_line
front refusal out same room wrote = record { size = wrote.0; front = wrote.1; room = rw same room }

pub put-n-requires : goal.put-n-requires
unfolding ascii tabulate
put-n-requires c = word_room c.args.refusal c.args.out.now c.requires

pub put_line_rest-requires : goal.put_line_rest-requires
unfolding ascii tabulate
put_line_rest-requires c = part_room (front c.args.refusal c.args.out.now c.from-number.ensures c.requires c.put-n.ensures)

pub returns : goal.returns
unfolding refusal_line ascii tabulate
returns c =
    rw c.from-number.ensures at (both_written (front c.args.refusal c.args.out.now c.from-number.ensures c.requires c.put-n.ensures) c.put_line_rest.ensures)
