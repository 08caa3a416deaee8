-- `snapshot::write_head` meets its contract: each part behind those before.
use Prim.Native.Nat.{◌+◌, ◌≤◌}
use mathlib.Core.Path.{refl, ◌∙◌}
use mathlib.Core.List.{[], ◌∷◌, ◌++◌}
use native.Mathlib.Omega.{arith}
use lib.ListN.{length, length-append}
use Rattle.wire.specs.Numbers.{encode_number}
use Rattle.wire.proofs.Output.{written_fits, lent_fits}
use Rattle.image.specs.Image.{ahead_bytes}
use Rattle.image.proofs.Offsets.{front_bytes}
use Rattle.snapshot.proofs.write_head.Goals as goal

pub returns : goal.returns
unfolding ahead_bytes
returns c =
    let program = c.args.program.now in
    let out = c.args.out.now in
    let room : 3 + length program + 1 ≤ length out = c.requires in
    let size = encode_number 2 (length program) in
    let v = c.args.version in
    let version = c.put_byte.ensures ∙ written_fits (v ∷ []) out (omega arith) in
    let sized = lent_fits (v ∷ []) size out 1 refl (omega arith) version c.encode_u16.ensures in
    let copied = lent_fits (v ∷ size) program out 3 refl (omega arith) sized c.copy.ensures in
    let fits = length-append program (c.args.turn ∷ []) in
    rw (front_bytes v (length program) (omega (arith, c.well_formed.1)))
    (lent_fits (v ∷ size ++ program) (c.args.turn ∷ []) out (3 + length program) (omega arith) (omega (arith, fits)) copied c.put_byte-2.ensures)
