-- `snapshot::put_message` meets its contract: label and sender, and the value behind them.
use mathlib.Core.Path.{refl}
use mathlib.Core.List.{[], ◌∷◌}
use native.Mathlib.Omega.{arith}
use lib.Seq.{sets-eq}
use Rattle.wire.specs.Numbers.{encode_number}
use Rattle.wire.proofs.Output.{lent_fits}
use Rattle.image.proofs.Offsets.{message_bytes_lem}
use Rattle.snapshot.proofs.put_message.Goals as goal

pub returns : goal.returns
returns c =
    let a = c.args in
    let m = a.message in
    let front = m.label ∷ m.sender ∷ [] in
    rw (message_bytes_lem m.label m.sender m.value (omega arith) (omega arith))
    (lent_fits front (encode_number 4 m.value) a.out.now 2 refl (omega arith) (sets-eq front a.out.now 0 (omega arith)) c.encode_u32.ensures)
