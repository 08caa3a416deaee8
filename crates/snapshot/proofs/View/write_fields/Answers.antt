-- `snapshot::View::write_fields` meets its contract: the length, four stores behind it, and the place behind these.
use Prim.Native.Nat.{ℕ, ◌+◌, ◌<◌}
use mathlib.Core.Path.{◌≡◌, refl, sym, ap, ◌∙◌}
use mathlib.Core.List.{List, [], ◌∷◌, ◌++◌}
use native.Mathlib.Omega.{arith}
use lib.ListN.{length, take, length-append}
use Rattle.wire.specs.Numbers.{encode_number}
use Rattle.wire.specs.Fields.{encode_fields}
use Rattle.wire.specs.Output.{overwrite}
use Rattle.wire.proofs.Output.{written_fits, lent_fits}
use Rattle.image.specs.Format.{task_fields}
use Rattle.image.specs.Inner.{head_bytes}
use Rattle.table.specs.Table.{slots_in}
use Rattle.table.specs.Change.{task_at}
use Rattle.snapshot.specs.Writing.{head_numbers}
use Rattle.snapshot.proofs.Writing.{four_stored, four_length, head_four}
use Rattle.snapshot.proofs.View.write_fields.Goals as goal

pub returns : goal.returns
returns c =
    let a = c.args in
    let version = a.self.now.version in
    let t = task_at (slots_in a.self.now.table.now) a.slot.number in
    let kind = c.kind.result in
    let label = c.label.result in
    let clearance = c.clearance-clearance.result in
    let spare = c.spare-spare.result in
    let pc = c.pc.result in
    let out = a.out.now in
    let size = encode_number 2 a.size in
    let width = c.clearance_width-width.result in
    let is_width = c.clearance_width-width.ensures.0 in
    let four = encode_fields (take 4 (task_fields version)) (kind ∷ label ∷ clearance ∷ spare ∷ []) in
    let first = c.encode_u16.ensures ∙ written_fits size out (omega arith) in
    let low : (kind < 256) × (label < 256) × (clearance < 256) × (spare < 256) = (omega arith, omega arith, omega arith, omega arith) in
    let fields = four_stored version kind label clearance spare pc width size out c.encode_u16.new.out low refl is_width (omega arith) first in
    let long : length (size ++ four) ≡ 5 + width = omega (arith, length-append size four, four_length version kind label clearance spare pc, is_width) in
    let numbers : kind ∷ label ∷ clearance ∷ spare ∷ pc ∷ [] ≡ head_numbers t
    = λ i. c.kind.ensures i ∷ c.label.ensures i ∷ c.clearance-clearance.ensures i ∷ c.spare-spare.ensures i ∷ c.pc.ensures i ∷ [] in
    lent_fits (size ++ four) (encode_number 2 pc) out (5 + width) long (omega arith) fields c.encode_u16-2.ensures
    ∙ ap (λ (h : List ℕ). overwrite (size ++ h) out) (sym (head_four version kind label clearance spare pc) ∙ ap (head_bytes version) numbers)
