use mathlib.Core.Path.{◌≡◌, refl, sym, ap, ◌∙◌}
use native.Mathlib.Nat.{le_of_eq}
use native.Mathlib.Omega.{arith}
use Rattle.wire.proofs.Output.{copy_all}
use Rattle.image.specs.Image.{record_of, behind, slots_of}
use Rattle.image.proofs.Walk.{skip_none, skip_next}
use Rattle.image.proofs.Slots.{length_slots_of}
use Rattle.table.specs.Table.{slots_in}
use Rattle.table.proofs.Change.{length_slots}
use Rattle.loader.proofs.Loading.{load_next}
use Rattle.loader.proofs.load_slots.Goals as goal

pub loop-number-preserved : goal.loop-number-preserved
loop-number-preserved c =
    let a = c.args in
    let h = c.loop-number in
    let b = a.slots.now in (
      c.behind-rest.ensures ∙ ap behind h.invariant.0 ∙ sym (skip_next h.number b),
      c.load_slot.ensures
          ∙ load_next a.version b (slots_in a.table.now) h.number _ _ (omega arith) (length_slots a.table.now.words) h.invariant.1 (c.front_record.ensures ∙ ap record_of h.invariant.0),
    )

pub returns : goal.returns
returns c =
    let a = c.args in
    let b = a.slots.now in
    let end : c.loop-number.number ≡ 16 = omega arith in
    rw end at c.loop-number.invariant.1 ∙ copy_all (slots_of a.version 16 b) (slots_in a.table.now) 16 (le_of_eq (length_slots_of a.version 16 b)) (le_of_eq (length_slots a.table.now.words))

pub loop-number-init : goal.loop-number-init
loop-number-init c = (sym (skip_none _), refl)
