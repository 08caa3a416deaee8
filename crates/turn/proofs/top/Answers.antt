-- `turn::top` meets its contract: the fold over the sixteen is the definition's, slot by slot.
use mathlib.Core.Path.{◌≡◌, refl, ◌∙◌}
use mathlib.Core.List.{List}
use Rattle.std.proofs.Common.{rules}
use Rattle.std.specs.List.{fold, range_with_len}
use Rattle.std.proofs.lemmas.Iterator.{YieldsList-from_range}
use Rattle.std.proofs.lemmas.Iterator.Consumers.{fold_from_yields_List}
use Rattle.machine.specs.State.{Slot, slot_at}
use Rattle.machine.specs.Inner.{top_behind, top_of}
use Rattle.table.specs.Table.{slots_in}
use Rattle.turn.proofs.top.Goals as goal

slot_by_slot : (ss : List Slot) → fold (λ before s. top_behind s before (slot_at ss s)) 0 (range_with_len 0 16) ≡ top_of 16 ss
unfolding top_of
slot_by_slot ss = refl

pub returns : goal.returns
returns c =
    let ss = slots_in c.args.table.now in
    fold_from_yields_List _ (λ before s. top_behind s before (slot_at ss s)) 0 _ c.fold.ensures.ran (YieldsList-from_range 0 16 16 refl refl)
    (λ a x b q k. search rules)
    ∙ slot_by_slot ss
