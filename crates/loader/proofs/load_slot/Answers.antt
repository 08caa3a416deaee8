-- `loader::load_slot` meets its contract: no bytes are an unused slot.
use mathlib.Core.Path.{sym, ap, ◌∙◌}
use borrow.Author.Tests.{eqb-true, eqb-false}
use lib.ListN.{length, set}
use Rattle.table.specs.Table.{slots_in}
use Rattle.image.proofs.Records.{slot_none, slot_some}
use Rattle.loader.proofs.load_slot.Goals as goal

pub returns-then-is_empty : goal.returns-then-is_empty
returns-then-is_empty c =
    let a = c.args in
    let none = eqb-true (length a.bytes.now) 0 (sym c.is_empty.ensures ∙ c.if-is_empty.true) in
    c.clear.ensures ∙ ap (set (slots_in a.table.now) a.slot.number) (sym (slot_none a.version a.bytes.now none))

pub returns-else-is_empty : goal.returns-else-is_empty
returns-else-is_empty c =
    let a = c.args in
    let some = eqb-false (length a.bytes.now) 0 (sym c.is_empty.ensures ∙ c.if-is_empty.false) in
    c.load_task.ensures ∙ ap (set (slots_in a.table.now) a.slot.number) (sym (slot_some a.version a.bytes.now some))
