-- `rithennaw::rithennaw_assemble` meets its contract: number and length are those of the answer, whose busy count is 0.
use mathlib.Core.Path.{◌≡◌}
use Rattle.wire.proofs.Lists.{IsByte, every_of}
use Rattle.monitor.specs.declared.Answer.{Answer}
use Rattle.monitor.specs.Calls.{as_answer}
use Rattle.listing.proofs.Assembled.{assembled_busy}
use Rattle.rithennaw.proofs.rithennaw_assemble.Goals as goal

-- an answer by what is told of it
without_busy : (a : Answer) → a.busy ≡ 0 → a ≡ record { number = a.number; length = a.length; busy = 0 }
without_busy a e i = record { number = a.number; length = a.length; busy = e i }

pub returns : goal.returns
returns c =
    let r = c.assemble in
    let a = c.args in
    let bytes = every_of IsByte 0 a.text.now (λ i. (c.type_inv.text i).fits) in
    let busy = assembled_busy a.text.now a.out.now (as_answer r.result) r.new.out r.ensures in
    let same = without_busy (as_answer r.result) busy in
    (rw (same, ← c.tell.ensures.0, ← c.tell.ensures.1) at r.ensures, bytes)
