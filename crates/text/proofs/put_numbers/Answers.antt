use Rattle.wire.proofs.Output.{item_part, items_more, items_size, items_all}
use Rattle.std.proofs.Common.{arith}
use Rattle.text.specs.Text.{spaced}
use Rattle.text.proofs.put_numbers.Goals as goal

pub put_spaced-at-requires : goal.put_spaced-at-requires
put_spaced-at-requires c = item_part spaced c.args.numbers.now c.args.out.now c.requires 0 (omega arith) c.loop-x.invariant

pub loop-x-preserved : goal.loop-x-preserved
loop-x-preserved c =
    let wrote = c.put_spaced-at in
    let more = items_more spaced c.args.numbers.now c.args.out.now c.requires 0 (omega arith) c.loop-x.invariant wrote.ensures.1 in
    rw (← wrote.ensures.0) at more

pub returns : goal.returns
returns c =
    let a = c.args in
    let h = c.loop-x.invariant in
    (items_size spaced a.numbers.now a.out.now (omega arith) h, items_all spaced a.numbers.now a.out.now (omega arith) h)
