use Rattle.std.proofs.Common.{arith, ◌∙◌}
use Rattle.text.proofs.Reading.{value_more, value_above, value_whole}
use Rattle.text.proofs.value.Goals as goal

pub loop-d-preserved : goal.loop-d-preserved
loop-d-preserved c =
    let h = c.loop-d in
    (omega arith, h.invariant.1 ∙ value_more h.x c.args.s.now h.d-index c.in_ok-x.x (omega arith) (omega arith))

pub returns-in_err-checked_mul : goal.returns-in_err-checked_mul
returns-in_err-checked_mul c =
    let h = c.loop-d in
    rw h.invariant.1 (c.from_residual.ensures ∙ value_above h.x c.args.s.now h.d-index (omega arith) (omega arith))

pub returns-in_err-x : goal.returns-in_err-x
returns-in_err-x c =
    let h = c.loop-d in
    rw h.invariant.1 (c.from_residual-in_err-x.ensures ∙ value_above h.x c.args.s.now h.d-index (omega arith) (omega arith))

pub returns : goal.returns
returns c =
    let h = c.loop-d in
    rw h.invariant.1 (value_whole h.x c.args.s.now h.d-index (omega arith) h.invariant.0)
