-- `sheet::print` meets its contract: the sheet, or a line that tells the refusal.
use mathlib.Core.Path.{sym, ap, ◌∙◌}
use native.Mathlib.Omega.{arith}
use lib.ListN.{length}
use Rattle.sheet.proofs.Sheet.{refusal_length}
use Rattle.sheet.proofs.Printed.{printed_long, printed_empty, sheet_printed, refusal_printed}
use Rattle.sheet.proofs.print.Goals as goal

-- ---- input that is no observer byte and an image

pub put_refusal-requires : goal.put_refusal-requires
put_refusal-requires c = omega (arith, refusal_length 11 (omega arith), c.told-out)

pub returns-then-input-gt-INPUT_MAX : goal.returns-then-input-gt-INPUT_MAX
returns-then-input-gt-INPUT_MAX c =
    let r = c.put_refusal.ensures in
    rw (printed_long c.args.input.now c.if-input-gt-INPUT_MAX.true) (r.0, omega (arith, r.0, refusal_length 11 (omega arith)), r.1)

pub put_refusal-requires-in_default : goal.put_refusal-requires-in_default
put_refusal-requires-in_default c = omega (arith, refusal_length 3 (omega arith), c.told-out)

pub returns-in_default : goal.returns-in_default
returns-in_default c =
    let r = c.put_refusal-in_default.ensures in
    rw (printed_empty c.args.input.now c.in_default.ensures.cases) (r.0, omega (arith, r.0, refusal_length 3 (omega arith)), r.1)

-- ---- what the call ends with

pub returns-in-Ok : goal.returns-in-Ok
returns-in-Ok c =
    sheet_printed c.in-Some.ensures.cases.0 c.if-input-gt-INPUT_MAX.false (λ i. (c.type_inv.input i).fits) c.args.out.now c.told-out
    c.in-Ok.written c.in-Ok.ensures

pub returns-in-Err : goal.returns-in-Err
returns-in-Err c =
    let r = refusal_printed c.in-Some.ensures.cases.0 c.if-input-gt-INPUT_MAX.false (λ i. (c.type_inv.input i).fits) c.args.out.now c.told-out
    c.in-Err.refusal c.in-Err.ensures in
    let line = c.put_refusal-in-Err.ensures in
    (line.0 ∙ sym (ap length r.0), omega (arith, line.0, ap length r.0, r.2), line.1 ∙ rw (r.0, r.1))

pub put_refusal-requires-in-Err : goal.put_refusal-requires-in-Err
put_refusal-requires-in-Err c =
    let r = refusal_printed c.in-Some.ensures.cases.0 c.if-input-gt-INPUT_MAX.false (λ i. (c.type_inv.input i).fits) c.args.out.now c.told-out
    c.in-Err.refusal c.in-Err.ensures in
    omega (arith, ap length r.0, r.2, c.write.auto.out, c.told-out)
