use mathlib.Core.Path.{sym}
use native.Mathlib.Omega.{arith}
use Rattle.text.proofs.Text.{length_digit, length_more, digit_written, last_digit_written}
use Rattle.text.proofs.+put_decimal.Goals as goal

pub bounds-out-0 : goal.bounds-out-0
bounds-out-0 t c = omega (arith, length_digit c.args.x c.if-x-lt10.true, c.requires)

pub put_decimal-n-requires : goal.put_decimal-n-requires
put_decimal-n-requires t c = (omega (arith, c.if-x-lt10.false), omega (arith, length_more c.args.x c.if-x-lt10.false, c.requires))

-- the other digits leave room for the last
pub bounds-out-n : goal.bounds-out-n
bounds-out-n t c =
    let wrote = c.put_decimal-n in
    omega (arith, length_more c.args.x c.if-x-lt10.false, c.requires, wrote.ensures.0, wrote.auto.out)

pub returns-then-x-lt10 : goal.returns-then-x-lt10
returns-then-x-lt10 t c = (sym (length_digit c.args.x c.if-x-lt10.true), digit_written c.args.x c.args.out.now c.if-x-lt10.true c.requires)

pub returns-else-x-lt10 : goal.returns-else-x-lt10
returns-else-x-lt10 t c =
    let big = c.if-x-lt10.false in
    let wrote = c.put_decimal-n in
    (omega (arith, length_more c.args.x big, wrote.ensures.0), last_digit_written c.args.x c.args.out.now big c.requires wrote.ensures.0 wrote.ensures.1)
