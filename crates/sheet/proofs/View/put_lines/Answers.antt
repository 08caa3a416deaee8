use native.Mathlib.Omega.{arith}
use Rattle.table.specs.Table.{slots_in}
use Rattle.sheet.proofs.Shown.{line_part, lines_more, lines_size, lines_all}
use Rattle.sheet.proofs.View.put_lines.Goals as goal

pub put_line-at-requires : goal.put_line-at-requires
put_line-at-requires c =
    line_part c.args.self.now.observer (slots_in c.args.self.now.table.now) c.args.out.now c.requires (omega arith) c.loop-number.invariant

pub loop-number-preserved : goal.loop-number-preserved
loop-number-preserved c =
    let h = c.loop-number in
    let wrote = c.put_line-at in
    let more = lines_more c.args.self.now.observer (slots_in c.args.self.now.table.now) c.args.out.now c.requires (omega arith) h.invariant wrote.ensures.1 in
    rw (← wrote.ensures.0) at more

pub returns : goal.returns
returns c =
    let a = c.args in
    let ss = slots_in a.self.now.table.now in
    let h = c.loop-number in
    (lines_size a.self.now.observer ss a.out.now (omega arith) h.invariant, lines_all a.self.now.observer ss a.out.now (omega arith) h.invariant)
