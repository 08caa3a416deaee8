use mathlib.Core.Path.{◌∙◌}
use native.Mathlib.Omega.{arith}
use Rattle.listing.proofs.Chunks.{lines_none, line_room, line_part, lines_more, lines_all}
use Rattle.listing.proofs.put_lines.Goals as goal

pub loop-instruction-init : goal.loop-instruction-init
loop-instruction-init c =
    let made = c.chunks_exact-instruction-items.ensures in
    rw (c.into_iter-instruction-iterator.ensures.into_iter_gives, made.rest)
    (omega (arith, made.size), tt, made.size, lines_none c.args.program.now c.args.out.now)

pub slice_bounds-put_line-count : goal.slice_bounds-put_line-count
slice_bounds-put_line-count c = c.loop-instruction.invariant.3.items.inside

pub put_line-at-requires : goal.put_line-at-requires
put_line-at-requires c =
    let h = c.loop-instruction.invariant in
    let s = c.in-Some.ensures.steps in
    let four = s.1.1 ∙ h.2 in
    (four, line_part c.requires h.3 _ _ four s.1.0)

pub overflow_add-at : goal.overflow_add-at
overflow_add-at c =
    let h = c.loop-instruction.invariant in
    let s = c.in-Some.ensures.steps in
    omega (arith, line_room c.requires h.3 _ _ (s.1.1 ∙ h.2) s.1.0, c.put_line-at.ensures.0, h.3.items.same, c.well_formed.0.0)

pub loop-instruction-preserved : goal.loop-instruction-preserved
loop-instruction-preserved c =
    let h = c.loop-instruction.invariant in
    let s = c.in-Some.ensures.steps in
    let four = s.0 ∙ h.2 in
    (omega (arith, four), tt, four, lines_more c.requires h.3 _ _ (s.1.1 ∙ h.2) s.1.0 c.put_line-at.ensures)

pub returns : goal.returns
returns c =
    let h = c.loop-instruction.invariant in
    lines_all c.requires h.3 (omega (arith, c.in-None.ensures.steps.1.0, h.2))
