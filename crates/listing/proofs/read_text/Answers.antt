-- `listing::read_text` keeps its invariant: a line that is found is kept behind the others, and where none is no lines spell the text.
use mathlib.Core.Path.{sym, ◌∙◌}
use native.Mathlib.Omega.{arith}
use mathlib.Core.Path.{◌≡◌}
use Rattle.std.specs.Prelude.{None, Err, ok_or}
use Rattle.refusal.specs.declared.Refusal.TheVariants.{Text}
use Rattle.std.proofs.lemmas.Result.{err_from_is_err_and}
use borrow.Author.Tests.{eqb-true, eqb-false}
use lib.ListN.{length, length-drop}
use Rattle.wire.proofs.Output.{rest}
use Rattle.listing.proofs.Keeping.{so_far_none, so_far_more, so_far_above, line_within, so_far_all, so_far_stops}
use Rattle.listing.proofs.read_text.Goals as goal
use Rattle.listing.proofs.read_text.Goals.{in-Some, in-None}

pub loop-rest-init : goal.loop-rest-init
loop-rest-init c = so_far_none _ _

pub returns-in_err-line : goal.returns-in_err-line
returns-in_err-line c =
    let p = err_from_is_err_and c.from_residual.result c.from_residual.ensures.1 in
    let none = c.in_err-line.ensures in
    let text : Err c.in_err-line.field-0.0 ≡ ok_or None Text = rw none.ok_part at none.value in
    let more = eqb-false (length c.loop-rest.rest.now) 0 (sym c.loop-rest-test.ensures) in
    rw (p.1, p.2) ((cc), so_far_stops c.loop-rest.invariant (omega (arith, more)) (sym c.read_line.ensures ∙ none.ok_part))

pub slice_bounds-rest-count : goal.slice_bounds-rest-count
slice_bounds-rest-count c = (line_within c.loop-rest.invariant (sym c.read_line.ensures ∙ c.in_ok-line.ensures.ok_part)).1

pub slice_bounds-rest-start : goal.slice_bounds-rest-start
slice_bounds-rest-start c = (line_within c.loop-rest.invariant (sym c.read_line.ensures ∙ c.in_ok-line.ensures.ok_part)).1

pub overflow_add-lines : goal.overflow_add-lines
overflow_add-lines c =
    let h = c.loop-rest.invariant in
    let within = line_within h (sym c.read_line.ensures ∙ c.in_ok-line.ensures.ok_part) in
    omega (arith, within, h.few, c.well_formed.1.0)

pub loop-rest-smaller : goal.loop-rest-smaller
loop-rest-smaller c =
    let within = line_within c.loop-rest.invariant (sym c.read_line.ensures ∙ c.in_ok-line.ensures.ok_part) in
    rw rest (omega (arith, within, length-drop c.in_ok-line.line.length c.loop-rest.rest.now))

pub loop-rest-preserved : goal.loop-rest-preserved
loop-rest-preserved c =
    let h = c.loop-rest.invariant in
    let read = sym c.read_line.ensures ∙ c.in_ok-line.ensures.ok_part in
    elim c.match-line_bytes.branch [
      | in-Some w ↦ rw (rest, w.program-is, w.bytes-is, w.keep_line.ensures) (so_far_more h read (sym w.in-Some.ensures))
      | in-None w ↦ rw (rest, w.program-is, w.bytes-is) (so_far_above h read (sym w.in-None.ensures))
    ]

pub returns : goal.returns
returns c = so_far_all c.loop-rest.invariant (eqb-true _ 0 (sym c.loop-rest-test.ensures))
