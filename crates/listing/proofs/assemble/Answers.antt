-- `listing::assemble` meets its contract: a list has the number of the lines that were kept of it, and their bytes are copied.
use mathlib.Core.Path.{refl, sym, ◌∙◌}
use native.Mathlib.Omega.{arith}
use Rattle.monitor.proofs.Calls.{refused_told, call_accepted}
use Rattle.listing.specs.Listing.{assemble_call, no_list_call}
use Rattle.listing.proofs.Assembled.{kept_number_lem, kept_few, kept_bytes_lem, list_promise, other_promise}
use Rattle.listing.proofs.assemble.Goals as goal

pub returns-in_err-read : goal.returns-in_err-read
returns-in_err-read c =
    let none = c.in_err-read.ensures in
    other_promise none.1 (refused_told no_list_call _ refl _ _ c.from_residual.ensures.1 (rw none.0 refl))

pub returns-in_err-check_lines : goal.returns-in_err-check_lines
returns-in_err-check_lines c =
    let kept = c.in_ok-read.ensures in
    let room = c.read_text.auto.program in
    list_promise kept room
    (refused_told (assemble_call kept.list) _ refl _ _ c.from_residual-in_err-check_lines.ensures.1 (c.in_err-check_lines.ensures ∙ kept_number_lem kept room))

-- an accepted list: its lines are few, and their bytes stand at the front

pub overflow_mul-program : goal.overflow_mul-program
overflow_mul-program c = omega (arith, kept_few c.in_ok-read.ensures c.read_text.auto.program (sym c.in_ok-check_lines.ensures))

pub returns : goal.returns
returns c =
    let kept = c.in_ok-read.ensures in
    let room = c.read_text.auto.program in
    let none = sym c.in_ok-check_lines.ensures in
    list_promise kept room
    (call_accepted (assemble_call kept.list) c.args.out.now refl (sym (kept_number_lem kept room) ∙ none) (kept_bytes_lem kept room none) refl c.write_answer.ensures)
