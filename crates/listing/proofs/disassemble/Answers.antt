-- `listing::disassemble` meets its contract: the listing of an accepted program is made in a buffer that is long enough, and copied.
use mathlib.Core.Path.{◌≡◌, refl, sym}
use mathlib.Core.List.{List}
use Prim.Native.Nat.{ℕ}
use lib.ListN.{take}
use Rattle.wire.proofs.Lists.{IsByte, every_of}
use Rattle.wire.proofs.Output.{written_front}
use Rattle.monitor.proofs.Calls.{refused_told, call_accepted}
use Rattle.listing.specs.Listing.{listing_text, lines_of, disassemble_call}
use Rattle.listing.proofs.Lengths.{listing_most}
use Rattle.listing.proofs.disassemble.Goals as goal

pub returns-in_err-check_program : goal.returns-in_err-check_program
returns-in_err-check_program c =
    refused_told (disassemble_call c.args.program.now) _ refl _ _ c.from_residual.ensures.1 c.in_err-check_program.ensures

pub put_lines-n-requires : goal.put_lines-n-requires
put_lines-n-requires c =
    let program = c.args.program.now in
    listing_most program (every_of IsByte 0 program (λ i. (c.type_inv.program i).fits)) (sym c.in_ok-check_program.ensures)

pub returns : goal.returns
returns c =
    let text : List ℕ = listing_text (lines_of c.args.program.now) in
    let front : take c.put_lines-n.result c.put_lines-n.new.out ≡ text = written_front text _ _ (sym c.put_lines-n.ensures.0) c.put_lines-n.ensures.1 in
    call_accepted (disassemble_call c.args.program.now) c.args.out.now refl (sym c.in_ok-check_program.ensures) front refl c.write_answer.ensures
