-- `sheet::write` meets its contract: an accepted image is loaded, and the sheet of the table's tasks written.
use Prim.Native.Nat.{ℕ}
use mathlib.Core.Path.{refl, sym, ap, ◌∙◌}
use Rattle.wire.proofs.Lists.{IsByte, every_of}
use Rattle.image.specs.Image.{state_of}
use Rattle.monitor.proofs.Calls.{beyond_told, refused_told, call_accepted}
use Rattle.sheet.specs.Sheet.{sheet_bytes}
use Rattle.sheet.proofs.Sheet.{sheet_shown, sheet_fits}
use Rattle.sheet.proofs.write.Goals as goal

-- an observer above 15
pub returns-in_err-observer : goal.returns-in_err-observer
returns-in_err-observer c = beyond_told _ _ c.from_residual.result _ c.from_residual.ensures.1 c.in_err-observer.ensures.0

-- a refused image
pub returns-in_err-check : goal.returns-in_err-check
returns-in_err-check c =
    let r = c.from_residual-in_err-check in
    refused_told _ _ (sym c.in_ok-observer.ensures.0) r.result _ r.ensures.1 c.in_err-check.ensures

pub write_answer-requires : goal.write_answer-requires
write_answer-requires c =
    let image = c.args.image.now in
    let v = c.in_ok-observer.observer in
    let bytes = every_of IsByte 0 image (λ i. (c.type_inv.image i).fits) in
    rw (sheet_shown v c.load.new.table (state_of image) c.load.ensures) (sheet_fits v image bytes (sym c.in_ok-check.ensures))

pub returns : goal.returns
returns c =
    let image = c.args.image.now in
    let v = c.in_ok-observer.observer in
    let same = sheet_shown v c.load.new.table (state_of image) c.load.ensures in
    let seen = ap (λ (v : ℕ). sheet_bytes v image) c.in_ok-observer.ensures.1 in
    call_accepted _ _ (sym c.in_ok-observer.ensures.0) (sym c.in_ok-check.ensures) (same ∙ seen) refl c.write_answer.ensures
