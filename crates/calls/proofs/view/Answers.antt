-- `calls::view` meets its contract: an accepted image is loaded, and written for the observer.
use Prim.Native.Nat.{ℕ}
use mathlib.Core.Path.{refl, sym, ap, ◌∙◌}
use Rattle.snapshot.specs.Writing.{snapshot_bytes}
use Rattle.monitor.specs.Calls.{view_bytes}
use Rattle.monitor.proofs.Calls.{beyond_told, refused_told, call_accepted}
use Rattle.calls.proofs.Pipeline.{view_written}
use Rattle.calls.proofs.view.Goals as goal

-- an observer above 15
pub returns-in_err-observer : goal.returns-in_err-observer
returns-in_err-observer c = beyond_told _ _ c.from_residual.result _ c.from_residual.ensures.1 c.in_err-observer.ensures.0

-- a refused image
pub returns-in_err-check : goal.returns-in_err-check
returns-in_err-check c =
    let r = c.from_residual-in_err-check in
    refused_told _ _ (sym c.in_ok-observer.ensures.0) r.result _ r.ensures.1 c.in_err-check.ensures

pub returns : goal.returns
returns c =
    let image = c.args.image.now in
    let words = c.load.new.table in
    let v = c.in_ok-observer.observer in
    let seen = c.in_ok-observer.ensures.1 in
    let same =
    ap (λ (s : ℕ). snapshot_bytes words image s v) c.turn_slot-turn.ensures ∙ view_written image words v c.load.ensures in
    call_accepted _ _ (sym c.in_ok-observer.ensures.0) (sym c.in_ok-check.ensures) (same ∙ ap (λ (v : ℕ). view_bytes v image) seen) refl c.write_answer.ensures
