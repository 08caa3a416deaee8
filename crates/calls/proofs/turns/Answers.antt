-- `calls::turns` meets its contract: an accepted image is loaded, its turns are carried out, and it is written for label 15.
use mathlib.Core.Path.{◌≡◌, sym, ap, ◌∙◌}
use Rattle.wire.specs.Lists.{Bytes}
use Rattle.wire.proofs.Lists.{IsByte, every_of}
use Rattle.machine.proofs.Valid.{with_version}
use Rattle.image.specs.Image.{state_of}
use Rattle.image.specs.Refusal.{image_number}
use Rattle.snapshot.specs.Writing.{snapshot_bytes}
use Rattle.turn.specs.declared.RunAnswer.{RunAnswer}
use Rattle.turn.specs.Answer.{running}
use Rattle.monitor.proofs.Calls.{beyond_told, refused_told, call_accepted}
use Rattle.calls.proofs.Pipeline.{state_loaded, loaded_valid, ran_as, turns_written}
use Rattle.calls.proofs.turns.Goals as goal

-- more than 1,000,000 turns
pub returns-in_err-check_count : goal.returns-in_err-check_count
returns-in_err-check_count c = beyond_told _ _ c.from_residual.result _ c.from_residual.ensures.1 c.in_err-check_count.ensures

-- a refused image
pub returns-in_err-check : goal.returns-in_err-check
returns-in_err-check c =
    let r = c.from_residual-in_err-check in
    refused_told _ _ (sym c.in_ok-check_count.ensures) r.result _ r.ensures.1 c.in_err-check.ensures

pub turns-ran-requires : goal.turns-ran-requires
turns-ran-requires c =
    let image = c.args.image.now in
    let all : Bytes image = every_of IsByte 0 image (λ i. (c.type_inv.image i).fits) in
    let same : running c.program.result.now c.turn_slot-turn.result c.load.new.table ≡ with_version 2 (state_of image) =
    state_loaded image _ _ _ c.program.ensures c.turn_slot-turn.ensures c.load.ensures in
    loaded_valid image all (sym c.in_ok-check.ensures) same

pub returns : goal.returns
returns c =
    let image = c.args.image.now in
    let all : Bytes image = every_of IsByte 0 image (λ i. (c.type_inv.image i).fits) in
    let accepted : image_number image ≡ 0 = sym c.in_ok-check.ensures in
    let same : running c.program.result.now c.turn_slot-turn.result c.load.new.table ≡ with_version 2 (state_of image) =
    state_loaded image _ _ _ c.program.ensures c.turn_slot-turn.ensures c.load.ensures in
    let r = c.turns-ran in
    let n = c.args.count in
    let told_as = ran_as n image same in
    let told = r.ensures.0 ∙ told_as.0 in
    let ran = r.ensures.1 ∙ told_as.1 in
    let written = ap (λ (x : RunAnswer). snapshot_bytes r.new.table image x.turn 15) told ∙ turns_written image all r.new.table accepted n ran in
    call_accepted _ _ (sym c.in_ok-check_count.ensures) accepted written (ap (λ (x : RunAnswer). x.busy) told) c.write_answer.ensures
