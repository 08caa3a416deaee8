-- `calls::post` meets its contract: an accepted image is loaded, the message is delivered or dropped, and it is written for label 15.
use Prim.Native.Nat.{ℕ, ◌^◌, ◌<◌, ◌≤◌}
use mathlib.Core.Path.{◌≡◌, refl, sym, ap, ◌∙◌}
use mathlib.Core.Bool.{Bool}
use mathlib.Core.List.{List}
use native.Mathlib.Omega.{arith}
use Rattle.wire.specs.Lists.{Bytes}
use Rattle.wire.proofs.Lists.{IsByte, every_of}
use Rattle.machine.specs.Limits.{highest_label}
use Rattle.machine.specs.State.{Slot}
use Rattle.machine.specs.Effect.{deliver}
use Rattle.machine.specs.Turn.{perform}
use Rattle.machine.specs.Post.{host_message, has_more, delivered}
use Rattle.machine.specs.Post as Post
use Rattle.image.specs.Image.{turn_slot_of, state_of, image_bytes}
use Rattle.image.specs.Refusal.{post_number, image_number}
use Rattle.table.specs.declared.Table.{Table}
use Rattle.table.specs.Table.{slots_in}
use Rattle.snapshot.specs.Writing.{snapshot_bytes}
use Rattle.effect.proofs.Effects.{valid_room}
use Rattle.image.proofs.Image.{accepted_valid}
use Rattle.monitor.proofs.Calls.{post_within, call_accepted}
use Rattle.monitor.proofs.Posts.{post_told, post_refused, post_beyond, post_met}
use Rattle.calls.proofs.Pipeline.{post_written}
use Rattle.calls.proofs.post.Goals as goal

-- ---- a message delivered or dropped: what is written then, and which it was

module _ (slot label value : ℕ) (image : List ℕ) (all : Bytes image) (accepted : image_number image ≡ 0) (low : label ≤ highest_label)
    (fits : value < 2 ^ 32) (before after : Table) (loaded : slots_in before ≡ (state_of image).slots)
    (sent : slots_in after ≡ perform (deliver slot (host_message label value)) (slots_in before)) where
  posted : slots_in after ≡ (Post.post slot label value (state_of image)).slots
  unfolding Post.post
  posted = sent ∙ ap (perform (deliver slot (host_message label value))) loaded

  image_posted : {turn : ℕ} → turn ≡ turn_slot_of image
      → snapshot_bytes after image turn 15 ≡ image_bytes (Post.post slot label value (state_of image))
  image_posted same =
      ap (λ (t : ℕ). snapshot_bytes after image t 15) same ∙ post_written image all after accepted slot label value low fits posted

  joined : {more : Bool} → more ≡ has_more slot (slots_in before) (slots_in after) → more ≡ delivered slot label value (state_of image)
  unfolding Post.post
  joined is =
      is ∙ ap (λ (ss : List Slot). has_more slot ss (slots_in after)) loaded ∙ ap (has_more slot (state_of image).slots) posted

-- ---- the answers

-- arguments beyond their limits
pub returns-in_err-check_post : goal.returns-in_err-check_post
returns-in_err-check_post c =
    let a = c.args in
    let r = c.from_residual in
    post_beyond a.slot a.label a.value a.image.now a.out.now r.result _ r.ensures.1 c.in_err-check_post.ensures

-- a refused image
pub returns-in_err-check : goal.returns-in_err-check
returns-in_err-check c =
    let a = c.args in
    let r = c.from_residual-in_err-check in
    post_met a.slot a.label a.value a.image.now a.out.now r.result _ r.ensures.1 (sym c.in_ok-check_post.ensures) c.in_err-check.ensures

pub deliver-delivered-requires : goal.deliver-delivered-requires
deliver-delivered-requires c =
    let a = c.args in
    let image = a.image.now in
    let all : Bytes image = every_of IsByte 0 image (λ i. (c.type_inv.image i).fits) in
    let low : a.label ≤ highest_label = (post_within a.slot a.label (sym c.in_ok-check_post.ensures)).1 in
    rw c.load.ensures (valid_room (accepted_valid image all (sym c.in_ok-check.ensures)) a.slot a.label low)

-- an output too short
pub returns-in_err-written : goal.returns-in_err-written
returns-in_err-written c =
    let a = c.args in
    let image = a.image.now in
    let all : Bytes image = every_of IsByte 0 image (λ i. (c.type_inv.image i).fits) in
    let none : post_number a.slot a.label ≡ 0 = sym c.in_ok-check_post.ensures in
    let accepted : image_number image ≡ 0 = sym c.in_ok-check.ensures in
    let written = image_posted a.slot a.label a.value image all accepted (post_within a.slot a.label none).1 (omega arith) _ _
    c.load.ensures c.deliver-delivered.ensures.0 c.turn_slot-turn.ensures in
    let r = c.from_residual-in_err-written in
    post_refused a.slot a.label a.value image a.out.now r.result _ r.ensures.1 (call_accepted _ _ none accepted written refl c.in_err-written.ensures)

pub returns : goal.returns
returns c =
    let a = c.args in
    let image = a.image.now in
    let all : Bytes image = every_of IsByte 0 image (λ i. (c.type_inv.image i).fits) in
    let none : post_number a.slot a.label ≡ 0 = sym c.in_ok-check_post.ensures in
    let accepted : image_number image ≡ 0 = sym c.in_ok-check.ensures in
    let low : a.label ≤ highest_label = (post_within a.slot a.label none).1 in
    let d = c.deliver-delivered in
    let written = image_posted a.slot a.label a.value image all accepted low (omega arith) _ _ c.load.ensures d.ensures.0 c.turn_slot-turn.ensures in
    let told = joined a.slot a.label a.value image all accepted low (omega arith) _ _ c.load.ensures d.ensures.0 d.ensures.1 in
    post_told a.slot a.label a.value image a.out.now c.in_ok-written.written d.result
    (call_accepted _ _ none accepted written refl c.in_ok-written.ensures) told
