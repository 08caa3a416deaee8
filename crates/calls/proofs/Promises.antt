-- The claims are about the code: the code of each call, called with any arguments, keeps the promise that the claims name.
use mathlib.Core.Path.{◌≡◌}
use Rattle.wire.specs.Slices.{offset_by}
use Rattle.refusal.specs.Refusal.{number}
use Rattle.image.specs.Refusal.{image_number}
use Rattle.image.specs.Part.{record_part, record_extent}
use Rattle.monitor.specs.Calls.{as_answer, as_post_answer, CallPromise, rewrite_call, turns_call, PostPromise, view_call}
use Rattle.monitor.proofs.Keeps.{Keeps, image_of, slot_number_of, count_of, observer_of, output_of, label_of, value_of, post_output_of, sole_output_of}
use Rattle.calls.specs.contracts.check as Check
use Rattle.calls.proofs.check.Symbol as CheckCode
use Rattle.calls.proofs.check.Met as CheckMet
use Rattle.calls.specs.contracts.record as Record
use Rattle.calls.proofs.record.Symbol as RecordCode
use Rattle.calls.proofs.record.Met as RecordMet
use Rattle.calls.specs.contracts.record_extent as RecordExtent
use Rattle.calls.proofs.record_extent.Symbol as RecordExtentCode
use Rattle.calls.proofs.record_extent.Met as RecordExtentMet
use Rattle.calls.specs.contracts.rewrite as Rewrite
use Rattle.calls.proofs.rewrite.Symbol as RewriteCode
use Rattle.calls.proofs.rewrite.Met as RewriteMet
use Rattle.calls.specs.contracts.turns as Turns
use Rattle.calls.proofs.turns.Symbol as TurnsCode
use Rattle.calls.proofs.turns.Met as TurnsMet
use Rattle.calls.specs.contracts.post as Post
use Rattle.calls.proofs.post.Symbol as PostCode
use Rattle.calls.proofs.post.Met as PostMet
use Rattle.calls.specs.contracts.view as View
use Rattle.calls.proofs.view.Symbol as ViewCode
use Rattle.calls.proofs.view.Met as ViewMet

module _ {M : Type 1} where
  pub check_keeps : Keeps M Check.ended CheckCode.code CheckCode.name (λ κs a r e. number r ≡ image_number (image_of a).now)
  check_keeps = CheckMet.met

  pub record_keeps : Keeps M Record.ended RecordCode.code RecordCode.name
      (λ κs a r e. (r.now ≡ record_part (image_of a).now (slot_number_of a))
      × (r.ref_ptr ≡ offset_by (record_extent (image_of a).now (slot_number_of a)).start (image_of a).ref_ptr))
  record_keeps = RecordMet.met

  pub record_extent_keeps : Keeps M RecordExtent.ended RecordExtentCode.code RecordExtentCode.name (λ κs a r e. r ≡ record_extent (image_of a).now (slot_number_of a))
  record_extent_keeps = RecordExtentMet.met

  pub rewrite_keeps : Keeps M Rewrite.ended RewriteCode.code RewriteCode.name
      (λ κs a r e. CallPromise (rewrite_call (image_of a).now) (sole_output_of a).now (as_answer r) (sole_output_of e).now)
  rewrite_keeps = RewriteMet.met

  pub turns_keeps : Keeps M Turns.ended TurnsCode.code TurnsCode.name
      (λ κs a r e. CallPromise (turns_call (count_of a) (image_of a).now) (output_of a).now (as_answer r) (output_of e).now)
  turns_keeps = TurnsMet.met

  pub post_keeps : Keeps M Post.ended PostCode.code PostCode.name
      (λ κs a r e. PostPromise (slot_number_of a) (label_of a) (value_of a) (image_of a).now (post_output_of a).now (as_post_answer r) (post_output_of e).now)
  post_keeps = PostMet.met

  pub view_keeps : Keeps M View.ended ViewCode.code ViewCode.name
      (λ κs a r e. CallPromise (view_call (observer_of a) (image_of a).now) (output_of a).now (as_answer r) (output_of e).now)
  view_keeps = ViewMet.met
