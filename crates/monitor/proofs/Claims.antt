-- The claims of specs/Claims.antt, inhabited.
use Prim.Native.Nat.{ℕ, ◌+◌, ◌≤◌}
use mathlib.Core.Logic.{◌≢◌}
use mathlib.Core.Path.{◌≡◌, refl, ap, ◌∙◌}
use mathlib.Core.Bool.{true}
use mathlib.Core.List.{List}
use native.Mathlib.Omega.{arith}
use borrow.Author.Tests.{le-leb, lt-leb}
use lib.Dec.{leb}
use lib.ListN.{length}
use Rattle.wire.specs.Output.{overwrite}
use Rattle.wire.proofs.Lists.{length_nil}
use Rattle.label.specs.Label.{is_subset}
use Rattle.machine.specs.Limits.{highest_label, highest_slot, longest_image, turn_limit}
use Rattle.machine.specs.State.{Task, Slot, unused, used, State, slot_at}
use Rattle.machine.specs.Valid.{Valid}
use Rattle.machine.specs.View.{view_by}
use Rattle.machine.specs.Post.{host_message, post}
use Rattle.machine.specs.Machine.{turns, view}
use Rattle.machine.proofs.Post.{deliver_more}
use Rattle.machine.proofs.Machine.{turns_valid, view_valid, post_valid, turns_version, view_15}
use Rattle.machine.proofs.Clearance.{AllApart, turns_apart, post_apart, valid_apart, apart_within}
use Rattle.image.specs.Refusal.{unless}
use Rattle.image.specs.Image.{state_of, image_bytes}
use Rattle.image.proofs.Refusal.{then_holds, unless_holds, listed_not}
use Rattle.image.proofs.Image.{accepted_length, image_listed, image_forth, record_part_lem, record_above, record_refused, record_inside}
use Rattle.image.proofs.Image.{extent_none, extent_some, extent_told, extent_within}
use Rattle.monitor.specs.Calls.{rewrite_call, turns_call, post_call, view_call}
use Rattle.monitor.specs.CallList.{final_image}
use Rattle.monitor.specs.Claims.{NumbersAreListed, LimitsAreRefused, NoneInAnyOtherEvent, OthersAreAccepted, CallsWriteTheirAnswer, PostsTellDelivery, RecordIsItsPart}
use Rattle.monitor.specs.Claims.{ImageLengths, ReadThenWrite, WriteThenRead, ViewIsAccepted, ViewFor15, VersionIsKept, Cleared, ClearancesHold, ProgramInEveryView, Secrecy, EqualViewsAreEqualBytes}
use Rattle.monitor.specs.Claims.{TurnsOfViews, ViewsOfViews, PostsToViews, ListsFromViews}
use Rattle.monitor.proofs.Calls.{limit_number, observer_number_lem, post_number_lem, post_none, slot_given, label_given, accepted_exactly}
use Rattle.monitor.proofs.Calls.{argument_exactly, numbers_by_cause, limit_exactly, output_accepted, writes_its_answer, number_holds, observer_listed}
use Rattle.monitor.proofs.Posts.{refused_drops, accepted_tells}
use Rattle.monitor.proofs.Secrecy as Secrecy
use Rattle.monitor.proofs.CallList.{read_valid, rewritten, written_accepted, view_accepted, view_state, final_accepted, calls_keep}
use Rattle.monitor.proofs.Secrecy.{equal_bytes, equal_views}
use Rattle.monitor.proofs.Desk.{runs_ahead, common_view, posts_in_view, lists_from_view}

-- a number that a post may tell
abbrev OfPost : ℕ → Type 0
OfPost x = (x ≤ 15) × (x ≢ 1) × (x ≢ 2)

of_0 : OfPost 0
of_0 = (omega arith, λ e. omega arith, λ e. omega arith)

pub numbers_are_listed : NumbersAreListed
numbers_are_listed image out =
    let i = image_listed image in
    let not_1 = listed_not _ 1 i (omega arith) (omega arith) in
    let not_2 = listed_not _ 2 i (omega arith) (omega arith) in (
      (i.most, not_1, not_2),
      number_holds (rewrite_call image) out (λ x. (x ≤ 13) × (x ≢ 1) × (x ≢ 2))
          (omega arith, λ e. omega arith, λ e. omega arith) (omega (arith, i.most), not_1, not_2)
          (omega arith, λ e. omega arith, λ e. omega arith) (omega arith, λ e. omega arith, λ e. omega arith),
      λ n. number_holds (turns_call n image) out (λ x. (x ≤ 13) × (x ≢ 1))
          (unless_holds (λ x. (x ≤ 13) × (x ≢ 1)) (leb n turn_limit) 2 (omega arith, λ e. omega arith) (omega arith, λ e. omega arith))
          (omega (arith, i.most), not_1) (omega arith, λ e. omega arith) (omega arith, λ e. omega arith),
      λ v. observer_listed (view_call v image) out i v refl,
      λ slot label value. number_holds (post_call slot label value image) out OfPost
          (then_holds OfPost (unless (leb slot highest_slot) 14) (unless (leb label highest_label) 15)
          (unless_holds OfPost (leb slot highest_slot) 14 of_0 (omega arith, λ e. omega arith, λ e. omega arith))
          (unless_holds OfPost (leb label highest_label) 15 of_0 (omega arith, λ e. omega arith, λ e. omega arith)))
          (omega (arith, i.most), not_1, not_2) of_0 (omega arith, λ e. omega arith, λ e. omega arith),
    )

pub limits_are_refused : LimitsAreRefused
limits_are_refused image out = (
  λ v. limit_exactly (view_call v image) out (image_listed image) v highest_label 1 refl (omega arith) (λ low high. omega arith),
  λ n. limit_exactly (turns_call n image) out (image_listed image) n turn_limit 2 refl (omega arith) (λ low high. omega arith),
  λ slot label value.
      let told_14 = argument_exactly (post_call slot label value image) out (image_listed image) 14 (omega arith) (λ low high. omega arith) in
      let told_15 = argument_exactly (post_call slot label value image) out (image_listed image) 15 (omega arith) (λ low high. omega arith) in (
        (λ e. slot_given slot label (told_14.0 e), λ h. told_14.1 (rw (lt-leb slot highest_slot h))),
        (λ e. label_given slot label (told_15.0 e), λ h. told_15.1 (rw (le-leb slot highest_slot h.0, lt-leb label highest_label h.1))),
      ),
)

pub none_in_any_other_event : NoneInAnyOtherEvent
none_in_any_other_event image out = (
  numbers_by_cause (rewrite_call image) out (λ low high. omega arith) (image_listed image),
  λ n. numbers_by_cause (turns_call n image) out (limit_number n turn_limit 2 (λ low high. omega arith)) (image_listed image),
  λ v. numbers_by_cause (view_call v image) out (observer_number_lem v) (image_listed image),
  λ slot label value. numbers_by_cause (post_call slot label value image) out (post_number_lem slot label) (image_listed image),
)

-- a valid state's image has at most 7,812 bytes
room : (s : State) → Valid s → (out : List ℕ) → longest_image ≤ length out → length (image_bytes s) ≤ length out
room s ok out h = omega (arith, accepted_length (image_bytes s) (written_accepted s ok).number)

pub others_are_accepted : OthersAreAccepted
others_are_accepted image out a h =
    let s = state_of image in
    let ok = read_valid image a in (
      (accepted_exactly (rewrite_call image) out).1 (refl, a.number, room s ok out h),
      λ n l. (accepted_exactly (turns_call n image) out).1 (rw (le-leb n turn_limit l), a.number, room (turns n s) (turns_valid n s ok) out h),
      λ v l. (accepted_exactly (view_call v image) out).1 (rw (le-leb v highest_label l), a.number, room (view v s) (view_valid v s ok) out h),
      λ slot label value j l x. (accepted_exactly (post_call slot label value image) out).1
          (post_none slot label j l, a.number, room (post slot label value s) (post_valid slot label value l x s ok) out h),
    )

pub calls_write_their_answer : CallsWriteTheirAnswer
calls_write_their_answer = writes_its_answer

pub posts_tell_delivery : PostsTellDelivery
unfolding post
posts_tell_delivery slot label value image out =
    record {
      refused = refused_drops slot label value image out;
      accepted = λ e. accepted_tells slot label value image out e ∙ deliver_more (host_message label value) (state_of image).slots slot;
    }

pub record_is_its_part : RecordIsItsPart
record_is_its_part image slot =
    record {
      inside = record_inside image slot;
      bytes = λ a l. record_part_lem image slot a.bytes a.number l;
      above = record_above image slot;
      refused = record_refused image slot;
      told = extent_told image slot;
      within = extent_within image slot;
      empty = λ e. rw (extent_none image slot (ap length e)) (refl, refl);
      start = λ h. rw (extent_some image slot (λ e. h (length_nil _ e)));
    }

pub image_lengths : ImageLengths
image_lengths image a = accepted_length image a.number

pub read_then_write : ReadThenWrite
read_then_write image a =
    let c = rewrite_call image in
    let same = rewritten image a in (
      read_valid image a,
      same,
      λ out h. output_accepted c out ((accepted_exactly c out).1 (refl, a.number, rw same h)) ∙ ap (λ (b : List ℕ). overwrite b out) same,
    )

pub write_then_read : WriteThenRead
write_then_read s ok = (written_accepted s ok, image_forth s ok)

pub view_is_accepted : ViewIsAccepted
view_is_accepted v image a = view_accepted image a v

pub view_for_15 : ViewFor15
view_for_15 image a = ap image_bytes (view_15 (state_of image) (read_valid image a)) ∙ rewritten image a

pub program_in_every_view : ProgramInEveryView
unfolding state_of view_by
program_in_every_view v image a =
    let read = view_state image a v in
    (ap (λ (r : State). r.program) read, ap (λ (r : State). r.turn_slot) read)

pub version_is_kept : VersionIsKept
unfolding state_of view_by post
version_is_kept image a =
    let s = state_of image in (
      λ v. ap (λ (r : State). r.version) (view_state image a v),
      λ calls p. calls_keep (λ (r : State). r.version ≡ s.version) (λ n r h. turns_version n r ∙ h) (λ slot label value r h. h) calls image a p refl,
    )

pub clearances_hold : ClearancesHold
clearances_hold image a s t at calls p d l =
    let last = s + t.spare in
    let c = t.clearance in
    let end = state_of (final_image calls image) in
    let apart = calls_keep (λ (r : State). AllApart s last c r.slots) (turns_apart s last c) (post_apart s last c) calls image a p (valid_apart (state_of image) (read_valid image a) s t at) in
    let ok = read_valid (final_image calls image) (final_accepted calls image a p) in
    each (slot_at end.slots (s + d)) (λ u e. apart_within s last c end ok apart (s + d) (omega arith) (omega arith) u e)
  where
    each : (x : Slot) → ((u : Task) → x ≡ used u → (u.clearance ≡ t.clearance) × (is_subset u.label t.clearance ≡ true)) → Cleared t.clearance x
    each unused h = tt
    each (used u) h = h u refl

pub secrecy : Secrecy
secrecy v seen image image' a a' e = Secrecy.secrecy v image image' a a' e seen

pub equal_views_are_equal_bytes : EqualViewsAreEqualBytes
equal_views_are_equal_bytes v seen image image' a a' = (equal_bytes v seen image image', equal_views v seen image image' a a')

pub turns_of_views : TurnsOfViews
turns_of_views v n image seen limit a = runs_ahead v image seen a n limit

pub views_of_views : ViewsOfViews
views_of_views v w image seen seen' a = common_view v image seen a w seen'

pub posts_to_views : PostsToViews
posts_to_views = posts_in_view

pub lists_from_views : ListsFromViews
lists_from_views = lists_from_view
