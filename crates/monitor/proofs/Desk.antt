-- Working from a view: what calls that went well wrote, and what an owner's desk shows of turns, views and posts.
use Prim.Native.Nat.{ℕ, ◌^◌, ◌<◌, ◌≤◌}
use mathlib.Core.Path.{◌≡◌, refl, sym, ap, ◌∙◌}
use mathlib.Core.Bool.{true, false}
use mathlib.Core.List.{List}
use native.Mathlib.Nat.{le_trans}
use borrow.Author.Tests.{le-leb}
use lib.Bits.{bit_and, and_le_l}
use lib.ListN.{length}
use Rattle.label.specs.Label.{flows}
use Rattle.machine.specs.Limits.{highest_label, highest_slot, turn_limit}
use Rattle.machine.specs.State.{State}
use Rattle.machine.specs.Post.{post}
use Rattle.machine.specs.Machine.{turns, view}
use Rattle.machine.proofs.Machine.{turns_view, post_shown, post_hidden, view_common, view_either, view_twice}
use Rattle.image.specs.Image.{state_of, image_bytes}
use Rattle.monitor.specs.Calls.{Call, call_answer, turns_bytes, turns_call, post_bytes, post_call, view_bytes, view_call}
use Rattle.monitor.specs.CallList.{HostCall, final_image, Agree, KeptPromises}
use Rattle.monitor.specs.Claims.{Accepted, EqualViews, Made, wrote, SameAnswer, RunsAhead, CommonView, PostsInView}
use Rattle.monitor.proofs.Calls.{observer_none, post_none, accepted_exactly, accepted_answer, bytes_written}
use Rattle.monitor.proofs.CallList.{read_valid, view_accepted, view_state, turns_accepted, turns_state, post_accepted, post_state}
use Rattle.monitor.proofs.Secrecy.{secrecy}

-- ---- a call with arguments within their limits, of what is accepted

module _ {c : Call} (m : Made c) (argument : c.argument_number ≡ 0) (input : c.input_number ≡ 0) where
  answered_0 : (call_answer c m.out).number ≡ 0
  answered_0 = (accepted_exactly c m.out).1 (argument, input, m.room)

  made_told : m.told ≡ record { number = 0; length = length c.bytes; busy = c.busy }
  made_told = m.kept.0 ∙ accepted_answer c m.out answered_0

  made_wrote : wrote m ≡ c.bytes
  made_wrote = rw (m.kept.0, m.kept.1) (bytes_written c m.out argument input m.room)

  made_number : m.told.number ≡ 0
  made_number = rw made_told

-- two such calls with the same bytes and busy count
module _ {c c' : Call} (m : Made c) (m' : Made c') (argument : c.argument_number ≡ 0) (input : c.input_number ≡ 0)
    (argument' : c'.argument_number ≡ 0) (input' : c'.input_number ≡ 0) (bytes : c.bytes ≡ c'.bytes) (busy : c.busy ≡ c'.busy) where
  same_answer : SameAnswer m m'
  same_answer = record {
    accepted = made_number m argument input;
    told = made_told m argument input ∙ rw (bytes, busy) (sym (made_told m' argument' input'));
    bytes = made_wrote m argument input ∙ bytes ∙ sym (made_wrote m' argument' input');
  }

-- ---- the laws of bytes

module _ (image : List ℕ) (a : Accepted image) where
  turns_of_view : (v n : ℕ) → view_bytes v (turns_bytes n (view_bytes v image)) ≡ view_bytes v (turns_bytes n image)
  turns_of_view v n =
      ap image_bytes
      (ap (view v) (turns_state (view_bytes v image) (view_accepted image a v) n ∙ ap (turns n) (view_state image a v))
      ∙ turns_view v n (state_of image) (read_valid image a)
      ∙ ap (view v) (sym (turns_state image a n)))

  -- a view of a view, by what the machine's laws say of it
  view_of_view : (v w : ℕ) (s : State) → view w (view v (state_of image)) ≡ s → view_bytes w (view_bytes v image) ≡ image_bytes s
  view_of_view v w s e = ap image_bytes (ap (view w) (view_state image a v) ∙ e)

  common_bytes : (v w : ℕ) → view_bytes w (view_bytes v image) ≡ view_bytes (bit_and v w) image
  common_bytes v w = view_of_view v w _ (view_common v w (state_of image))

  either_bytes : (v w : ℕ) → view_bytes w (view_bytes v image) ≡ view_bytes v (view_bytes w image)
  either_bytes v w = view_of_view v w _ (view_either v w (state_of image)) ∙ sym (view_of_view w v _ refl)

  twice_bytes : (v : ℕ) → view_bytes v (view_bytes v image) ≡ view_bytes v image
  twice_bytes v = view_of_view v v _ (view_twice v (state_of image))

  module _ (v slot label value : ℕ) (low : label ≤ highest_label) (fits : value < 2 ^ 32) where
    seen_bytes : flows label v ≡ true → post_bytes slot label value (view_bytes v image) ≡ view_bytes v (post_bytes slot label value image)
    seen_bytes seen =
        ap image_bytes
        (ap (post slot label value) (view_state image a v)
        ∙ sym (post_shown v slot label value seen (state_of image))
        ∙ ap (view v) (sym (post_state image a slot label value low fits)))

    hidden_bytes : flows label v ≡ false → view_bytes v (post_bytes slot label value image) ≡ view_bytes v image
    hidden_bytes unseen =
        ap image_bytes (ap (view v) (post_state image a slot label value low fits) ∙ post_hidden v slot label value unseen (state_of image))

-- ---- calls as they went: of an accepted image each writes its bytes, which are an accepted image again

-- what such a call leaves, which is to write these bytes
record Leaves {c : Call} (m : Made c) (bytes : List ℕ) : Type 0 where
  wrote_bytes : wrote m ≡ bytes
  accepted : Accepted (wrote m)

module _ {c : Call} (m : Made c) (argument : c.argument_number ≡ 0) (input : c.input_number ≡ 0) where
  leaves : Accepted c.bytes → Leaves m c.bytes
  leaves a = record {
    wrote_bytes = made_wrote m argument input;
    accepted = rw (made_wrote m argument input) a;
  }

module _ (image : List ℕ) (a : Accepted image) where
  view_leaves : (v : ℕ) → v ≤ highest_label → (m : Made (view_call v image)) → Leaves m (view_bytes v image)
  view_leaves v seen m = leaves m (observer_none v seen) a.number (view_accepted image a v)

  turns_leaves : (n : ℕ) → n ≤ turn_limit → (m : Made (turns_call n image)) → Leaves m (turns_bytes n image)
  turns_leaves n limit m = leaves m (rw (le-leb n turn_limit limit)) a.number (turns_accepted image a n)

  post_leaves : (slot label value : ℕ) → slot ≤ highest_slot → label ≤ highest_label → value < 2 ^ 32 → (m : Made (post_call slot label value image))
      → Leaves m (post_bytes slot label value image)
  post_leaves slot label value j l fits m = leaves m (post_none slot label j l) a.number (post_accepted image a slot label value l fits)

-- two view calls whose views are the same bytes
views_answer : (v w : ℕ) → v ≤ highest_label → w ≤ highest_label → (image image' : List ℕ) → Accepted image → Accepted image'
    → (m : Made (view_call v image)) (m' : Made (view_call w image')) → view_bytes v image ≡ view_bytes w image' → SameAnswer m m'
views_answer v w seen seen' image image' a a' m m' e =
    same_answer m m' (observer_none v seen) a.number (observer_none w seen') a'.number e refl

-- ---- the claims

module _ (v : ℕ) (image : List ℕ) (seen : v ≤ highest_label) (a : Accepted image) where
  sent_leaves : (m : Made (view_call v image)) → Leaves m (view_bytes v image)
  sent_leaves = view_leaves image a v seen

  pub runs_ahead : (n : ℕ) → n ≤ turn_limit → RunsAhead v n image
  runs_ahead n limit = record {
    bytes = turns_of_view image a v n;
    calls = λ sent ahead again run shown.
        let s = sent_leaves sent in
        let d = turns_leaves (wrote sent) s.accepted n limit ahead in
        let r = turns_leaves image a n limit run in
        let same : view_bytes v (wrote ahead) ≡ view_bytes v (wrote run)
        = ap (view_bytes v) (d.wrote_bytes ∙ ap (turns_bytes n) s.wrote_bytes) ∙ turns_of_view image a v n ∙ ap (view_bytes v) (sym r.wrote_bytes) in
        views_answer v v seen seen (wrote ahead) (wrote run) d.accepted r.accepted again shown same;
  }

  pub common_view : (w : ℕ) → w ≤ highest_label → CommonView v w image
  common_view w seen' =
      record {
        common = common_bytes image a v w;
        common_calls = λ first second direct.
            views_answer w (bit_and v w) seen' (le_trans (and_le_l v w) seen) (wrote first) image (sent_leaves first).accepted a second direct
            (ap (view_bytes w) (sent_leaves first).wrote_bytes ∙ common_bytes image a v w);
        either = either_bytes image a v w;
        either_calls = λ first second first' second'.
            views_answer w v seen' seen (wrote first) (wrote first') (sent_leaves first).accepted (view_leaves image a w seen' first').accepted second second'
            (ap (view_bytes w) (sent_leaves first).wrote_bytes ∙ either_bytes image a v w ∙ ap (view_bytes v) (sym (view_leaves image a w seen' first').wrote_bytes));
        twice = twice_bytes image a v;
        twice_calls = λ first second.
            views_answer v v seen seen (wrote first) image (sent_leaves first).accepted a second first (ap (view_bytes v) (sent_leaves first).wrote_bytes ∙ twice_bytes image a v);
      }

  pub posts_in_view : PostsInView v image
  posts_in_view = record {
    seen = λ slot label value l fits h. seen_bytes image a v slot label value l fits h;
    seen_calls = λ slot label value j l fits h sent on_desk on_host shown.
        let s = sent_leaves sent in
        let r = post_leaves image a slot label value j l fits on_host in
        same_answer on_desk shown (post_none slot label j l) s.accepted.number (observer_none v seen) r.accepted.number
        (ap (post_bytes slot label value) s.wrote_bytes ∙ seen_bytes image a v slot label value l fits h ∙ ap (view_bytes v) (sym r.wrote_bytes)) refl;
    hidden = λ slot label value l fits h. hidden_bytes image a v slot label value l fits h;
  }

  -- the secrecy rule of the view and the image: a view shows what its own view shows
  pub lists_from_view : (sent : Made (view_call v image)) (desk host : List HostCall) → KeptPromises desk (wrote sent) → KeptPromises host image
      → Agree v desk host → EqualViews v (final_image desk (wrote sent)) (final_image host image)
  lists_from_view sent =
      let s = sent_leaves sent in
      secrecy v (wrote sent) image s.accepted a (ap (view_bytes v) s.wrote_bytes ∙ twice_bytes image a v) seen
