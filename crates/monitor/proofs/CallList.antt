-- What a call leaves of an accepted image, and a list of calls: an accepted image, whose state is what was carried out; and a fact
-- that turns and posts keep.
use Prim.Native.Nat.{ℕ, ◌^◌, ◌<◌, ◌≤◌}
use mathlib.Core.Path.{◌≡◌, refl, sym, ◌∙◌}
use mathlib.Core.Bool.{true, cond}
use mathlib.Core.List.{List, [], ◌∷◌}
use borrow.Author.Tests.{eqb-true}
use Rattle.wire.proofs.Lists.{split}
use Rattle.machine.specs.Limits.{highest_label}
use Rattle.machine.specs.State.{State}
use Rattle.machine.specs.Post.{post}
use Rattle.machine.specs.Valid.{Valid}
use Rattle.machine.specs.Machine.{turns, view}
use Rattle.machine.proofs.Machine.{turns_valid, view_valid, post_valid}
use Rattle.image.specs.Image.{state_of, image_bytes}
use Rattle.image.proofs.Image.{accepted_valid, image_back, image_bytes_lem, image_accepted, image_forth}
use Rattle.monitor.specs.Calls.{call_answer, turns_bytes, post_bytes, view_bytes}
use Rattle.monitor.specs.CallList.{Request, ask_turns, ask_post, HostCall, is_accepted, image_after, final_image, request_call, Fits, KeptPromise, KeptPromises}
use Rattle.monitor.specs.Claims.{Accepted}
use Rattle.monitor.proofs.Calls.{accepted_exactly, post_within, writes_its_answer}

-- ---- accepted images and valid states

pub read_valid : (image : List ℕ) → Accepted image → Valid (state_of image)
read_valid image a = accepted_valid image a.bytes a.number

pub rewritten : (image : List ℕ) → Accepted image → image_bytes (state_of image) ≡ image
rewritten image a = image_back image a.bytes a.number

pub written_accepted : (s : State) → Valid s → Accepted (image_bytes s)
written_accepted s ok = record { bytes = image_bytes_lem s ok; number = image_accepted s ok }

-- what views, turns and posts write of an accepted image: an accepted one, whose state is what was done

module _ (image : List ℕ) (a : Accepted image) where
  pub view_accepted : (v : ℕ) → Accepted (view_bytes v image)
  view_accepted v = written_accepted _ (view_valid v (state_of image) (read_valid image a))

  pub view_state : (v : ℕ) → state_of (view_bytes v image) ≡ view v (state_of image)
  view_state v = image_forth _ (view_valid v (state_of image) (read_valid image a))

  pub turns_accepted : (n : ℕ) → Accepted (turns_bytes n image)
  turns_accepted n = written_accepted _ (turns_valid n (state_of image) (read_valid image a))

  pub turns_state : (n : ℕ) → state_of (turns_bytes n image) ≡ turns n (state_of image)
  turns_state n = image_forth _ (turns_valid n (state_of image) (read_valid image a))

  module _ (slot label value : ℕ) (low : label ≤ highest_label) (fits : value < 2 ^ 32) where
    pub post_accepted : Accepted (post_bytes slot label value image)
    post_accepted = written_accepted _ (post_valid slot label value low fits (state_of image) (read_valid image a))

    pub post_state : state_of (post_bytes slot label value image) ≡ post slot label value (state_of image)
    post_state = image_forth _ (post_valid slot label value low fits (state_of image) (read_valid image a))

-- ---- what a call leaves

-- what a request does to the state
abbrev pub carried : Request → State → State
carried (ask_turns n) s = turns n s
carried (ask_post slot label value) s = post slot label value s

request_bytes : (r : Request) (image : List ℕ) → (request_call r image).bytes ≡ image_bytes (carried r (state_of image))
request_bytes (ask_turns n) image = refl
request_bytes (ask_post slot label value) image = refl

-- a request within its limits keeps states valid
carried_valid : (r : Request) (image : List ℕ) → Fits r → (request_call r image).argument_number ≡ 0 → (s : State) → Valid s → Valid (carried r s)
carried_valid (ask_turns n) image fits none s ok = turns_valid n s ok
carried_valid (ask_post slot label value) image fits none s ok =
    post_valid slot label value (post_within slot label none).1 fits s ok

module _ (c : HostCall) (image : List ℕ) (a : Accepted image) (p : KeptPromise c image) where
  -- the state that it leaves
  abbrev effect : State → State
  effect s = cond (is_accepted c) (carried c.request s) s

  -- an accepted call's number, by what its promise says
  number_0 : is_accepted c ≡ true → (call_answer (request_call c.request image) c.out).number ≡ 0
  number_0 e = rw p.1.0 at (eqb-true c.told.number 0 e)

  pub kept_valid : is_accepted c ≡ true → (s : State) → Valid s → Valid (carried c.request s)
  kept_valid e = carried_valid c.request image p.0 ((accepted_exactly (request_call c.request image) c.out).0 (number_0 e)).0

  effect_valid : Valid (effect (state_of image))
  effect_valid = split (is_accepted c) (λ e. rw e (kept_valid e (state_of image) (read_valid image a))) (λ e. rw e (read_valid image a))

  -- an accepted call leaves the image of what it carried out, and a refused one the image itself
  after_call : image_after c image ≡ image_bytes (effect (state_of image))
  after_call =
      let call = request_call c.request image in
      split (is_accepted c)
      (λ e. rw (e, p.1.0, p.1.1) (((writes_its_answer call c.out).accepted (number_0 e)).2 ∙ request_bytes c.request image))
      (λ e. rw e (sym (rewritten image a)))

  pub after_accepted : Accepted (image_after c image)
  after_accepted = rw after_call (written_accepted (effect (state_of image)) effect_valid)

  pub after_state : state_of (image_after c image) ≡ effect (state_of image)
  after_state = rw after_call (image_forth (effect (state_of image)) effect_valid)

pub final_accepted : (cs : List HostCall) (image : List ℕ) → Accepted image → KeptPromises cs image → Accepted (final_image cs image)
final_accepted [] image a p = a
final_accepted (c ∷ cs) image a p = final_accepted cs (image_after c image) (after_accepted c image a p.0) p.1

-- ---- a fact of states that turns and posts keep holds of what a list ends with

module _ (P : State → Type 0) (by_turns : (n : ℕ) (s : State) → P s → P (turns n s)) (by_post : (slot label value : ℕ) (s : State) → P s → P (post slot label value s)) where
  carried_keeps : (q : Request) (s : State) → P s → P (carried q s)
  carried_keeps (ask_turns n) s h = by_turns n s h
  carried_keeps (ask_post slot label value) s h = by_post slot label value s h

  pub calls_keep : (cs : List HostCall) (image : List ℕ) → Accepted image → KeptPromises cs image → P (state_of image) → P (state_of (final_image cs image))
  calls_keep [] image a p h = h
  calls_keep (c ∷ cs) image a p h =
      calls_keep cs (image_after c image) (after_accepted c image a p.0) p.1
      (rw (after_state c image a p.0) (split (is_accepted c) (λ e. rw e (carried_keeps c.request (state_of image) h)) (λ e. rw e h)))
