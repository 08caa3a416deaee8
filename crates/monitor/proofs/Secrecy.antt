-- The secrecy rule: a list of calls ends with the view that its visible posts and its sum of turns make of the view that it starts
-- with.
use Prim.Native.Nat.{ℕ, ◌+◌, ◌-◌, ◌≤◌}
use mathlib.Core.Path.{◌≡◌, refl, sym, ap, ◌∙◌}
use mathlib.Core.Bool.{Bool, true, false, cond}
use mathlib.Core.List.{List, [], ◌∷◌, ◌++◌}
use native.Mathlib.Nat.{add-zero, zero-add}
use native.Mathlib.Omega.{arith}
use lib.ListN.{length, take, replicate, length-replicate}
use Rattle.wire.specs.Lists.{Every}
use Rattle.wire.proofs.Lists.{split}
use Rattle.label.specs.Label.{flows}
use Rattle.machine.specs.Limits.{highest_label}
use Rattle.machine.specs.State.{State}
use Rattle.machine.specs.Post.{post}
use Rattle.machine.specs.Valid.{Valid}
use Rattle.machine.specs.Machine.{turns, view}
use Rattle.machine.proofs.Machine.{turns_valid, turns_none, turns_add, turns_same, post_shown, post_hidden}
use Rattle.image.specs.Image.{state_of, image_bytes}
use Rattle.monitor.specs.Calls.{call_answer, call_output, view_bytes, view_call}
use Rattle.monitor.specs.CallList.{Request, ask_turns, ask_post, HostCall, is_accepted, image_after, final_image, turns_asked, turns_of, turns_carried_out}
use Rattle.monitor.specs.CallList.{VisiblePost, posts_asked, posts_from, visible_posts, Agree, KeptPromises}
use Rattle.monitor.specs.Claims.{Accepted, EqualViews}
use Rattle.monitor.proofs.Calls.{observer_none, bytes_written, tell_the_same}
use Rattle.monitor.proofs.CallList.{read_valid, view_state, carried, kept_valid, after_accepted, after_state, final_accepted}

-- ---- equal views are equal bytes

module _ (v : ℕ) (seen : v ≤ highest_label) where
  -- the view call for v, given room, writes the view
  view_shown : (image : List ℕ) → Accepted image → (out : List ℕ) → length (view_bytes v image) ≤ length out
      → take (call_answer (view_call v image) out).length (call_output (view_call v image) out) ≡ view_bytes v image
  view_shown image a out room = bytes_written (view_call v image) out (observer_none v seen) a.number room

  module _ (image image' : List ℕ) where
    pub equal_bytes : EqualViews v image image' → view_bytes v image ≡ view_bytes v image'
    equal_bytes e =
        let k = length (view_bytes v image) in
        let k' = length (view_bytes v image') in
        let out : List ℕ = replicate (k + k') 0 in
        let l = length-replicate {A = ℕ} (k + k') 0 in
        sym (view_shown image e.left out (omega arith))
        ∙ (e.shown out out _ _ _ _ refl (refl, refl) (refl, refl)).1
        ∙ view_shown image' e.right out (omega arith)

    module _ (a : Accepted image) (a' : Accepted image') (e : view_bytes v image ≡ view_bytes v image') where
      pub equal_views : EqualViews v image image'
      equal_views = record {
        left = a;
        right = a';
        shown = tell_the_same (view_call v image) (view_call v image') refl (a.number ∙ sym a'.number) e refl;
      }

-- ---- what a list shows: it ends with the view that its visible posts and its turns alone make

-- from s, which has `at` turns behind it, to `total` turns: the posts, each at its time, and the turns between them
replay : List VisiblePost → ℕ → ℕ → State → State
replay [] at total s = turns (total - at) s
replay (p ∷ ps) at total s = replay ps p.turns_before total (post p.slot p.label p.value (turns (p.turns_before - at) s))

module _ (v : ℕ) where
  -- from r, with n turns and these posts to come, the end is what they make of any s that shows the same as r after k turns
  abbrev Follows : State → (ℕ → List VisiblePost) → ℕ → State → Type 0
  Follows end posts n r =
      (at k : ℕ) (s : State) → Valid s → view v r ≡ view v (turns k s) → view v end ≡ view v (replay (posts (at + k)) at (at + k + n) s)

  none_follows : (r : State) → Follows r (λ before. []) 0 r
  unfolding replay
  none_follows r at k s ok e = let h : at + k + 0 - at ≡ k = omega arith in rw h e

  -- one call more ahead: accepted or not
  module _ (end : State) (posts : ℕ → List VisiblePost) (n : ℕ) (r : State) (valid : Valid r) where
    call_follows : (q : Request) (accepted : Bool) → (accepted ≡ true → (s : State) → Valid s → Valid (carried q s))
        → Follows end posts n (cond accepted (carried q r) r)
        → Follows end (λ before. cond accepted (posts_asked v before q) [] ++ posts (before + cond accepted (turns_asked q) 0)) (cond accepted (turns_asked q) 0 + n) r
    unfolding replay
    call_follows q false keeps f at k s ok e = rw (add-zero, zero-add) (f at k s ok e)
    -- turns: k grows
    call_follows (ask_turns m) true keeps f at k s ok e =
        let h : at + (k + m) ≡ at + k + m = omega arith in
        let g : at + k + m + n ≡ at + k + (m + n) = omega arith in
        rw (h, g) at (f at (k + m) s ok (turns_same v m r (turns k s) valid (turns_valid k s ok) e ∙ ap (view v) (sym (turns_add k m s))))
    -- a post: where it is seen s comes to it, and else nothing changes
    call_follows (ask_post slot label value) true keeps f at k s ok e =
        split (flows label v)
        (λ h. let t = turns k s in
        let x = post slot label value t in
        let same : view v (post slot label value r) ≡ view v (turns 0 x)
        = post_shown v slot label value h r ∙ ap (post slot label value) e ∙ sym (post_shown v slot label value h t) ∙ ap (view v) (turns_none x) in
        let ago : at + k - at ≡ k = omega arith in
        let total : at + k + 0 + n ≡ at + k + (0 + n) = omega arith in
        rw (h, ago) (rw total at (f (at + k) 0 x (keeps refl t (turns_valid k s ok)) same)))
        (λ h. rw (h, add-zero, zero-add) (f at k s ok (post_hidden v slot label value h r ∙ e)))

  calls_follow : (cs : List HostCall) (image : List ℕ) → Accepted image → KeptPromises cs image
      → Follows (state_of (final_image cs image)) (λ before. posts_from v before cs) (turns_carried_out cs) (state_of image)
  calls_follow [] image a p = none_follows (state_of image)
  calls_follow (c ∷ cs) image a p =
      let after = calls_follow cs (image_after c image) (after_accepted c image a p.0) p.1 in
      call_follows (state_of (final_image cs (image_after c image))) (λ before. posts_from v before cs) (turns_carried_out cs) (state_of image) (read_valid image a)
      c.request (is_accepted c) (kept_valid c image a p.0) (rw (after_state c image a p.0) at after)

-- ---- the rule

module _ (v : ℕ) (image image' : List ℕ) (a : Accepted image) (a' : Accepted image') (e : view_bytes v image ≡ view_bytes v image') where
  -- the states show the observer the same
  pub states_same : view v (state_of image) ≡ view v (state_of image')
  states_same = sym (view_state image a v) ∙ ap state_of e ∙ view_state image' a' v

  -- both lists end with the view that the visible posts and the turns make of the first one's start
  pub secrecy : v ≤ highest_label → (calls calls' : List HostCall) → KeptPromises calls image → KeptPromises calls' image' → Agree v calls calls'
      → EqualViews v (final_image calls image) (final_image calls' image')
  secrecy seen calls calls' p p' agree =
      let s = state_of image in
      let ok = read_valid image a in
      let start = ap (view v) (turns_none s) in
      let ends = calls_follow v calls image a p 0 0 s ok start in
      let ends' = calls_follow v calls' image' a' p' 0 0 s ok (sym states_same ∙ start) in
      let same : view v (replay (visible_posts v calls) 0 (0 + 0 + turns_carried_out calls) s) ≡ view v (replay (visible_posts v calls') 0 (0 + 0 + turns_carried_out calls') s)
      = rw (agree.turns, agree.posts) in
      equal_views v seen (final_image calls image) (final_image calls' image') (final_accepted calls image a p) (final_accepted calls' image' a' p')
      (ap image_bytes (ends ∙ same ∙ sym ends'))

-- ---- the case without posts: of lists of turn calls alone the rule asks for as many turns, and for nothing else

abbrev pub AsksTurns : Request → Type 0
AsksTurns (ask_turns n) = Unit {0}
AsksTurns (ask_post slot label value) = ⊥

turns_show_none : (v before : ℕ) (cs : List HostCall) → Every (λ c. AsksTurns c.request) cs → posts_from v before cs ≡ []
turns_show_none v before [] only = refl
turns_show_none v before (c ∷ cs) only = none c.request (is_accepted c) only.0 ∙ turns_show_none v (before + turns_of c) cs only.1
  where
    none : (q : Request) (accepted : Bool) → AsksTurns q → {ps : List VisiblePost} → cond accepted (posts_asked v before q) [] ++ ps ≡ ps
    none (ask_turns n) true only = refl
    none (ask_turns n) false only = refl
    none (ask_post slot label value) accepted only = absurd only

pub turn_calls_agree : (v : ℕ) (calls calls' : List HostCall) → Every (λ c. AsksTurns c.request) calls → Every (λ c. AsksTurns c.request) calls'
    → turns_carried_out calls ≡ turns_carried_out calls' → Agree v calls calls'
turn_calls_agree v calls calls' only only' e = record { turns = e; posts = turns_show_none v 0 calls only ∙ sym (turns_show_none v 0 calls' only') }
