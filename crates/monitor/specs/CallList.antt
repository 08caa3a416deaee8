-- A list of calls as they went, turn calls and posts: the image that it ends with, the turns that it carried out, the posts that an
-- observer may know of, what two lists have to have in common, and what is known of a list.
use Rattle.std.specs.Prelude.{ℕ, ◌+◌, ◌^◌, ◌<◌, ◌≡◌, Bool, cond, List, [], ◌∷◌, ◌++◌, eqb, take}
use Rattle.label.specs.Label.{flows}
use Rattle.monitor.specs.declared.Answer.{Answer}
use Rattle.monitor.specs.Calls.{Call, CallPromise, turns_call, post_call}

-- what the host asks for: n turns, or a post to a slot, with a label and a value
pub data Request : Type 0 where
  ask_turns : ℕ → Request
  ask_post : ℕ → ℕ → ℕ → Request

-- a call as it went: what was asked for and its output, what it told, and what its output held afterwards. What a post told of its
-- delivery is left out: it is for the host alone
pub record HostCall : Type 0 where
  pub request : Request
  pub out : List ℕ
  pub told : Answer
  pub after : List ℕ

abbrev pub is_accepted : HostCall → Bool
is_accepted c = eqb c.told.number 0

-- "The image that an accepted call writes is the next call's image; a refused call carries out no turn and leaves the
-- image as it was."
abbrev pub image_after : HostCall → List ℕ → List ℕ
image_after c image = cond (is_accepted c) (take c.told.length c.after) image

-- the image that a list ends with
abbrev pub final_image : List HostCall → List ℕ → List ℕ
final_image [] image = image
final_image (c ∷ cs) image = final_image cs (image_after c image)

-- ---- "the sum of n over the accepted turn calls"

abbrev pub turns_asked : Request → ℕ
turns_asked (ask_turns n) = n
turns_asked (ask_post slot label value) = 0

abbrev pub turns_of : HostCall → ℕ
turns_of c = cond (is_accepted c) (turns_asked c.request) 0

abbrev pub turns_carried_out : List HostCall → ℕ
turns_carried_out [] = 0
turns_carried_out (c ∷ cs) = turns_of c + turns_carried_out cs

-- ---- "the accepted posts whose label flows to the observer", delivered or dropped, "each after the same number of turns and in the
-- same order"

pub record VisiblePost : Type 0 where
  pub turns_before : ℕ
  pub slot : ℕ
  pub label : ℕ
  pub value : ℕ

-- `before` are the turns carried out so far
abbrev pub posts_asked : ℕ → ℕ → Request → List VisiblePost
posts_asked v before (ask_turns n) = []
posts_asked v before (ask_post slot label value) =
    cond (flows label v) (record { turns_before = before; slot = slot; label = label; value = value } ∷ []) []

abbrev pub posts_of : ℕ → ℕ → HostCall → List VisiblePost
posts_of v before c = cond (is_accepted c) (posts_asked v before c.request) []

abbrev pub posts_from : ℕ → ℕ → List HostCall → List VisiblePost
posts_from v before [] = []
posts_from v before (c ∷ cs) = posts_of v before c ++ posts_from v (before + turns_of c) cs

abbrev pub visible_posts : ℕ → List HostCall → List VisiblePost
visible_posts v cs = posts_from v 0 cs

-- what the rule asks of two lists: as many turns in all, and the same visible posts
pub record Agree (v : ℕ) (calls calls' : List HostCall) : Type 0 where
  pub turns : turns_carried_out calls ≡ turns_carried_out calls'
  pub posts : visible_posts v calls ≡ visible_posts v calls'

-- ---- all that is known of how the calls went: each kept the promise of `calls::turns` or `calls::post` for the image that it
-- was given

abbrev pub request_call : Request → List ℕ → Call
request_call (ask_turns n) image = turns_call n image
request_call (ask_post slot label value) image = post_call slot label value image

-- what the width of an argument tells: a value has 32 bits
abbrev pub Fits : Request → Type 0
Fits (ask_turns n) = Unit {0}
Fits (ask_post slot label value) = value < 2 ^ 32

abbrev pub KeptPromise : HostCall → List ℕ → Type 0
KeptPromise c image = Fits c.request × CallPromise (request_call c.request image) c.out c.told c.after

abbrev pub KeptPromises : List HostCall → List ℕ → Type 0
KeptPromises [] image = Unit {0}
KeptPromises (c ∷ cs) image = KeptPromise c image × KeptPromises cs (image_after c image)
