-- The claims: each a named type under the sentence that it answers; proofs/Claims.antt inhabits them.
use Rattle.std.specs.Prelude.{ℕ, ◌+◌, ◌^◌, ◌<◌, ◌≤◌, ◌≢◌, ◌≡◌, true, false, ◌&&◌, List, [], length, take, drop}
use Rattle.std.specs.Int.Bits.{bit_and}
use Rattle.wire.specs.Lists.{Bytes}
use Rattle.wire.specs.Output.{overwrite}
use Rattle.label.specs.Label.{is_subset, flows}
use Rattle.machine.specs.Limits.{highest_label, highest_slot, shortest_image, longest_image, turn_limit}
use Rattle.machine.specs.State.{Task, Slot, unused, used, State, slot_at, has_live_task}
use Rattle.machine.specs.Turn.{has_room}
use Rattle.machine.specs.Post.{mail_of}
use Rattle.machine.specs.Valid.{Valid}
use Rattle.image.specs.Record.{record_bytes}
use Rattle.image.specs.declared.Extent.{Extent}
use Rattle.image.specs.Image.{version_of, program_of, turn_slot_of, state_of, image_bytes}
use Rattle.image.specs.Refusal.{image_number}
use Rattle.image.specs.Part.{record_start, record_part, record_extent}
use Rattle.monitor.specs.declared.Answer.{Answer}
use Rattle.monitor.specs.Calls.{Call, call_answer, call_output, CallPromise, rewrite_call, turns_bytes, turns_call, post_bytes, post_call, post_delivered, view_bytes, view_call}
use Rattle.monitor.specs.CallList.{HostCall, final_image, Agree, KeptPromises}

-- an accepted image: bytes whose number is 0
pub record Accepted (image : List ℕ) : Type 0 where
  pub bytes : Bytes image
  pub number : image_number image ≡ 0

-- A where B holds, and only there
abbrev pub Exactly : Type 0 → Type 0 → Type 0
Exactly A B = (A → B) × (B → A)

-- ---- demand 1: what a call tells and writes

-- "Numbers a caller may receive": 0 and those of the table, 1 and 2 "each only in the call that has that argument", and so are a
-- post's 14 and 15; an image by itself has 0 or one of 3 to 12
abbrev pub NumbersAreListed : Type 0
NumbersAreListed =
    (image out : List ℕ)
    → ((image_number image ≤ 12) × (image_number image ≢ 1) × (image_number image ≢ 2))
    × (((call_answer (rewrite_call image) out).number ≤ 13) × ((call_answer (rewrite_call image) out).number ≢ 1) × ((call_answer (rewrite_call image) out).number ≢ 2))
    × ((n : ℕ) → ((call_answer (turns_call n image) out).number ≤ 13) × ((call_answer (turns_call n image) out).number ≢ 1))
    × ((v : ℕ) → ((call_answer (view_call v image) out).number ≤ 13) × ((call_answer (view_call v image) out).number ≢ 2))
    × ((slot label value : ℕ)
    → ((call_answer (post_call slot label value image) out).number ≤ 15)
    × ((call_answer (post_call slot label value image) out).number ≢ 1)
    × ((call_answer (post_call slot label value image) out).number ≢ 2))

-- 1 "the label asked for is above 15", 2 "more than 1,000,000 turns"; of a post "a slot above 15 with 14 and then a label above 15
-- with 15, both before the image is read": then, whatever the image and the output are, and at no other time
abbrev pub LimitsAreRefused : Type 0
LimitsAreRefused =
    (image out : List ℕ)
    → ((v : ℕ) → Exactly ((call_answer (view_call v image) out).number ≡ 1) (highest_label < v))
    × ((n : ℕ) → Exactly ((call_answer (turns_call n image) out).number ≡ 2) (turn_limit < n))
    × ((slot label value : ℕ)
    → Exactly ((call_answer (post_call slot label value image) out).number ≡ 14) (highest_slot < slot)
    × Exactly ((call_answer (post_call slot label value image) out).number ≡ 15) ((slot ≤ highest_slot) × (highest_label < label)))

-- "The first met is given; none of them in any other event": each number of a call that reads an image, by what gives it. 3 to 12 come
-- from the image alone, where the arguments have none; 13 from the output, where neither has one; every other from the arguments alone
pub record NumbersByCause (c : Call) (out : List ℕ) : Type 0 where
  pub accepted : Exactly ((call_answer c out).number ≡ 0) ((c.argument_number ≡ 0) × (c.input_number ≡ 0) × (length c.bytes ≤ length out))
  pub from_argument : (k : ℕ) → 1 ≤ k → (3 ≤ k → k ≤ 13 → ⊥) → Exactly ((call_answer c out).number ≡ k) (c.argument_number ≡ k)
  pub from_input : (k : ℕ) → 3 ≤ k → k ≤ 12 → Exactly ((call_answer c out).number ≡ k) ((c.argument_number ≡ 0) × (c.input_number ≡ k))
  pub from_output : Exactly ((call_answer c out).number ≡ 13) ((c.argument_number ≡ 0) × (c.input_number ≡ 0) × (length out < length c.bytes))

abbrev pub NoneInAnyOtherEvent : Type 0
NoneInAnyOtherEvent =
    (image out : List ℕ)
    → NumbersByCause (rewrite_call image) out
    × ((n : ℕ) → NumbersByCause (turns_call n image) out)
    × ((v : ℕ) → NumbersByCause (view_call v image) out)
    × ((slot label value : ℕ) → NumbersByCause (post_call slot label value image) out)

-- "1,000,000 turns accepted", and posts that are dropped too; an output as long as the longest image is long enough for every call
abbrev pub OthersAreAccepted : Type 0
OthersAreAccepted =
    (image out : List ℕ) → Accepted image → longest_image ≤ length out
    → ((call_answer (rewrite_call image) out).number ≡ 0)
    × ((n : ℕ) → n ≤ turn_limit → (call_answer (turns_call n image) out).number ≡ 0)
    × ((v : ℕ) → v ≤ highest_label → (call_answer (view_call v image) out).number ≡ 0)
    × ((slot label value : ℕ) → slot ≤ highest_slot → label ≤ highest_label → value < 2 ^ 32 → (call_answer (post_call slot label value image) out).number ≡ 0)

-- "A refused call writes no byte and tells its number, length 0 and busy count 0; an accepted one tells number 0. An
-- accepted call writes only the bytes of its answer."
pub record WritesItsAnswer (c : Call) (a : Answer) (out after : List ℕ) : Type 0 where
  pub refused : a.number ≢ 0 → (a.length ≡ 0) × (a.busy ≡ 0) × (after ≡ out)
  pub accepted : a.number ≡ 0 → (a.length ≡ length c.bytes) × (a.busy ≡ c.busy) × (take a.length after ≡ c.bytes)
  pub behind : drop a.length after ≡ drop a.length out
  pub fits : a.length ≤ length out
  pub size : length after ≡ length out

abbrev pub CallsWriteTheirAnswer : Type 0
CallsWriteTheirAnswer = (c : Call) (out : List ℕ) → WritesItsAnswer c (call_answer c out) out (call_output c out)

-- "Delivery and dropping follow the send rule, less the sender check. The answer says delivered or dropped [..]; a refusal says
-- dropped."
pub record TellsDelivery (slot label value : ℕ) (image out : List ℕ) : Type 0 where
  pub refused : (call_answer (post_call slot label value image) out).number ≢ 0 → post_delivered slot label value image out ≡ false
  pub accepted : (call_answer (post_call slot label value image) out).number ≡ 0
      → post_delivered slot label value image out
      ≡ (has_live_task (slot_at (state_of image).slots slot) && has_room label (mail_of (slot_at (state_of image).slots slot)))

abbrev pub PostsTellDelivery : Type 0
PostsTellDelivery = (slot label value : ℕ) (image out : List ℕ) → TellsDelivery slot label value image out

-- "The reader hands back each record as the part of the caller's image that holds it. The part is the record's bytes
-- without the 2-byte length. That part is empty for an unused slot, a slot number above 15 or a refused image."
-- A start and a length tell the same part: they are those of bytes within the image, and both 0 where it is empty.
pub record IsRecordPart (image : List ℕ) (slot : ℕ) (part : List ℕ) (extent : Extent) : Type 0 where
  pub inside : part ≡ take (length part) (drop (record_start image slot) image)
  pub bytes : Accepted image → slot ≤ highest_slot → part ≡ record_bytes (version_of image) (slot_at (state_of image).slots slot)
  pub above : (slot ≤ highest_slot → ⊥) → part ≡ []
  pub refused : image_number image ≢ 0 → part ≡ []
  pub told : take extent.length (drop extent.start image) ≡ part
  pub within : extent.start + extent.length ≤ length image
  pub empty : part ≡ [] → (extent.start ≡ 0) × (extent.length ≡ 0)
  pub start : part ≢ [] → extent.start ≡ record_start image slot

abbrev pub RecordIsItsPart : Type 0
RecordIsItsPart = (image : List ℕ) (slot : ℕ) → IsRecordPart image slot (record_part image slot) (record_extent image slot)

-- ---- demand 2: images and tasks

-- "The shortest image has 40 bytes", and since 02, U5, "The longest image has 7,812 bytes."
abbrev pub ImageLengths : Type 0
ImageLengths = (image : List ℕ) → Accepted image → (shortest_image ≤ length image) × (length image ≤ longest_image)

-- demand 2: "Reading an accepted image and writing it again yields the same bytes,"
abbrev pub ReadThenWrite : Type 0
ReadThenWrite =
    (image : List ℕ) → Accepted image
    → Valid (state_of image)
    × (image_bytes (state_of image) ≡ image)
    × ((out : List ℕ) → length image ≤ length out → call_output (rewrite_call image) out ≡ overwrite image out)

-- demand 2: "and writing out tasks that keep the image rules and reading them yields the same tasks."
abbrev pub WriteThenRead : Type 0
WriteThenRead = (state : State) → Valid state → Accepted (image_bytes state) × (state_of (image_bytes state) ≡ state)

-- "A view is itself an accepted image."
abbrev pub ViewIsAccepted : Type 0
ViewIsAccepted = (v : ℕ) (image : List ℕ) → Accepted image → Accepted (view_bytes v image)

-- "For label 15 it is the image."
abbrev pub ViewFor15 : Type 0
ViewFor15 = (image : List ℕ) → Accepted image → view_bytes 15 image ≡ image

-- ---- versions and clearances (02, U5)

-- "Version 1 images [..] are written as version 1": a view has the image's version, and so has what any calls leave of it
abbrev pub VersionIsKept : Type 0
VersionIsKept =
    (image : List ℕ) → Accepted image
    → ((v : ℕ) → version_of (view_bytes v image) ≡ version_of image)
    × ((calls : List HostCall) → KeptPromises calls image → version_of (final_image calls image) ≡ version_of image)

-- a slot without a task, or with one that has clearance c and a label within it
abbrev pub Cleared : ℕ → Slot → Type 0
Cleared c unused = Unit {0}
Cleared c (used t) = (t.clearance ≡ c) × (is_subset t.label c ≡ true)

-- "The additive maker wants its helper never to touch trading figures." "A child inherits the clearance.": for a task in slot s, whatever
-- calls follow, its own slot and those of its spare, where its children and theirs stand, are within its clearance
abbrev pub ClearancesHold : Type 0
ClearancesHold =
    (image : List ℕ) → Accepted image → (s : ℕ) (t : Task) → slot_at (state_of image).slots s ≡ used t
    → (calls : List HostCall) → KeptPromises calls image
    → (d : ℕ) → d ≤ t.spare → Cleared t.clearance (slot_at (state_of (final_image calls image)).slots (s + d))

-- ---- demand 3: the secrecy rule

-- "The program and the slot next in turn are in every view."
abbrev pub ProgramInEveryView : Type 0
ProgramInEveryView =
    (v : ℕ) (image : List ℕ) → Accepted image
    → (program_of (view_bytes v image) ≡ program_of image) × (turn_slot_of (view_bytes v image) ≡ turn_slot_of image)

-- "given outputs of equal length, tells the same number and the same length for both and writes the same bytes": of two calls
abbrev pub TellTheSame : Call → Call → Type 0
TellTheSame c c' =
    (out out' : List ℕ) (told told' : Answer) (after after' : List ℕ) → length out ≡ length out'
    → CallPromise c out told after → CallPromise c' out' told' after'
    → (told ≡ told') × (take told.length after ≡ take told'.length after')

-- both images "are accepted, and their views for v are equal": the view call for v tells the same and writes the same
pub record EqualViews (v : ℕ) (image image' : List ℕ) : Type 0 where
  pub left : Accepted image
  pub right : Accepted image'
  pub shown : TellTheSame (view_call v image) (view_call v image')

-- "The two lists start from two accepted images whose views for v are the same bytes." Each holds any turn calls and posts, with
-- any arguments and any output, refused ones included; a post's value has 32 bits, as its argument has. They carry out the same
-- number of turns in all; "if the accepted posts whose label flows to the observer agree in both lists, each after the same number
-- of turns and in the same order, equal starting views give equal views; other posts are free." Lists of turn calls alone are the
-- case without posts (`turn_calls_agree`, proofs/Secrecy.antt). "It is a single claim about two whole lists, for every v". It is about
-- the code: the calls are known by what they told and wrote, and of that only what the code promises (proofs/Promises.antt).
abbrev pub Secrecy : Type 0
Secrecy =
    (v : ℕ) → v ≤ highest_label
    → (image image' : List ℕ) → Accepted image → Accepted image' → view_bytes v image ≡ view_bytes v image'
    → (calls calls' : List HostCall) → KeptPromises calls image → KeptPromises calls' image' → Agree v calls calls'
    → EqualViews v (final_image calls image) (final_image calls' image')

-- for accepted images, views that are the same bytes are equal views, and the other way round
abbrev pub EqualViewsAreEqualBytes : Type 0
EqualViewsAreEqualBytes =
    (v : ℕ) → v ≤ highest_label
    → (image image' : List ℕ) → Accepted image → Accepted image'
    → Exactly (EqualViews v image image') (view_bytes v image ≡ view_bytes v image')

-- ---- working from a view (02, U6)

-- a call of which two things are known: it kept its promise, and its output was long enough for its answer
pub record Made (c : Call) : Type 0 where
  pub out : List ℕ
  pub told : Answer
  pub after : List ℕ
  pub room : length c.bytes ≤ length out
  pub kept : CallPromise c out told after

-- the bytes that it wrote
abbrev pub wrote : {c : Call} → Made c → List ℕ
wrote m = take m.told.length m.after

-- two calls were accepted, told the same and wrote the same bytes, whatever the lengths of their outputs. So a call whose bytes one of
-- them was given was accepted too: a refused one writes nothing, which is no image
pub record SameAnswer {c c' : Call} (m : Made c) (m' : Made c') : Type 0 where
  pub accepted : m.told.number ≡ 0
  pub told : m.told ≡ m'.told
  pub bytes : wrote m ≡ wrote m'

-- "running a view for n turns and taking the view again equals taking the view of the full run": of bytes; and of calls, those of the
-- owner, who is sent a view, runs it ahead and takes the view again, and those of the host, who runs the image and takes the view
pub record RunsAhead (v n : ℕ) (image : List ℕ) : Type 0 where
  pub bytes : view_bytes v (turns_bytes n (view_bytes v image)) ≡ view_bytes v (turns_bytes n image)
  pub calls : (sent : Made (view_call v image)) (ahead : Made (turns_call n (wrote sent))) (again : Made (view_call v (wrote ahead)))
      → (run : Made (turns_call n image)) (shown : Made (view_call v (wrote run)))
      → SameAnswer again shown

-- "for every n up to the limit"
abbrev pub TurnsOfViews : Type 0
TurnsOfViews = (v n : ℕ) (image : List ℕ) → v ≤ highest_label → n ≤ turn_limit → Accepted image → RunsAhead v n image

-- "a view for one label of a view for another is the view for the bits common to both": so views in either order are equal, and a view
-- twice is the view once; of bytes and of calls
pub record CommonView (v w : ℕ) (image : List ℕ) : Type 0 where
  pub common : view_bytes w (view_bytes v image) ≡ view_bytes (bit_and v w) image
  pub common_calls : (first : Made (view_call v image)) (second : Made (view_call w (wrote first))) (direct : Made (view_call (bit_and v w) image))
      → SameAnswer second direct
  pub either : view_bytes w (view_bytes v image) ≡ view_bytes v (view_bytes w image)
  pub either_calls : (first : Made (view_call v image)) (second : Made (view_call w (wrote first)))
      → (first' : Made (view_call w image)) (second' : Made (view_call v (wrote first')))
      → SameAnswer second second'
  pub twice : view_bytes v (view_bytes v image) ≡ view_bytes v image
  pub twice_calls : (first : Made (view_call v image)) (second : Made (view_call v (wrote first))) → SameAnswer second first

abbrev pub ViewsOfViews : Type 0
ViewsOfViews = (v w : ℕ) (image : List ℕ) → v ≤ highest_label → w ≤ highest_label → Accepted image → CommonView v w image

-- posts into a view: a figure that the observer may see comes to the view as it does to the image, and any other leaves the view as it
-- is. Whether one was delivered is no part of it: of a hidden task the view has an unused slot
pub record PostsInView (v : ℕ) (image : List ℕ) : Type 0 where
  pub seen : (slot label value : ℕ) → label ≤ highest_label → value < 2 ^ 32 → flows label v ≡ true
      → post_bytes slot label value (view_bytes v image) ≡ view_bytes v (post_bytes slot label value image)
  pub seen_calls : (slot label value : ℕ) → slot ≤ highest_slot → label ≤ highest_label → value < 2 ^ 32 → flows label v ≡ true
      → (sent : Made (view_call v image)) (on_desk : Made (post_call slot label value (wrote sent)))
      → (on_host : Made (post_call slot label value image)) (shown : Made (view_call v (wrote on_host)))
      → SameAnswer on_desk shown
  pub hidden : (slot label value : ℕ) → label ≤ highest_label → value < 2 ^ 32 → flows label v ≡ false
      → view_bytes v (post_bytes slot label value image) ≡ view_bytes v image

abbrev pub PostsToViews : Type 0
PostsToViews = (v : ℕ) (image : List ℕ) → v ≤ highest_label → Accepted image → PostsInView v image

-- so an owner may replay a whole day on its desk: of two lists of calls that agree as the secrecy rule asks, one from the view that the
-- owner was sent and one from the image, with any number of turns in all, the ends show the owner the same
abbrev pub ListsFromViews : Type 0
ListsFromViews =
    (v : ℕ) (image : List ℕ) → v ≤ highest_label → Accepted image
    → (sent : Made (view_call v image)) (desk host : List HostCall) → KeptPromises desk (wrote sent) → KeptPromises host image
    → Agree v desk host → EqualViews v (final_image desk (wrote sent)) (final_image host image)
