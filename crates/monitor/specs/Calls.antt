-- The calls that write: what each tells, and what its output holds afterwards; the sheet's is in sheet/specs/Sheet.antt, those of
-- writer and lister are in listing/specs/Listing.antt. Of the others `check` tells `image_number` (image/specs/Refusal.antt), and
-- `record` and `record_extent` tell `record_part` and `record_extent` (image/specs/Part.antt).
use Rattle.std.specs.Prelude.{ℕ, ◌≡◌, Bool, false, cond, ◌&&◌, List, Result, Ok, Err, leb, eqb, length}
use Rattle.refusal.specs.declared.Refusal.{Refusal}
use Rattle.refusal.specs.Refusal.{number_of}
use Rattle.wire.specs.Output.{overwrite}
use Rattle.machine.specs.Post.{post, delivered}
use Rattle.machine.specs.Machine.{turns, busy, view}
use Rattle.image.specs.Image.{state_of, image_bytes}
use Rattle.image.specs.Refusal.{observer_number, turn_limit_number, post_number, image_number, first_met}
use Rattle.monitor.specs.declared.Answer.{Answer}
use Rattle.monitor.specs.declared.PostAnswer.{PostAnswer}
use Rattle.monitor.specs.declared.Written.{Written}
use Rattle.monitor.specs.declared.Posted.{Posted}

-- a call: the number of its arguments, 0 where they are within their limits or there are none; the number of what it reads, of the
-- monitor's calls an image; the bytes to write; the busy count
pub record Call : Type 0 where
  pub argument_number : ℕ
  pub input_number : ℕ
  pub bytes : List ℕ
  pub busy : ℕ

unfoldable pub call_number : Call → List ℕ → ℕ
call_number c out = first_met c.argument_number c.input_number c.bytes out

-- a refused call tells its number, length 0 and busy count 0; an accepted one tells number 0
abbrev pub refusal : ℕ → Answer
refusal n = record { number = n; length = 0; busy = 0 }

-- what a call tells by what its code returned
abbrev pub as_answer : Result Written Refusal → Answer
as_answer (Ok w) = record { number = 0; length = w.length; busy = w.busy }
as_answer (Err r) = refusal (number_of r)

unfoldable pub call_answer : Call → List ℕ → Answer
call_answer c out =
    cond (eqb (call_number c out) 0)
    (record { number = 0; length = length c.bytes; busy = c.busy })
    (refusal (call_number c out))

-- a refused call writes no byte, and an accepted one only the bytes of its answer
unfoldable pub call_output : Call → List ℕ → List ℕ
call_output c out = cond (eqb (call_number c out) 0) (overwrite c.bytes out) out

-- what the code promises of a call that told this and whose output then held `after`
abbrev pub CallPromise : Call → List ℕ → Answer → List ℕ → Type 0
CallPromise c out told after = (told ≡ call_answer c out) × (after ≡ call_output c out)

-- how a call ends that only the output can still refuse: 13 where that has less room than the bytes to write need
abbrev pub output_answer : ℕ → ℕ → ℕ → Answer
output_answer size busy room = cond (leb size room) (record { number = 0; length = size; busy = busy }) (refusal 13)

-- ---- rewrite: the image again as it was read

abbrev pub rewrite_call : List ℕ → Call
rewrite_call image = record { argument_number = 0; input_number = image_number image; bytes = image_bytes (state_of image); busy = 0 }

-- ---- turns: the image after n turns

abbrev pub turns_bytes : ℕ → List ℕ → List ℕ
turns_bytes n image = image_bytes (turns n (state_of image))

abbrev pub turns_call : ℕ → List ℕ → Call
turns_call n image =
    record { argument_number = turn_limit_number n; input_number = image_number image; bytes = image_bytes (turns n (state_of image)); busy = busy n (state_of image) }

-- ---- post: the image once the host's message has gone to a slot (02, U1)

abbrev pub post_bytes : ℕ → ℕ → ℕ → List ℕ → List ℕ
post_bytes slot label value image = image_bytes (post slot label value (state_of image))

abbrev pub post_call : ℕ → ℕ → ℕ → List ℕ → Call
post_call slot label value image =
    record { argument_number = post_number slot label; input_number = image_number image; bytes = image_bytes (post slot label value (state_of image)); busy = 0 }

-- "The answer says delivered or dropped [..]; a refusal says dropped."
abbrev pub post_delivered : ℕ → ℕ → ℕ → List ℕ → List ℕ → Bool
post_delivered slot label value image out =
    eqb (call_number (post_call slot label value image) out) 0 && delivered slot label value (state_of image)

-- what the code promises of a post: what every call that writes does, and whether its message was delivered
abbrev pub PostPromise : ℕ → ℕ → ℕ → List ℕ → List ℕ → PostAnswer → List ℕ → Type 0
PostPromise slot label value image out told after =
    CallPromise (post_call slot label value image) out told.answer after × (told.delivered ≡ post_delivered slot label value image out)

-- what a post tells by what its code returned
abbrev pub as_post_answer : Result Posted Refusal → PostAnswer
as_post_answer (Ok p) = record { answer = as_answer (Ok p.written); delivered = p.delivered }
as_post_answer (Err r) = record { answer = refusal (number_of r); delivered = false }

-- ---- view: the view for label v

abbrev pub view_bytes : ℕ → List ℕ → List ℕ
view_bytes v image = image_bytes (view v (state_of image))

abbrev pub view_call : ℕ → List ℕ → Call
view_call v image = record { argument_number = observer_number v; input_number = image_number image; bytes = view_bytes v image; busy = 0 }
