-- What is claimed of the sheet and of what the program prints; proofs/Claims.antt inhabits each.
use Rattle.std.specs.Prelude.{ℕ, ◌<◌, ◌≤◌, ◌≢◌, ◌≡◌, List, [], ◌∷◌, length}
use Rattle.machine.specs.Limits.{highest_label, sheet_room, input_room}
use Rattle.machine.specs.Machine.{turns}
use Rattle.image.specs.Image.{image_bytes}
use Rattle.monitor.specs.Calls.{call_answer, view_bytes}
use Rattle.monitor.specs.CallList.{HostCall, final_image, Agree, KeptPromises}
use Rattle.monitor.specs.Claims.{Accepted, Exactly, NumbersByCause, TellTheSame}
use Rattle.monitor.specs.Examples.{b, receiver}
use Rattle.text.specs.Text.{ascii}
use Rattle.sheet.specs.Sheet.{sheet_bytes, sheet_call, printed}

-- the sheet's call tells 0, or a number of the table other than 2. That it writes its answer and no more is monitor's claim about
-- every call that writes
abbrev pub SheetNumbersAreListed : Type 0
SheetNumbersAreListed = (v : ℕ) (image out : List ℕ) → ((call_answer (sheet_call v image) out).number ≤ 13) × ((call_answer (sheet_call v image) out).number ≢ 2)

-- 1 exactly where the observer is above 15
abbrev pub SheetLimitIsRefused : Type 0
SheetLimitIsRefused = (v : ℕ) (image out : List ℕ) → Exactly ((call_answer (sheet_call v image) out).number ≡ 1) (highest_label < v)

-- each number by what gives it, as of the other calls that write
abbrev pub SheetNumbersByCause : Type 0
SheetNumbersByCause = (v : ℕ) (image out : List ℕ) → NumbersByCause (sheet_call v image) out

-- an output of 318 bytes is long enough for every sheet
abbrev pub SheetLength : Type 0
SheetLength = (v : ℕ) (image : List ℕ) → Accepted image → length (sheet_bytes v image) ≤ sheet_room

-- a sheet tells no more than the view
abbrev pub SheetsFollowViews : Type 0
SheetsFollowViews =
    (v : ℕ) (image image' : List ℕ) → Accepted image → Accepted image' → view_bytes v image ≡ view_bytes v image'
    → TellTheSame (sheet_call v image) (sheet_call v image')

-- the secrecy rule for sheets: monitor's `Secrecy`, with the sheet that the observer is shown in place of the view
abbrev pub SheetSecrecy : Type 0
SheetSecrecy =
    (v : ℕ) → v ≤ highest_label
    → (image image' : List ℕ) → Accepted image → Accepted image' → view_bytes v image ≡ view_bytes v image'
    → (calls calls' : List HostCall) → KeptPromises calls image → KeptPromises calls' image' → Agree v calls calls'
    → TellTheSame (sheet_call v (final_image calls image)) (sheet_call v (final_image calls' image'))

-- rows of what the program prints
pub record Prints : Type 0 where
  -- "`slotsheet`, fed byte 00 and the image of P2, prints whole"
  pub p2 : printed (0 ∷ image_bytes (turns 1 (b 0 0 receiver))) ≡ ascii "slot kind label spare pc mail\n0 1 0 0 1 0\n5 1 0 0 2 1\n"
  -- "empty input prints `refused 3`"
  pub empty : printed [] ≡ ascii "refused 3\n"
  -- an observer above 15 is refused ahead of the image
  pub observer : printed (16 ∷ []) ≡ ascii "refused 1\n"
  -- "The reading program's input buffer is 8,192 bytes; longer input is `refused 11`, ahead of every other."
  pub longer : (input : List ℕ) → input_room < length input → printed input ≡ ascii "refused 11\n"
