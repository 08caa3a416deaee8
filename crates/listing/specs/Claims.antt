-- What is claimed of programs as text; proofs/Claims.antt inhabits each. It is about the code: the calls are known by what they told and
-- wrote, and of that only what the code promises (proofs/Promises.antt). That a refused call writes nothing, and an accepted one its
-- answer and no more, is monitor's claim about every call that writes.
use Rattle.std.specs.Prelude.{ℕ, ◌*◌, ◌≤◌, ◌≢◌, ◌≡◌, true, List, length, take}
use Rattle.std.proofs.Math.Option.{Option, some}
use Rattle.wire.specs.Lists.{all, Bytes}
use Rattle.instruction.specs.Program.{all_legal}
use Rattle.machine.specs.Limits.{longest_program, most_lines, longest_listing}
use Rattle.machine.specs.Valid.{is_program_length}
use Rattle.monitor.specs.declared.Answer.{Answer}
use Rattle.monitor.specs.Calls.{CallPromise}
use Rattle.monitor.specs.Claims.{Exactly}
use Rattle.listing.specs.Listing.{Line, listing_text, Spells, is_admitted, AssemblePromise, lines_of, disassemble_call}

-- a text means the lines that spell it: a reader gives lines exactly where they do, and there is no second list
pub record TextsAreRead : Type 0 where
  pub read : List ℕ → Option (List Line)
  pub finds : (text : List ℕ) (ls : List Line) → Exactly (read text ≡ some ls) (Spells ls text)
  pub unique : (text : List ℕ) (ls ls' : List Line) → Spells ls text → Spells ls' text → ls ≡ ls'

-- ---- the numbers

-- "5, 6 and 13 in that order": 5 where the number of lines is wrong, 6 where an operand is, 13 where there is no room, each where
-- those before it are right; and no other number
pub record InOrder (lines operands room : Type 0) (number : ℕ) : Type 0 where
  pub five : Exactly (number ≡ 5) (lines → ⊥)
  pub six : Exactly (number ≡ 6) (lines × (operands → ⊥))
  pub thirteen : Exactly (number ≡ 13) (lines × operands × (room → ⊥))
  pub accepted : Exactly (number ≡ 0) (lines × operands × room)
  pub other : (k : ℕ) → k ≢ 0 → k ≢ 5 → k ≢ 6 → k ≢ 13 → number ≢ k

-- "The writer refuses text that isn't such a list with 16, tested before 5, 6 and 13 in that order." "Zero lines, or more than 256, is
-- number 5; an operand outside the table is 6."
abbrev pub WriterNumbers : Type 0
WriterNumbers =
    (text out : List ℕ) (told : Answer) (after : List ℕ) → AssemblePromise text out told after
    → Exactly (told.number ≡ 16) ((ls : List Line) → Spells ls text → ⊥)
    × ((ls : List Line) → Spells ls text
    → InOrder ((1 ≤ length ls) × (length ls ≤ most_lines)) (all (is_admitted (length ls)) ls ≡ true) (4 * length ls ≤ length out) told.number)

-- "The lister gives 5, 6 and 13 in that order."
abbrev pub ListerNumbers : Type 0
ListerNumbers =
    (program out : List ℕ) (told : Answer) (after : List ℕ) → CallPromise (disassemble_call program) out told after
    → InOrder (is_program_length (length program) ≡ true) (all_legal program ≡ true) (length (listing_text (lines_of program)) ≤ length out) told.number

-- an output of 1,024 bytes is long enough for every program, and one of 4,352 for every listing
abbrev pub LengthsAreEnough : Type 0
LengthsAreEnough =
    ((text out : List ℕ) (told : Answer) (after : List ℕ) → AssemblePromise text out told after → longest_program ≤ length out → told.number ≢ 13)
    × ((program out : List ℕ) (told : Answer) (after : List ℕ) → Bytes program → CallPromise (disassemble_call program) out told after
    → longest_listing ≤ length out → told.number ≢ 13)

-- ---- there and back

-- "Listing and typing in again gives equal bytes,"
abbrev pub ListThenType : Type 0
ListThenType =
    (program out : List ℕ) (told : Answer) (after : List ℕ) → Bytes program → CallPromise (disassemble_call program) out told after → told.number ≡ 0
    → (out' : List ℕ) (told' : Answer) (after' : List ℕ) → AssemblePromise (take told.length after) out' told' after' → length program ≤ length out'
    → (told'.number ≡ 0) × (take told'.length after' ≡ program)

-- "and so does the other way round."
abbrev pub TypeThenList : Type 0
TypeThenList =
    (text out : List ℕ) (told : Answer) (after : List ℕ) → AssemblePromise text out told after → told.number ≡ 0
    → (out' : List ℕ) (told' : Answer) (after' : List ℕ) → CallPromise (disassemble_call (take told.length after)) out' told' after'
    → length text ≤ length out'
    → (told'.number ≡ 0) × (take told'.length after' ≡ text)
