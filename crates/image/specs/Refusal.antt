-- The numbers a caller may receive, in the order of 01 and 02: each with its condition, behind what comes before it. The tests of
-- tasks taken apart, behind 4, 5, 9, 10 and 12, are machine's (machine/specs/Version.antt, Valid.antt). 16, and 5 and 6 of lines of text, are in
-- listing/specs/Listing.antt.
use Rattle.std.specs.Prelude.{ℕ, zero, suc, ◌+◌, ◌-◌, ◌/◌, ◌%◌, Bool, true, false, ◌&&◌, ◌||◌, List, leb, eqb, length, Option, Some, None}
use Rattle.instruction.specs.declared.Instruction.{Instruction}
use Rattle.instruction.specs.Program.{count, instruction_at}
use Rattle.machine.specs.Limits.{highest_label, highest_slot, most_messages, turn_limit}
use Rattle.machine.specs.Version.{is_version}
use Rattle.machine.specs.State.{Slot, unused, used}
use Rattle.machine.specs.Valid.{is_program_length, fields_in_range, mail_in_range, spares_unused}
use Rattle.image.specs.Format.{task_size, message_size}
use Rattle.image.specs.Record.{slot_of}
use Rattle.image.specs.Image.{version_of, program_at, program_length, program_of, turn_slot_at, turn_slot_of, slots_at, slots_part, record_length, record_of, behind, skip, slots_of}

-- ---- "The first met is given": 0 is none

infixr 20 ◌then◌
-- the second number only where the first is 0
abbrev pub ◌then◌ : ℕ → ℕ → ℕ
zero then y = y
suc x then y = suc x

-- the number x where the test fails
abbrev pub unless : Bool → ℕ → ℕ
unless true x = 0
unless false x = x

-- ---- "1 or 2 first, each only in the call that has that argument", and so are 14 and 15

-- 1 observer: the label asked for is above 15
abbrev pub observer_number : ℕ → ℕ
observer_number v = unless (leb v highest_label) 1

-- 2 turn limit: more than 1,000,000 turns
abbrev pub turn_limit_number : ℕ → ℕ
turn_limit_number n = unless (leb n turn_limit) 2

-- 14 post slot: above 15; then 15 post label: above 15 (02, U1, "both before the image is read")
abbrev pub post_number : ℕ → ℕ → ℕ
post_number slot label = unless (leb slot highest_slot) 14 then unless (leb label highest_label) 15

-- ---- "Then the image from front to back, a part checked whole for 3 before it is judged"

-- 3 short: b ends before its n-th byte
abbrev pub short : ℕ → List ℕ → ℕ
short n b = unless (leb n (length b)) 3

-- 4 version: first byte is neither 1 nor 2
unfoldable pub version_number : List ℕ → ℕ
version_number b = short 1 b then unless (is_version (version_of b)) 4

-- 6 instruction, behind 5 in `program_number`: not in the table, or an operand outside it
abbrev pub decoded_number : Option Instruction → ℕ
decoded_number (Some i) = 0
decoded_number None = 6

-- the first k instructions
unfoldable pub instructions_number : ℕ → List ℕ → ℕ
instructions_number zero program = 0
instructions_number (suc k) program = instructions_number k program then decoded_number (instruction_at program k)

-- 5 program length: no multiple of 4 from 4 to 1,024; then the program whole, and its instructions
unfoldable pub program_number : List ℕ → ℕ
program_number b =
    short (program_at (version_of b)) b
    then unless (is_program_length (program_length b)) 5
    then short (turn_slot_at b) b
    then instructions_number (count (program_of b)) (program_of b)

-- 7 turn slot: above 15
unfoldable pub turn_slot_number : List ℕ → ℕ
turn_slot_number b = short (slots_at b) b then unless (leb (turn_slot_of b) highest_slot) 7

-- ---- "per slot 8, 3, 9, 10", in an image of version v

-- 8 record length: neither 0 nor that of a task and k messages, k at most 64: 37 + 6 × k in version 1, 38 + 6 × k in version 2
unfoldable pub is_record_length : ℕ → ℕ → Bool
is_record_length v l =
    eqb l 0 || (leb (task_size v) l && eqb ((l - task_size v) % message_size) 0 && leb ((l - task_size v) / message_size) most_messages)

-- the length of the slot at the front of b, and that its record is there
unfoldable pub length_number : ℕ → List ℕ → ℕ
length_number v b =
    short 2 b
    then unless (is_record_length v (record_length b)) 8
    then short (2 + record_length b) b

-- 9 task field: kind, label, clearance, place out of range, the label not within the clearance, or s + spare above 15;
-- 10 mail: message label above 15 or sender above 16, or five or more of one label
abbrev pub record_number : ℕ → ℕ → ℕ → Slot → ℕ
record_number v s n unused = 0
record_number v s n (used t) = unless (fields_in_range v s n t) 9 then unless (mail_in_range t.mailbox) 10

-- slot s, at the front of b, of an image with n instructions
unfoldable pub slot_number : ℕ → ℕ → ℕ → List ℕ → ℕ
slot_number v s n b = length_number v b then record_number v s n (slot_of v (record_of b))

-- k slots from slot s on
unfoldable pub slots_number : ℕ → ℕ → ℕ → ℕ → List ℕ → ℕ
slots_number v zero s n b = 0
slots_number v (suc k) s n b = slot_number v s n b then slots_number v k (s + 1) n (behind b)

-- ---- "Then 11, 12, 13"

-- 11 tail: bytes after slot 15
unfoldable pub tail_number : List ℕ → ℕ
tail_number b = unless (eqb (length (skip 16 (slots_part b))) 0) 11

-- 12 estate: a used slot lies in another task's spare
unfoldable pub estate_number : List ℕ → ℕ
estate_number b = unless (spares_unused (slots_of (version_of b) 16 (slots_part b))) 12

-- the number of an image: the first that is met, and 0 where it is accepted
unfoldable pub image_number : List ℕ → ℕ
image_number b =
    version_number b
    then program_number b
    then turn_slot_number b
    then slots_number (version_of b) 16 0 (count (program_of b)) (slots_part b)
    then tail_number b
    then estate_number b

-- a call's number, given that of its arguments, 0 where they are within their limits or there are none, and that of what it reads;
-- 13 output: output shorter than the answer
abbrev pub first_met : ℕ → ℕ → List ℕ → List ℕ → ℕ
first_met argument input answer out = argument then input then unless (leb (length answer) (length out)) 13
