-- Images as rows of one claim: the shortest and the longest, one for each number, those with two faults, which get the first met,
-- and what version 2 has; and the order over a call.
use Rattle.std.specs.Prelude.{ℕ, zero, suc, ◌≡◌, List, [], ◌∷◌, ◌++◌, length, set, take, replicate}
use Rattle.machine.specs.Limits.{shortest_image, longest_image}
use Rattle.machine.specs.declared.Message.{Message}
use Rattle.machine.specs.State.{Task, Slot, unused, used, with_kind, with_mailbox}
use Rattle.image.specs.Image.{state_of, slot_bytes, image_bytes}
use Rattle.image.specs.Refusal.{image_number, first_met}

-- a live task with its registers 0 and no mail, and one with clearance 15
abbrev pub cleared : ℕ → ℕ → ℕ → ℕ → Task
cleared label clearance spare pc =
    record { kind = 1; label = label; clearance = clearance; spare = spare; pc = pc; registers = replicate 8 0; mailbox = [] }

abbrev pub task : ℕ → ℕ → ℕ → Task
task label spare pc = cleared label 15 spare pc

abbrev pub message : ℕ → ℕ → ℕ → Message
message label sender value = record { label = label; sender = sender; value = value }

-- the slots with one used, and with two
abbrev pub one : ℕ → Task → List Slot
one s t = set (replicate 16 unused) s (used t)

abbrev pub two : ℕ → Task → ℕ → Task → List Slot
two s t s' t' = set (one s t) s' (used t')

-- the image of these slots in version v, with `end` as its program, and its number; and in version 1
abbrev pub image_in : ℕ → List Slot → List ℕ
image_in v slots = image_bytes (record { version = v; program = 0 ∷ 0 ∷ 0 ∷ 0 ∷ []; turn_slot = 0; slots = slots })

abbrev pub number_in : ℕ → List Slot → ℕ
number_in v slots = image_number (image_in v slots)

abbrev pub image : List Slot → List ℕ
image = image_in 1

abbrev pub number_of : List Slot → ℕ
number_of = number_in 1

abbrev pub empty_image : List ℕ
empty_image = image (replicate 16 unused)

-- n messages of label 2, and four messages of each label below n
abbrev pub of_two : ℕ → Task
of_two n = with_mailbox (replicate n (message 2 0 0)) (task 0 0 0)

abbrev pub four_of_each : ℕ → List Message
four_of_each zero = []
four_of_each (suc n) = replicate 4 (message n 0 0) ++ four_of_each n

-- 256 instructions and sixteen tasks of 64 messages
abbrev pub full_image : ℕ → List ℕ
full_image v =
    image_bytes (record { version = v; program = replicate 1024 0; turn_slot = 0; slots = replicate 16 (used (with_mailbox (four_of_each 16) (task 0 0 0))) })

pub record Examples : Type 0 where
  -- "The shortest image has 40 bytes", "The longest image has 7,812 bytes": of version 2; the same image in version 1 has 7,796
  pub shortest : (image_number empty_image ≡ 0) × (length empty_image ≡ shortest_image)
  pub longest : (image_number (full_image 2) ≡ 0) × (length (full_image 2) ≡ longest_image)
  pub longest_of1 : (image_number (full_image 1) ≡ 0) × (length (full_image 1) ≡ 7796)
  -- 3 to 8 and 11, in the shortest image
  pub short : image_number (take 39 empty_image) ≡ 3
  pub version : (image_number (set empty_image 0 0) ≡ 4) × (image_number (set empty_image 0 3) ≡ 4)
  pub program_length : image_number (set empty_image 2 6) ≡ 5
  pub instruction : image_number (set empty_image 3 0xFF) ≡ 6
  pub turn_slot : image_number (set empty_image 7 16) ≡ 7
  pub record_length : image_number (set empty_image 9 36) ≡ 8
  pub tail : image_number (empty_image ++ (0 ∷ [])) ≡ 11
  -- "neither 0 nor 37 + 6 × k, k at most 64": 65 messages, in either version
  pub too_long : (number_of (one 3 (of_two 65)) ≡ 8) × (number_in 2 (one 3 (of_two 65)) ≡ 8)
  -- "4 messages of one label accepted, 5 refused with 10."
  pub mail : (number_of (one 3 (of_two 4)) ≡ 0) × (number_of (one 3 (of_two 5)) ≡ 10)
  -- "Spare 12 in slot 3 accepted, 13 refused with 9."
  pub spare : (number_of (one 3 (task 0 12 0)) ≡ 0) × (number_of (one 3 (task 0 13 0)) ≡ 9)
  -- "Slot 3 with spare 2: slot 5 used gives 12, slot 6 used is accepted."
  pub estate : (number_of (two 3 (task 0 2 0) 5 (task 0 0 0)) ≡ 12) × (number_of (two 3 (task 0 2 0) 6 (task 0 0 0)) ≡ 0)
  -- "a part checked whole for 3 before it is judged": the program ahead of its instructions, a record ahead of its fields
  pub whole : (image_number (take 6 (set empty_image 3 0xFF)) ≡ 3) × (image_number (take 46 (image (one 0 (with_kind 9 (task 0 0 0))))) ≡ 3)
  -- "per slot 8, 3, 9, 10": 8 ahead of 3, 9 ahead of 10, and a slot ahead of the next
  pub slots : (image_number (take 10 (set empty_image 9 36)) ≡ 8)
      × (number_of (one 0 (with_kind 9 (of_two 5))) ≡ 9)
      × (number_of (two 0 (of_two 5) 1 (with_kind 9 (task 0 0 0))) ≡ 10)
  -- "Then 11, 12": 11 ahead of 12
  pub order : image_number (image (two 3 (task 0 2 0) 5 (task 0 0 0)) ++ (0 ∷ [])) ≡ 11
  -- "Image version 2 adds one byte after a task's label, the clearance": the record's length, kind, label, clearance and spare
  pub layout : (take 6 (slot_bytes 2 (used (cleared 1 3 2 0))) ≡ 0 ∷ 38 ∷ 1 ∷ 1 ∷ 3 ∷ 2 ∷ []) × (take 5 (slot_bytes 1 (used (task 1 2 0))) ≡ 0 ∷ 37 ∷ 1 ∷ 1 ∷ 2 ∷ [])
  -- "A clearance above 15, or a label not a subset of it, is number 9."
  pub clearance : (number_in 2 (one 3 (cleared 0 16 0 0)) ≡ 9) × (number_in 2 (one 3 (cleared 1 2 0 0)) ≡ 9) × (number_in 2 (one 3 (cleared 1 3 0 0)) ≡ 0)
  -- "Version 1 images read as clearance 15, and are written as version 1"
  pub read_as15 : (state_of (image (one 3 (task 0 0 0)))).slots ≡ one 3 (cleared 0 15 0 0)
  pub written_as1 : take 1 (image_bytes (state_of (image (one 3 (task 0 0 0))))) ≡ 1 ∷ []
  -- "Kind 6 and version 2's lengths apply to version 2 only": kind 6 in each, kind 7, and an image of each with the other's version byte
  pub kind6 : (number_in 2 (one 3 (with_kind 6 (task 0 0 0))) ≡ 0)
      × (number_in 1 (one 3 (with_kind 6 (task 0 0 0))) ≡ 9)
      × (number_in 2 (one 3 (with_kind 7 (task 0 0 0))) ≡ 9)
  pub exchanged : (image_number (set (image_in 2 (one 3 (task 0 0 0))) 0 1) ≡ 8) × (image_number (set (image_in 1 (one 3 (task 0 0 0))) 0 2) ≡ 8)
  -- "Order: 1 or 2 first [..]. Then the image from front to back [..] 13": each ahead of the next, where all are met
  pub call : (first_met 1 (image_number []) (0 ∷ []) [] ≡ 1)
      × (first_met 0 (image_number []) (0 ∷ []) [] ≡ 3)
      × (first_met 0 (image_number empty_image) (0 ∷ []) [] ≡ 13)
