-- The image: where its parts stand, the state in it, and the state's bytes.
use Rattle.std.specs.Prelude.{ℕ, zero, suc, ◌+◌, List, [], ◌∷◌, ◌++◌, length, get_or, take, drop}
use Rattle.wire.specs.Numbers.{decode_number, encode_number}
use Rattle.wire.specs.Items.{encode_items}
use Rattle.wire.specs.Fields.{size, decode_fields, encode_fields}
use Rattle.machine.specs.State.{Slot, State}
use Rattle.image.specs.Format.{front_fields}
use Rattle.image.specs.Record.{slot_of, record_bytes}

-- ---- ahead of the slots: the front's fields, the program, turn slot (1)

-- the first byte, by which everything else is read
unfoldable pub version_of : List ℕ → ℕ
version_of b = get_or b 0 0

unfoldable pub front : List ℕ → List ℕ
front b = decode_fields (front_fields (version_of b)) b

abbrev pub program_length : List ℕ → ℕ
program_length b = get_or (front b) 1 0

-- where the program, the turn slot and slot 0 begin
abbrev pub program_at : ℕ → ℕ
program_at v = size (front_fields v)

abbrev pub turn_slot_at : List ℕ → ℕ
turn_slot_at b = program_at (version_of b) + program_length b

abbrev pub slots_at : List ℕ → ℕ
slots_at b = turn_slot_at b + 1

abbrev pub program_of : List ℕ → List ℕ
program_of b = take (program_length b) (drop (program_at (version_of b)) b)

abbrev pub turn_slot_of : List ℕ → ℕ
turn_slot_of b = get_or b (turn_slot_at b) 0

-- the bytes from slot 0 on
unfoldable pub slots_part : List ℕ → List ℕ
slots_part b = drop (slots_at b) b

-- ---- the slots: a length (2) and a record of that length each

-- the length of the record at the front of b, the record, and the bytes behind it
unfoldable pub record_length : List ℕ → ℕ
record_length b = decode_number 2 b

abbrev pub record_of : List ℕ → List ℕ
record_of b = take (record_length b) (drop 2 b)

abbrev pub behind : List ℕ → List ℕ
behind b = drop (2 + record_length b) b

-- how many bytes k slots take, and the bytes behind them
unfoldable pub span : ℕ → List ℕ → ℕ
span zero b = 0
span (suc k) b = 2 + record_length b + span k (behind b)

unfoldable pub skip : ℕ → List ℕ → List ℕ
skip zero b = b
skip (suc k) b = skip k (behind b)

-- the first k slots, in an image of version v
unfoldable pub slots_of : ℕ → ℕ → List ℕ → List Slot
slots_of v zero b = []
slots_of v (suc k) b = slot_of v (record_of b) ∷ slots_of v k (behind b)

-- ---- the state in an accepted image

unfoldable pub state_of : List ℕ → State
state_of b =
    record { version = version_of b; program = program_of b; turn_slot = turn_slot_of b; slots = slots_of (version_of b) 16 (slots_part b) }

-- ---- a state to bytes

abbrev pub slot_bytes : ℕ → Slot → List ℕ
slot_bytes v x = encode_number 2 (length (record_bytes v x)) ++ record_bytes v x

-- what stands ahead of the slots
unfoldable pub ahead_bytes : ℕ → List ℕ → ℕ → List ℕ
ahead_bytes v program turn_slot = encode_fields (front_fields v) (v ∷ length program ∷ []) ++ program ++ (turn_slot ∷ [])

unfoldable pub image_bytes : State → List ℕ
image_bytes state = ahead_bytes state.version state.program state.turn_slot ++ encode_items (slot_bytes state.version) state.slots
