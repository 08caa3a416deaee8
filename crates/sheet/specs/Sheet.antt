-- The observer sheet, the call that writes it, and what the program `slotsheet` prints.
use Rattle.std.specs.Prelude.{ℕ, cond, List, [], ◌∷◌, ◌++◌, leb, eqb, length}
use Rattle.wire.specs.Lists.{tabulate}
use Rattle.wire.specs.Items.{encode_items}
use Rattle.machine.specs.Limits.{input_room}
use Rattle.machine.specs.State.{Slot, unused, used, State, slot_at}
use Rattle.machine.specs.Machine.{view}
use Rattle.image.specs.Refusal.{◌then◌, observer_number, image_number}
use Rattle.image.specs.Image.{state_of}
use Rattle.monitor.specs.Calls.{Call}
use Rattle.text.specs.Text.{ascii, decimal, line_rest}

-- ---- the sheet: a heading and one line per used slot

unfoldable pub heading : List ℕ
heading = ascii "slot kind label spare pc mail\n"

-- slot, kind, label, spare, place, number of messages
unfoldable pub slot_line : ℕ → Slot → List ℕ
slot_line s unused = []
slot_line s (used t) = decimal s ++ line_rest (t.kind ∷ t.label ∷ t.spare ∷ t.pc ∷ length t.mailbox ∷ [])

unfoldable pub slot_lines : List Slot → List ℕ
slot_lines ss = encode_items (λ s. slot_line s (slot_at ss s)) (tabulate 16 (λ s. s))

unfoldable pub sheet_text : State → List ℕ
sheet_text state = heading ++ slot_lines state.slots

-- ---- the call: the sheet of the view for label v, with the numbers of the view call

abbrev pub sheet_bytes : ℕ → List ℕ → List ℕ
sheet_bytes v image = sheet_text (view v (state_of image))

abbrev pub sheet_call : ℕ → List ℕ → Call
sheet_call v image = record { argument_number = observer_number v; input_number = image_number image; bytes = sheet_bytes v image; busy = 0 }

-- ---- the program

unfoldable pub refusal_line : ℕ → List ℕ
refusal_line n = ascii "refused" ++ line_rest (n ∷ [])

-- of an observer byte and an image: the sheet, or the number that the call tells where its output has room
abbrev pub printed_for : ℕ → List ℕ → List ℕ
printed_for v image =
    let n = observer_number v then image_number image in
    cond (eqb n 0) (sheet_bytes v image) (refusal_line n)

-- of standard input: one observer byte and then an image. Empty input prints `refused 3`.
abbrev pub printed_within : List ℕ → List ℕ
printed_within [] = refusal_line 3
printed_within (v ∷ image) = printed_for v image

-- longer input than 8,192 bytes is `refused 11`, ahead of every other
unfoldable pub printed : List ℕ → List ℕ
printed input = cond (leb (length input) input_room) (printed_within input) (refusal_line 11)
