-- Laws of the sheet: that of the table is that of the view, and how long it is at most.
use Prim.Native.Nat.{ℕ, ◌+◌, ◌<◌, ◌≤◌}
use mathlib.Core.Path.{◌≡◌, sym, ap}
use mathlib.Core.List.{List, [], ◌∷◌, ◌++◌}
use native.Mathlib.Omega.{arith}
use lib.ListN.{length, get_or, length-append, get_or-map}
use Rattle.wire.specs.Lists.{tabulate, Bytes}
use Rattle.wire.specs.Items.{encode_items}
use Rattle.wire.proofs.Lists.{every_of}
use Rattle.wire.proofs.Items.{items_most}
use Rattle.label.specs.Label.{flows}
use Rattle.instruction.specs.Program.{count}
use Rattle.machine.specs.Limits.{sheet_room}
use Rattle.machine.specs.State.{Slot, unused, used, State, slot_at}
use Rattle.machine.specs.View.{view_slot, view_by}
use Rattle.machine.specs.Machine.{view}
use Rattle.machine.specs.Valid.{ValidSlot, Valid}
use Rattle.machine.proofs.Rules.{six_kinds, size_facts, task_facts}
use Rattle.machine.proofs.Mailbox.{mailbox_64}
use Rattle.machine.proofs.Machine.{view_valid}
use Rattle.image.specs.Image.{state_of}
use Rattle.image.specs.Refusal.{image_number}
use Rattle.image.proofs.Image.{accepted_valid}
use Rattle.table.specs.declared.Table.{Table}
use Rattle.table.specs.Table.{slots_in}
use Rattle.text.specs.Text.{ascii, decimal, spaced, line_rest}
use Rattle.sheet.specs.Sheet.{heading, slot_line, slot_lines, sheet_text, sheet_bytes, refusal_line}
use Rattle.sheet.specs.Inner.{shown_line, shown_lines, shown_sheet}
use Rattle.text.proofs.Text.{decimal_width, length_spaced, length_line}

-- ---- the table's sheet

pub sheet_shown : (v : ℕ) (table : Table) (s : State) → slots_in table ≡ s.slots → shown_sheet v table ≡ sheet_text (view v s)
unfolding shown_sheet shown_lines shown_line sheet_text slot_lines view_by
sheet_shown v table s loaded =
    rw loaded
    (ap (λ (g : ℕ → List ℕ). heading ++ encode_items g (tabulate 16 (λ s. s)))
    (λ i k. slot_line k (sym (get_or-map (view_slot (λ l. flows l v)) s.slots k unused) i)))

-- ---- how long it is

numbers_more : (x : ℕ) (xs : List ℕ) → length (encode_items spaced (x ∷ xs)) ≡ 1 + length (decimal x) + length (encode_items spaced xs)
unfolding encode_items
numbers_more x xs = omega (arith, length-append (spaced x) (encode_items spaced xs), length_spaced x)

-- a line of five numbers behind another
line_length_lem : (s kind label spare pc mail : ℕ)
    → length (decimal s ++ line_rest (kind ∷ label ∷ spare ∷ pc ∷ mail ∷ []))
    ≡ length (decimal s) + (length (decimal kind) + (length (decimal label) + (length (decimal spare) + (length (decimal pc) + length (decimal mail))))) + 6
unfolding encode_items
line_length_lem s kind label spare pc mail =
    omega (
      arith,
      length-append (decimal s) (line_rest (kind ∷ label ∷ spare ∷ pc ∷ mail ∷ [])),
      length_line (kind ∷ label ∷ spare ∷ pc ∷ mail ∷ []),
      numbers_more kind (label ∷ spare ∷ pc ∷ mail ∷ []),
      numbers_more label (spare ∷ pc ∷ mail ∷ []),
      numbers_more spare (pc ∷ mail ∷ []),
      numbers_more pc (mail ∷ []),
      numbers_more mail [],
    )

-- eighteen bytes at most of a slot that keeps the rules
slot_line_length : (v n s : ℕ) (x : Slot) → n ≤ 256 → ValidSlot v n s x → length (slot_line s x) ≤ 18
unfolding slot_line
slot_line_length v n s unused h ok = omega arith
slot_line_length v n s (used t) h ok =
    let f = task_facts v n s t ok in
    omega (
      arith,
      line_length_lem s t.kind t.label t.spare t.pc (length t.mailbox),
      decimal_width 1 s (omega (arith, f.spare)),
      decimal_width 0 t.kind (omega (arith, f.kind_high, six_kinds v)),
      decimal_width 1 t.label (omega (arith, f.label)),
      decimal_width 1 t.spare (omega (arith, f.spare)),
      decimal_width 2 t.pc (omega (arith, f.pc)),
      decimal_width 1 (length t.mailbox) (omega (arith, mailbox_64 t.mailbox f.mailbox)),
    )

sheet_length : (s : State) → Valid s → length (sheet_text s) ≤ sheet_room
unfolding sheet_text slot_lines heading ascii tabulate
sheet_length s ok =
    let n : count s.program ≤ 256 = omega (arith, size_facts (length s.program) ok.size) in
    let line : (k : ℕ) → length (slot_line k (slot_at s.slots k)) ≤ 18
    = λ k. slot_line_length s.version (count s.program) k (slot_at s.slots k) n (ok.tasks k) in
    let slots = tabulate 16 (λ k. k) in
    let lines = items_most (λ k. slot_line k (slot_at s.slots k)) 18 slots
    (every_of (λ k. length (slot_line k (slot_at s.slots k)) ≤ 18) 0 slots (λ i. line (get_or slots i 0))) in
    rw length-append (omega (arith, lines))

-- of a view of an accepted image
pub sheet_fits : (v : ℕ) (image : List ℕ) → Bytes image → image_number image ≡ 0 → length (sheet_bytes v image) ≤ sheet_room
sheet_fits v image bytes accepted =
    let s = state_of image in
    sheet_length (view v s) (view_valid v s (accepted_valid image bytes accepted))

-- ---- a refusal

pub refusal_length : (n : ℕ) → n < 1000 → length (refusal_line n) ≤ 12
unfolding refusal_line ascii tabulate encode_items
refusal_length n h = omega (arith, length_line (n ∷ []), numbers_more n [], decimal_width 2 n h)
