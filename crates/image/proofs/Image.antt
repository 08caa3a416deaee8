-- The round trips of an image: accepted bytes give a valid state that is written as they were, and a valid state's
-- bytes are accepted and give it back; the lengths of an image; the part of a record.
use Prim.Native.Nat.{ℕ, ◌+◌, ◌-◌, ◌<◌, ◌≤◌, min}
use mathlib.Core.Logic.{◌≢◌}
use mathlib.Core.Path.{◌≡◌, sym, ap, ap₂, ◌∙◌}
use mathlib.Core.Bool.{true, ◌&&◌, and-false}
use mathlib.Core.List.{List, [], ◌++◌, append-nil}
use native.Mathlib.Nat.{zero-add}
use native.Mathlib.Omega.{arith}
use borrow.Author.Tests.{leb-true, le-leb, eqb-true, eqb-false, ne_eqb}
use lib.Dec.{leb, eqb}
use lib.ListN.{length, get_or, take, drop, length-append, length-take, length-drop, take-append-drop}
use lib.Seq.{drop-drop}
use Rattle.wire.specs.Lists.{Bytes}
use Rattle.wire.proofs.Lists.{IsByte, split, and_both, length_nil, take_length_take, every_drop, every_take, every_append}
use Rattle.instruction.specs.Program.{count, all_legal}
use Rattle.machine.specs.Limits.{highest_slot, shortest_image, longest_image}
use Rattle.machine.specs.Version.{is_version}
use Rattle.machine.specs.State.{State, slot_at}
use Rattle.machine.specs.Valid.{is_program_length, spares_unused, ValidSlot, Valid}
use Rattle.machine.proofs.Rules.{size_facts}
use Rattle.image.specs.Refusal.{◌then◌, unless, short, version_number, program_number, turn_slot_number, slots_number, tail_number, estate_number, image_number}
use Rattle.image.specs.Record.{slot_of, record_bytes}
use Rattle.image.specs.Image.{version_of, program_at, program_length, turn_slot_at, slots_at, program_of, turn_slot_of, slots_part, record_length, record_of, span, skip, slots_of, state_of}
use Rattle.image.specs.Image.{ahead_bytes, image_bytes}
use Rattle.image.specs.Inner.{from_slot}
use Rattle.image.specs.Part.{record_start, record_part, record_extent}
use Rattle.image.proofs.Refusal.{instructions_number_lem, then_left, then_right, then_assoc, then_holds, Listed, listed_unless, listed_short, unless_none, short_none}
use Rattle.image.proofs.Front.{program_size, ahead_back, ahead_length, ahead_bytes_lem, version_is, length_is, program_is, turn_slot_is, slots_are}
use Rattle.image.proofs.Slots.{slots_bytes, slots_back, slots_valid, slots_length, slots_listed, length_slots_of, slot_at_lem, skip_drop, record_at, slots_number_lem, slots_forth, slots_end, slots_bytes_lem}

-- what stands ahead of the slots, then the rest
pub image_number_lem : (b : List ℕ) → image_number b
    ≡ ((version_number b then program_number b then turn_slot_number b)
    then slots_number (version_of b) 16 0 (count (program_of b)) (slots_part b)
    then tail_number b
    then estate_number b)
unfolding image_number
image_number_lem b =
    let rest = slots_number (version_of b) 16 0 (count (program_of b)) (slots_part b) then tail_number b then estate_number b in
    sym (then_assoc (version_number b) (program_number b then turn_slot_number b) rest ∙ ap (λ (x : ℕ). version_number b then x) (then_assoc (program_number b) (turn_slot_number b) rest))

-- ---- what acceptance says, part by part

record InOrder (b : List ℕ) : Type 0 where
  pub version : is_version (version_of b) ≡ true
  pub size : is_program_length (program_length b) ≡ true
  pub legal : all_legal (program_of b) ≡ true
  pub ahead : slots_at b ≤ length b
  pub turn_slot : leb (turn_slot_of b) highest_slot ≡ true
  pub slots : slots_number (version_of b) 16 0 (count (program_of b)) (slots_part b) ≡ 0
  pub tail : skip 16 (slots_part b) ≡ []
  pub spares : spares_unused (slots_of (version_of b) 16 (slots_part b)) ≡ true

in_order : (b : List ℕ) → image_number b ≡ 0 → InOrder b
unfolding image_number version_number program_number turn_slot_number tail_number estate_number
in_order b e =
    let p = then_right (version_number b) _ e in
    let t = then_right (program_number b) _ p in
    let s = then_right (turn_slot_number b) _ t in
    let r = then_right (slots_number (version_of b) 16 0 (count (program_of b)) (slots_part b)) _ s in
    let p₂ = then_right (short (program_at (version_of b)) b) _ (then_left (program_number b) _ p) in
    let p₃ = then_right (unless (is_program_length (program_length b)) 5) _ p₂ in
    let p₄ = then_right (short (turn_slot_at b) b) _ p₃ in
    let t₂ = then_left (turn_slot_number b) _ t in
    record {
      version = unless_none (is_version (version_of b)) 3 (then_right (short 1 b) _ (then_left (version_number b) _ e));
      size = unless_none (is_program_length (program_length b)) 4 (then_left _ _ p₂);
      legal = unless_none (all_legal (program_of b)) 5 (sym (instructions_number_lem (program_of b)) ∙ p₄);
      ahead = short_none (slots_at b) b (then_left _ _ t₂);
      turn_slot = unless_none (leb (turn_slot_of b) highest_slot) 6 (then_right (short (slots_at b) b) _ t₂);
      slots = then_left _ _ s;
      tail = length_nil _ (eqb-true _ _ (unless_none (eqb (length (skip 16 (slots_part b))) 0) 10 (then_left (tail_number b) _ r)));
      spares = unless_none (spares_unused (slots_of (version_of b) 16 (slots_part b))) 11 (then_right (tail_number b) _ r);
    }

module _ (b : List ℕ) (e : image_number b ≡ 0) where
  -- the shortest image has 40 bytes, the longest 7,812
  pub accepted_length : (shortest_image ≤ length b) × (length b ≤ longest_image)
  unfolding slots_part
  accepted_length =
      let a = in_order b e in
      let f = size_facts (program_length b) a.size in
      let s = slots_length (version_of b) 16 0 (count (program_of b)) (slots_part b) a.slots in
      let z : length (skip 16 (slots_part b)) ≡ 0 = ap length a.tail in
      let d = length-drop (slots_at b) b in
      (omega (arith, a.ahead), omega (arith, a.ahead))

module _ (b : List ℕ) (h : Bytes b) (e : image_number b ≡ 0) where
  -- ---- an accepted image holds a valid state

  pub accepted_valid : Valid (state_of b)
  unfolding state_of slots_part
  accepted_valid =
      let a = in_order b e in
      let s = drop (slots_at b) b in
      record {
        version = a.version;
        size = rw (program_size b h a.ahead) a.size;
        bytes = every_take IsByte (program_length b) (drop (program_at (version_of b)) b) (every_drop IsByte (program_at (version_of b)) b h);
        legal = a.legal;
        turn_slot = a.turn_slot;
        slot_count = length_slots_of (version_of b) 16 s;
        tasks = λ i. rw zero-add at (slots_valid (version_of b) 16 0 (count (program_of b)) s (every_drop IsByte (slots_at b) b h) a.slots i);
        spares = a.spares;
      }

  -- ---- and is written as it was read

  slots_written : slots_bytes (version_of b) (slots_of (version_of b) 16 (slots_part b)) ≡ slots_part b
  unfolding slots_part
  slots_written =
      let a = in_order b e in
      let v = version_of b in
      let s = drop (slots_at b) b in
      let w = slots_bytes v (slots_of v 16 s) in
      sym (append-nil w) ∙ ap (λ (t : List ℕ). w ++ t) (sym a.tail) ∙ slots_back v 16 0 (count (program_of b)) s (every_drop IsByte (slots_at b) b h) a.slots

  pub image_back : image_bytes (state_of b) ≡ b
  unfolding image_bytes state_of slots_part
  image_back = ap₂ (λ (x y : List ℕ). x ++ y) (ahead_back b h (in_order b e).ahead) slots_written ∙ take-append-drop (slots_at b) b

-- ---- a valid state's bytes are accepted and give it back

module _ (s : State) (ok : Valid s) where
  abbrev v : ℕ
  v = s.version

  abbrev slotted : List ℕ
  slotted = slots_bytes v s.slots

  abbrev whole : List ℕ
  whole = ahead_bytes v s.program s.turn_slot ++ slotted

  version_byte : v < 256
  version_byte = omega (arith, leb-true v 2 (and_both (leb 1 v) (leb v 2) ok.version).1)

  short_program : length s.program < 65536
  short_program = omega (arith, size_facts (length s.program) ok.size)

  few : count s.program ≤ 256
  few = omega (arith, size_facts (length s.program) ok.size)

  tasks_from_0 : (i : ℕ) → ValidSlot v (count s.program) (0 + i) (slot_at s.slots i)
  tasks_from_0 i = rw zero-add (ok.tasks i)

  pub image_bytes_lem : Bytes (image_bytes s)
  unfolding image_bytes
  image_bytes_lem =
      every_append IsByte (ahead_bytes v s.program s.turn_slot) slotted
      (ahead_bytes_lem v s.program s.turn_slot ok.bytes (omega (arith, leb-true s.turn_slot highest_slot ok.turn_slot))) (slots_bytes_lem v s.slots)

  slots_read : slots_of v 16 slotted ≡ s.slots
  slots_read = ap (λ (k : ℕ). slots_of v k slotted) (sym ok.slot_count) ∙ slots_forth v (count s.program) few 0 s.slots tasks_from_0

  pub image_forth : state_of (image_bytes s) ≡ s
  unfolding image_bytes state_of slots_part
  image_forth =
      let w = version_is v s.program s.turn_slot version_byte short_program slotted in
      let l = length_is v s.program s.turn_slot version_byte short_program slotted in
      let p = ap₂ (λ (n m : ℕ). take m (drop (program_at n) whole)) w l ∙ program_is v s.program s.turn_slot version_byte short_program slotted in
      let t = ap₂ (λ (n m : ℕ). get_or whole (program_at n + m) 0) w l ∙ turn_slot_is v s.program s.turn_slot version_byte short_program slotted in
      let q = ap₂ (λ (n m : ℕ). drop (program_at n + m + 1) whole) w l ∙ slots_are v s.program s.turn_slot version_byte short_program slotted in
      let r = ap₂ (λ (n : ℕ) (b : List ℕ). slots_of n 16 b) w q ∙ slots_read in
      λ i. record { version = w i; program = p i; turn_slot = t i; slots = r i }

  slots_none : slots_number v 16 0 (count s.program) slotted ≡ 0
  slots_none =
      ap (λ (k : ℕ). slots_number v k 0 (count s.program) slotted) (sym ok.slot_count) ∙ slots_number_lem v (count s.program) few 0 s.slots tasks_from_0

  tail_none : skip 16 slotted ≡ []
  tail_none = ap (λ (k : ℕ). skip k slotted) (sym ok.slot_count) ∙ slots_end v (count s.program) few 0 s.slots tasks_from_0

  pub image_accepted : image_number (image_bytes s) ≡ 0
  unfolding image_bytes image_number version_number program_number turn_slot_number slots_part tail_number estate_number
  image_accepted =
      let p = s.program in
      let t = s.turn_slot in
      let m : program_at v + length p + 1 ≤ length whole = omega (arith, ahead_length v p t, length-append (ahead_bytes v p t) slotted) in
      simp (
        version_is v p t version_byte short_program slotted,
        length_is v p t version_byte short_program slotted,
        program_is v p t version_byte short_program slotted,
        turn_slot_is v p t version_byte short_program slotted,
        slots_are v p t version_byte short_program slotted,
        slots_read,
        slots_none,
        tail_none,
        ok.version,
        ok.size,
        instructions_number_lem p,
        ok.legal,
        ok.turn_slot,
        ok.spares,
        le-leb 1 (length whole) (omega arith),
        le-leb (program_at v) (length whole) (omega arith),
        le-leb (program_at v + length p) (length whole) (omega arith),
        le-leb (program_at v + length p + 1) (length whole) m,
      )

-- ---- an image's number is one of the table

program_listed : (b : List ℕ) → Listed (program_number b)
unfolding program_number
program_listed b =
    let l = program_length b in
    then_holds Listed (short (program_at (version_of b)) b) _ (listed_short (program_at (version_of b)) b)
    (then_holds Listed (unless (is_program_length l) 5) _ (listed_unless (is_program_length l) 5 (omega arith) (omega arith))
    (then_holds Listed (short (turn_slot_at b) b) _ (listed_short (turn_slot_at b) b) (rw (instructions_number_lem (program_of b)) (listed_unless (all_legal (program_of b)) 6 (omega arith) (omega arith)))))

pub image_listed : (b : List ℕ) → Listed (image_number b)
unfolding image_number version_number turn_slot_number tail_number estate_number
image_listed b =
    let n = count (program_of b) in
    then_holds Listed (version_number b) _ (then_holds Listed (short 1 b) _ (listed_short 1 b) (listed_unless (is_version (version_of b)) 4 (omega arith) (omega arith)))
    (then_holds Listed (program_number b) _ (program_listed b)
    (then_holds Listed (turn_slot_number b) _
    (then_holds Listed (short (slots_at b) b) _ (listed_short (slots_at b) b) (listed_unless (leb (turn_slot_of b) highest_slot) 7 (omega arith) (omega arith)))
    (then_holds Listed (slots_number (version_of b) 16 0 n (slots_part b)) _ (slots_listed (version_of b) 16 0 n (slots_part b))
    (then_holds Listed (tail_number b) _ (listed_unless (eqb (length (skip 16 (slots_part b))) 0) 11 (omega arith) (omega arith))
    (listed_unless (spares_unused (slots_of (version_of b) 16 (slots_part b))) 12 (omega arith) (omega arith))))))

-- ---- the part that holds a record

-- the bytes behind the first s slots
slots_behind : (b : List ℕ) (s : ℕ) → drop (slots_at b + span s (slots_part b)) b ≡ skip s (slots_part b)
unfolding slots_part
slots_behind b s = let part = drop (slots_at b) b in sym (drop-drop (span s part) (slots_at b) b) ∙ sym (skip_drop s part)

-- where it stands: behind its length
record_at_start : (b : List ℕ) (s : ℕ) → drop (record_start b s) b ≡ drop 2 (skip s (slots_part b))
unfolding record_start
record_at_start b s = sym (drop-drop 2 (slots_at b + span s (slots_part b)) b) ∙ ap (drop 2) (slots_behind b s)

-- it is what the slot's task is written as
pub record_accepted : (b : List ℕ) (s : ℕ) → Bytes b → image_number b ≡ 0 → s ≤ highest_slot
    → record_bytes (version_of b) (slot_of (version_of b) (record_of (skip s (slots_part b)))) ≡ record_of (skip s (slots_part b))
unfolding slots_part
record_accepted b s h e l =
    record_at (version_of b) 16 s 0 (count (program_of b)) (slots_part b) (every_drop IsByte (slots_at b) b h) (in_order b e).slots (omega arith)

pub record_part_lem : (b : List ℕ) (s : ℕ) → Bytes b → image_number b ≡ 0 → s ≤ highest_slot → record_part b s ≡ record_bytes (version_of b) (slot_at (state_of b).slots s)
unfolding record_part state_of
record_part_lem b s h e l =
    rw (le-leb s highest_slot l, e, record_at_start b s, slot_at_lem (version_of b) 16 s (slots_part b) (omega arith)) (sym (record_accepted b s h e l))

-- a slot above 15 has none, nor has a refused image
pub record_above : (b : List ℕ) (s : ℕ) → (s ≤ highest_slot → ⊥) → record_part b s ≡ []
unfolding record_part
record_above b s h = split (leb s highest_slot) (λ e. absurd (h (leb-true s highest_slot e))) (λ e. rw e)

pub record_refused : (b : List ℕ) (s : ℕ) → (image_number b ≡ 0 → ⊥) → record_part b s ≡ []
unfolding record_part
record_refused b s h = rw (ne_eqb (image_number b) 0 h, and-false)

-- and it stands in the image at its start
pub record_inside : (b : List ℕ) (s : ℕ) → record_part b s ≡ take (length (record_part b s)) (drop (record_start b s) b)
unfolding record_part
record_inside b s =
    split (leb s highest_slot && eqb (image_number b) 0)
    (λ e. rw e (take_length_take (record_length (skip s (slots_part b))) (drop (record_start b s) b)))
    (λ e. rw e)

-- where it is not empty, it ends within the image
record_within : (b : List ℕ) (s : ℕ) → length (record_part b s) ≢ 0 → record_start b s + length (record_part b s) ≤ length b
record_within b s h =
    let l = ap length (record_inside b s) ∙ length-take (length (record_part b s)) (drop (record_start b s) b) in
    let d = length-drop (record_start b s) b in
    omega arith

-- it is at the front of the bytes from its slot on, behind its length
pub record_front : (b : List ℕ) (s : ℕ) → record_part b s ≡ record_of (from_slot b s)
unfolding record_part from_slot record_length
record_front b s = split (leb s highest_slot && eqb (image_number b) 0) (λ e. rw (e, record_at_start b s)) (λ e. rw e)

-- and starts behind the bytes ahead of these and its length
record_start_lem : (b : List ℕ) (s : ℕ) → length (record_part b s) ≢ 0
    → (length (from_slot b s) ≤ length b) × (length b - length (from_slot b s) + 2 ≡ record_start b s)
unfolding record_start record_part from_slot
record_start_lem b s h =
    split (leb s highest_slot && eqb (image_number b) 0)
    (λ e. rw (e, ← slots_behind b s, length-drop) (let w = record_within b s h in (omega arith, omega arith)))
    (λ e. absurd (h (rw e)))

-- its start and length, where it is empty and where it is not
pub extent_none : (b : List ℕ) (s : ℕ) → length (record_part b s) ≡ 0 → record_extent b s ≡ record { start = 0; length = 0 }
unfolding record_extent
extent_none b s h = rw h

pub extent_some : (b : List ℕ) (s : ℕ) → length (record_part b s) ≢ 0
    → record_extent b s ≡ record { start = record_start b s; length = length (record_part b s) }
unfolding record_extent
extent_some b s h = rw (ne_eqb (length (record_part b s)) 0 h)

-- they tell the record, and lie within the image
pub extent_told : (b : List ℕ) (s : ℕ) → take (record_extent b s).length (drop (record_extent b s).start b) ≡ record_part b s
extent_told b s =
    split (eqb (length (record_part b s)) 0)
    (λ e. let z = eqb-true (length (record_part b s)) 0 e in rw (extent_none b s z) (sym (length_nil _ z)))
    (λ e. rw (extent_some b s (eqb-false (length (record_part b s)) 0 e)) (sym (record_inside b s)))

pub extent_within : (b : List ℕ) (s : ℕ) → (record_extent b s).start + (record_extent b s).length ≤ length b
extent_within b s =
    split (eqb (length (record_part b s)) 0)
    (λ e. rw (extent_none b s (eqb-true (length (record_part b s)) 0 e)) (omega arith))
    (λ e. let h = eqb-false (length (record_part b s)) 0 e in rw (extent_some b s h) (record_within b s h))

pub extent_begins : (b : List ℕ) (s : ℕ) → min (record_extent b s).start (length b) ≡ (record_extent b s).start
extent_begins b s = omega (arith, extent_within b s)

-- its start and length by the bytes from its slot on and the record at their front
module _ (b : List ℕ) (s : ℕ) {rest part : List ℕ} (from : rest ≡ from_slot b s) (front : part ≡ record_of rest) where
  is_part : record_part b s ≡ part
  is_part = rw (front, from, record_front)

  pub told_none : length part ≡ 0 → record { start = 0; length = 0 } ≡ record_extent b s
  told_none e = sym (extent_none b s (ap length is_part ∙ e))

  module _ (some : length part ≢ 0) where
    not_empty : length (record_part b s) ≢ 0
    not_empty = rw is_part some

    pub told_within : length rest ≤ length b
    told_within = rw from (record_start_lem b s not_empty).0

    pub told_some : record { start = length b - length rest + 2; length = length part } ≡ record_extent b s
    told_some = rw (extent_some b s not_empty, is_part, ← (record_start_lem b s not_empty).1, from)
