-- The slots of an image of version v, one after another: bytes to slots and back, slots to bytes and back, and lengths.
use Prim.Native.Nat.{ℕ, zero, suc, ◌+◌, ◌*◌, ◌-◌, ◌/◌, ◌%◌, ◌<◌, ◌≤◌}
use mathlib.Core.Path.{◌≡◌, refl, sym, ap, ap₂, ◌∙◌}
use mathlib.Core.Bool.{true, ◌&&◌}
use mathlib.Core.List.{List, [], ◌∷◌, ◌++◌, append_assoc}
use native.Mathlib.Nat.{add-zero, suc-ne-zero}
use native.Mathlib.Omega.{arith}
use borrow.Author.Tests.{leb-true, le-leb, eqb-true, eqb-false, ne_eqb}
use lib.Dec.{leb, eqb}
use lib.ListN.{length, take, drop, length-append, length-drop, take-append-drop}
use lib.Seq.{take-add, length-take-le, take-append_seam, drop-append_seam, drop-drop}
use Rattle.wire.specs.Lists.{Bytes}
use Rattle.wire.proofs.Lists.{IsByte, split, and_both, every_drop, every_take, every_append}
use Rattle.wire.specs.Items.{encode_items}
use Rattle.wire.specs.Numbers.{encode_number}
use Rattle.wire.proofs.Items.{items_bytes}
use Rattle.wire.proofs.Numbers.{encode_decode, decode_encode, encode_bytes}
use Rattle.machine.specs.State.{Slot, unused, used, slot_at}
use Rattle.machine.specs.Valid.{fields_in_range, mail_in_range, ValidSlot}
use Rattle.machine.proofs.Rules.{task_facts}
use Rattle.machine.proofs.Mailbox.{mailbox_64}
use Rattle.image.specs.Format.{task_size}
use Rattle.image.specs.Refusal.{unless, short, is_record_length, length_number, record_number, slot_number, slots_number}
use Rattle.image.specs.Record.{slot_of, record_bytes}
use Rattle.image.specs.Image.{record_length, record_of, behind, span, skip, slots_of, slot_bytes}
use Rattle.image.proofs.Refusal.{then_left, then_right, then_none, then_holds, Listed, listed_none, listed_unless, listed_short, unless_none, short_none, long_enough}
use Rattle.image.proofs.Offsets.{width_most, task_size_lem}
use Rattle.image.proofs.Records.{task_back, task_length, slot_forth, record_bytes_lem, record_valid, valid_record}

-- the bytes of slots one after another
abbrev pub slots_bytes : ℕ → List Slot → List ℕ
slots_bytes v = encode_items (slot_bytes v)

-- a task and whole messages, 64 at most
record Whole (v l : ℕ) : Type 0 where
  pub least : task_size v ≤ l
  pub messages : (l - task_size v) % 6 ≡ 0
  pub most : l ≤ task_size v + 384

record LengthInOrder (v : ℕ) (b : List ℕ) : Type 0 where
  pub two : 2 ≤ length b
  pub size : is_record_length v (record_length b) ≡ true
  pub long : 2 + record_length b ≤ length b

module _ (v : ℕ) where
  -- ---- lengths of records

  length_whole : (l : ℕ) → is_record_length v l ≡ true → (l ≡ 0 → ⊥) → Whole v l
  unfolding is_record_length
  length_whole l e ne =
      let n = task_size v in
      let u = rw (ne_eqb l 0 ne) at e in
      let abc = and_both (leb n l && eqb ((l - n) % 6) 0) (leb ((l - n) / 6) 64) u in
      let ab = and_both (leb n l) (eqb ((l - n) % 6) 0) abc.0 in
      let a : n ≤ l = leb-true _ _ ab.0 in
      let b : (l - n) % 6 ≡ 0 = eqb-true _ _ ab.1 in
      let c : (l - n) / 6 ≤ 64 = leb-true _ _ abc.1 in
      record { least = a; messages = b; most = omega arith }

  -- 422 at most
  length_most : (l : ℕ) → is_record_length v l ≡ true → l ≤ 422
  length_most l e =
      split (eqb l 0) (λ z. omega (arith, eqb-true l 0 z)) (λ z. omega (arith, (length_whole l e (eqb-false l 0 z)).most, task_size_lem v, width_most v))

  -- that of a task and k messages is one exactly when k is at most 64
  length_is : (k : ℕ) → is_record_length v (task_size v + 6 * k) ≡ leb k 64
  unfolding is_record_length
  length_is k =
      let n = task_size v in
      let a : n ≤ n + 6 * k = omega arith in
      let b : (n + 6 * k - n) % 6 ≡ 0 = omega arith in
      let c : (n + 6 * k - n) / 6 ≡ k = omega arith in
      rw (ne_eqb (n + 6 * k) 0 (λ e. omega (arith, task_size_lem v)), le-leb n (n + 6 * k) a, b, c)

  valid_length : (n s : ℕ) (x : Slot) → ValidSlot v n s x → is_record_length v (length (record_bytes v x)) ≡ true
  unfolding is_record_length
  valid_length n s unused ok = refl
  valid_length n s (used t) ok =
      ap (is_record_length v) (task_length v t) ∙ length_is (length t.mailbox) ∙ le-leb _ 64 (mailbox_64 t.mailbox (task_facts v n s t ok).mailbox)

  -- ---- bytes to slots and back

  length_in_order : (b : List ℕ) → length_number v b ≡ 0 → LengthInOrder v b
  unfolding length_number
  length_in_order b e =
      let e₂ = then_right (short 2 b) _ e in
      record {
        two = short_none 2 b (then_left _ _ e);
        size = unless_none (is_record_length v (record_length b)) 7 (then_left _ _ e₂);
        long = short_none (2 + record_length b) b (then_right (unless (is_record_length v (record_length b)) 8) _ e₂);
      }

  -- a slot without a number: its length's and its record's
  slot_length : (s n : ℕ) (b : List ℕ) → slot_number v s n b ≡ 0 → LengthInOrder v b
  unfolding slot_number
  slot_length s n b e = length_in_order b (then_left _ _ e)

  slot_record : (s n : ℕ) (b : List ℕ) → slot_number v s n b ≡ 0 → record_number v s n (slot_of v (record_of b)) ≡ 0
  unfolding slot_number
  slot_record s n b e = then_right (length_number v b) _ e

  record_back : (r : List ℕ) → Bytes r → is_record_length v (length r) ≡ true → record_bytes v (slot_of v r) ≡ r
  record_back [] h e = refl
  record_back (x ∷ r) h e =
      let w = length_whole (length (x ∷ r)) e (suc-ne-zero (length r)) in
      task_back v (x ∷ r) h w.least w.messages

  record_of_bytes : (b : List ℕ) → Bytes b → Bytes (record_of b)
  record_of_bytes b h = every_take IsByte (record_length b) (drop 2 b) (every_drop IsByte 2 b h)

  module _ (b : List ℕ) (ok : LengthInOrder v b) where
    record_of_length : length (record_of b) ≡ record_length b
    record_of_length = length-take-le (record_length b) (drop 2 b) (rw length-drop (omega (arith, ok.long)))

    record_written : Bytes b → record_bytes v (slot_of v (record_of b)) ≡ record_of b
    record_written h = record_back (record_of b) (record_of_bytes b h) (rw record_of_length ok.size)

    slot_back : Bytes b → slot_bytes v (slot_of v (record_of b)) ≡ take (2 + record_length b) b
    unfolding record_length
    slot_back h =
        rw (record_written h) (ap₂ (λ (x y : List ℕ). x ++ y) (ap (encode_number 2) record_of_length ∙ encode_decode 2 b h ok.two) refl ∙ sym (take-add 2 (record_length b) b))

  pub slots_back : (k s n : ℕ) (b : List ℕ) → Bytes b → slots_number v k s n b ≡ 0 → slots_bytes v (slots_of v k b) ++ skip k b ≡ b
  unfolding encode_items slots_of skip slots_number
  slots_back zero s n b h e = refl
  slots_back (suc k) s n b h e =
      let ok = slot_length s n b (then_left _ _ e) in
      append_assoc (slot_bytes v (slot_of v (record_of b))) (slots_bytes v (slots_of v k (behind b))) (skip k (behind b))
      ∙ ap₂ (λ (x y : List ℕ). x ++ y) (slot_back b ok h) (slots_back k (s + 1) n (behind b) (every_drop IsByte (2 + record_length b) b h) (then_right (slot_number v s n b) _ e))
      ∙ take-append-drop (2 + record_length b) b

  pub slots_valid : (k s n : ℕ) (b : List ℕ) → Bytes b → slots_number v k s n b ≡ 0 → (i : ℕ) → ValidSlot v n (s + i) (slot_at (slots_of v k b) i)
  unfolding slots_of slots_number
  slots_valid zero s n b h e i = tt
  slots_valid (suc k) s n b h e zero =
      rw add-zero (record_valid v s n (record_of b) (record_of_bytes b h) (slot_record s n b (then_left _ _ e)))
  slots_valid (suc k) s n b h e (suc i) =
      let q : s + suc i ≡ s + 1 + i = omega arith in
      rw q (slots_valid k (s + 1) n (behind b) (every_drop IsByte (2 + record_length b) b h) (then_right (slot_number v s n b) _ e) i)

  pub length_slots_of : (k : ℕ) (b : List ℕ) → length (slots_of v k b) ≡ k
  unfolding slots_of
  length_slots_of zero b = refl
  length_slots_of (suc k) b = ap suc (length_slots_of k (behind b))

  -- k slots take 2 to 424 bytes each
  pub slots_length : (k s n : ℕ) (b : List ℕ) → slots_number v k s n b ≡ 0 → (2 * k + length (skip k b) ≤ length b) × (length b ≤ 424 * k + length (skip k b))
  unfolding skip slots_number
  slots_length zero s n b e = (omega arith, omega arith)
  slots_length (suc k) s n b e =
      let ok = slot_length s n b (then_left _ _ e) in
      let ih = slots_length k (s + 1) n (behind b) (then_right (slot_number v s n b) _ e) in
      let l = length-drop (2 + record_length b) b in
      let m = length_most (record_length b) ok.size in
      (omega (arith, ok.long), omega (arith, ok.long))

  -- ---- the record of slot i

  pub slot_at_lem : (k i : ℕ) (b : List ℕ) → i < k → slot_at (slots_of v k b) i ≡ slot_of v (record_of (skip i b))
  unfolding slots_of skip
  slot_at_lem zero i b h = absurd (omega arith)
  slot_at_lem (suc k) zero b h = refl
  slot_at_lem (suc k) (suc i) b h = slot_at_lem k i (behind b) (omega arith)

  -- and what the slot's task is written as
  pub record_at : (k i s n : ℕ) (b : List ℕ) → Bytes b → slots_number v k s n b ≡ 0 → i < k → record_bytes v (slot_of v (record_of (skip i b))) ≡ record_of (skip i b)
  unfolding skip slots_number
  record_at zero i s n b h e l = absurd (omega arith)
  record_at (suc k) zero s n b h e l = record_written b (slot_length s n b (then_left _ _ e)) h
  record_at (suc k) (suc i) s n b h e l =
      record_at k i (s + 1) n (behind b) (every_drop IsByte (2 + record_length b) b h) (then_right (slot_number v s n b) _ e) (omega arith)

  -- ---- numbers

  record_listed : (s n : ℕ) (x : Slot) → Listed (record_number v s n x)
  record_listed s n unused = listed_none
  record_listed s n (used t) =
      then_holds Listed (unless (fields_in_range v s n t) 9) _ (listed_unless (fields_in_range v s n t) 9 (omega arith) (omega arith))
      (listed_unless (mail_in_range t.mailbox) 10 (omega arith) (omega arith))

  slot_listed : (s n : ℕ) (b : List ℕ) → Listed (slot_number v s n b)
  unfolding slot_number length_number
  slot_listed s n b =
      let l = record_length b in
      then_holds Listed (length_number v b) _
      (then_holds Listed (short 2 b) _ (listed_short 2 b)
      (then_holds Listed (unless (is_record_length v l) 8) _ (listed_unless (is_record_length v l) 8 (omega arith) (omega arith)) (listed_short (2 + l) b)))
      (record_listed s n (slot_of v (record_of b)))

  pub slots_listed : (k s n : ℕ) (b : List ℕ) → Listed (slots_number v k s n b)
  unfolding slots_number
  slots_listed zero s n b = listed_none
  slots_listed (suc k) s n b = then_holds Listed (slot_number v s n b) _ (slot_listed s n b) (slots_listed k (s + 1) n (behind b))

  -- ---- slots to bytes and back

  module _ (n s : ℕ) (x : Slot) (q : List ℕ) (few : n ≤ 256) (ok : ValidSlot v n s x) where
    front_length : record_length (slot_bytes v x ++ q) ≡ length (record_bytes v x)
    unfolding record_length
    front_length = decode_encode 2 (length (record_bytes v x)) (record_bytes v x ++ q) (omega (arith, length_most (length (record_bytes v x)) (valid_length n s x ok)))

    front_record : record_of (slot_bytes v x ++ q) ≡ record_bytes v x
    front_record = rw front_length (take-append_seam (record_bytes v x) q)

    front_behind : behind (slot_bytes v x ++ q) ≡ q
    front_behind = rw front_length (sym (drop-drop (length (record_bytes v x)) 2 (slot_bytes v x ++ q)) ∙ drop-append_seam (record_bytes v x) q)

    front_slot : slot_of v (record_of (slot_bytes v x ++ q)) ≡ x
    front_slot = ap (slot_of v) front_record ∙ slot_forth v n s x few ok

    front_number : slot_number v s n (slot_bytes v x ++ q) ≡ 0
    unfolding slot_number length_number
    front_number =
        let m : 2 + length (record_bytes v x) ≤ length (slot_bytes v x ++ q) = omega (arith, length-append (record_bytes v x) q) in
        rw (front_slot, front_length, long_enough 2 (slot_bytes v x ++ q) (omega arith), valid_length n s x ok, long_enough (2 + length (record_bytes v x)) (slot_bytes v x ++ q) m)
        (valid_record v s n x ok)

  module _ (n : ℕ) (few : n ≤ 256) where
    later : (s : ℕ) (x : Slot) (xs : List Slot) → ((i : ℕ) → ValidSlot v n (s + i) (slot_at (x ∷ xs) i)) → (i : ℕ) → ValidSlot v n (s + 1 + i) (slot_at xs i)
    later s x xs ok i = let q : s + 1 + i ≡ s + suc i = omega arith in rw q (ok (suc i))

    first : (s : ℕ) (x : Slot) (xs : List Slot) → ((i : ℕ) → ValidSlot v n (s + i) (slot_at (x ∷ xs) i)) → ValidSlot v n s x
    first s x xs ok = rw add-zero at (ok 0)

    pub slots_number_lem : (s : ℕ) (xs : List Slot) → ((i : ℕ) → ValidSlot v n (s + i) (slot_at xs i)) → slots_number v (length xs) s n (slots_bytes v xs) ≡ 0
    unfolding slots_number encode_items
    slots_number_lem s [] ok = refl
    slots_number_lem s (x ∷ xs) ok =
        then_none _ _ (front_number n s x (slots_bytes v xs) few (first s x xs ok))
        (ap (slots_number v (length xs) (s + 1) n) (front_behind n s x (slots_bytes v xs) few (first s x xs ok)) ∙ slots_number_lem (s + 1) xs (later s x xs ok))

    pub slots_forth : (s : ℕ) (xs : List Slot) → ((i : ℕ) → ValidSlot v n (s + i) (slot_at xs i)) → slots_of v (length xs) (slots_bytes v xs) ≡ xs
    unfolding slots_of encode_items
    slots_forth s [] ok = refl
    slots_forth s (x ∷ xs) ok =
        ap₂ (λ (y : Slot) (ys : List Slot). y ∷ ys) (front_slot n s x (slots_bytes v xs) few (first s x xs ok))
        (ap (slots_of v (length xs)) (front_behind n s x (slots_bytes v xs) few (first s x xs ok)) ∙ slots_forth (s + 1) xs (later s x xs ok))

    pub slots_end : (s : ℕ) (xs : List Slot) → ((i : ℕ) → ValidSlot v n (s + i) (slot_at xs i)) → skip (length xs) (slots_bytes v xs) ≡ []
    unfolding skip encode_items
    slots_end s [] ok = refl
    slots_end s (x ∷ xs) ok =
        ap (skip (length xs)) (front_behind n s x (slots_bytes v xs) few (first s x xs ok)) ∙ slots_end (s + 1) xs (later s x xs ok)

  pub slots_bytes_lem : (xs : List Slot) → Bytes (slots_bytes v xs)
  slots_bytes_lem =
      items_bytes (slot_bytes v)
      (λ x. let r = record_bytes v x in every_append IsByte (encode_number 2 (length r)) r (encode_bytes 2 (length r)) (record_bytes_lem v x))

-- where slot k stands
pub skip_drop : (k : ℕ) (b : List ℕ) → skip k b ≡ drop (span k b) b
unfolding skip span
skip_drop zero b = refl
skip_drop (suc k) b = skip_drop k (behind b) ∙ drop-drop (span k (behind b)) (2 + record_length b) b
