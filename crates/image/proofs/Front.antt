-- What stands ahead of the slots: bytes to front, program and turn slot and back, and these to bytes and back.
use Prim.Native.Nat.{ℕ, suc, ◌+◌, ◌*◌, ◌<◌, ◌≤◌}
use mathlib.Core.Path.{◌≡◌, refl, sym, ap, ap₂, ◌∙◌}
use mathlib.Core.List.{List, [], ◌∷◌, ◌++◌, append_assoc}
use native.Mathlib.Omega.{arith}
use lib.ListN.{length, get_or, take, drop, length-append, length-drop}
use lib.Seq.{take-add, take-suc, length-take-le, drop_at, take-append_seam, drop-append_seam, get_or-append_seam, get_or-drop}
use Rattle.wire.specs.Lists.{Bytes}
use Rattle.wire.specs.Fields.{decode_fields, encode_fields}
use Rattle.wire.proofs.Lists.{IsByte, every_append}
use Rattle.wire.proofs.Fields.{byte_low, length_fields, fields_back, fields_forth, fields_bytes}
use Rattle.image.specs.Format.{front_fields}
use Rattle.image.specs.Image.{version_of, front, program_length, program_at, turn_slot_at, slots_at, program_of, turn_slot_of, ahead_bytes}

-- ---- bytes that are long enough, to parts and back

module _ (b : List ℕ) (h : Bytes b) (long : slots_at b ≤ length b) where
  pub program_size : length (program_of b) ≡ program_length b
  program_size = length-take-le (program_length b) (drop (program_at (version_of b)) b) (rw length-drop (omega arith))

  front_numbers : version_of b ∷ program_length b ∷ [] ≡ front b
  unfolding front version_of decode_fields
  front_numbers = let e : 0 * 256 + get_or b 0 0 ≡ get_or b 0 0 = omega arith in rw e

  front_back : encode_fields (front_fields (version_of b)) (version_of b ∷ program_length b ∷ []) ≡ take (program_at (version_of b)) b
  unfolding front
  front_back = ap (encode_fields (front_fields (version_of b))) front_numbers ∙ fields_back (front_fields (version_of b)) b h (omega arith)

  pub ahead_back : ahead_bytes (version_of b) (program_of b) (turn_slot_of b) ≡ take (slots_at b) b
  unfolding ahead_bytes
  ahead_back =
      let v = version_of b in
      let k : suc (turn_slot_at b) ≡ slots_at b = omega arith in
      ap (λ (x : List ℕ). x ++ (turn_slot_of b ∷ []))
      (ap₂ (λ (x y : List ℕ). x ++ y) (ap (λ (n : ℕ). encode_fields (front_fields v) (v ∷ n ∷ [])) program_size ∙ front_back) refl ∙ sym (take-add (program_at v) (program_length b) b))
      ∙ sym (take-suc b (turn_slot_at b) 0 (omega arith))
      ∙ ap (λ (n : ℕ). take n b) k

-- ---- parts to bytes and back, whatever stands behind them

module _ (v : ℕ) (program : List ℕ) (turn_slot : ℕ) where
  abbrev numbers : List ℕ
  numbers = v ∷ length program ∷ []

  abbrev head : List ℕ
  head = encode_fields (front_fields v) numbers

  length_head : length head ≡ program_at v
  length_head = length_fields (front_fields v) numbers

  pub ahead_length : length (ahead_bytes v program turn_slot) ≡ program_at v + length program + 1
  unfolding ahead_bytes
  ahead_length = rw (length-append, length-append, length_head)

  pub ahead_bytes_lem : Bytes program → turn_slot < 256 → Bytes (ahead_bytes v program turn_slot)
  unfolding ahead_bytes
  ahead_bytes_lem h low =
      every_append IsByte (head ++ program) (turn_slot ∷ []) (every_append IsByte head program (fields_bytes (front_fields v) numbers) h) (low, tt)

  module _ (version : v < 256) (few : length program < 65536) (q : List ℕ) where
    abbrev bytes : List ℕ
    bytes = ahead_bytes v program turn_slot ++ q

    bytes_are : bytes ≡ head ++ (program ++ turn_slot ∷ q)
    unfolding ahead_bytes
    bytes_are = append_assoc (head ++ program) (turn_slot ∷ []) q ∙ append_assoc head program (turn_slot ∷ q)

    pub version_is : version_of bytes ≡ v
    unfolding ahead_bytes version_of encode_fields
    version_is = byte_low v version

    front_is : front bytes ≡ numbers
    unfolding front
    front_is =
        ap (λ (n : ℕ). decode_fields (front_fields n) bytes) version_is ∙ ap (decode_fields (front_fields v)) bytes_are
        ∙ fields_forth (front_fields v) numbers (program ++ turn_slot ∷ q) (omega arith, (omega arith, refl))

    pub length_is : program_length bytes ≡ length program
    length_is = rw front_is

    behind_front : drop (program_at v) bytes ≡ program ++ turn_slot ∷ q
    behind_front = ap (drop (program_at v)) bytes_are ∙ drop_at head (program ++ turn_slot ∷ q) (program_at v) length_head

    pub program_is : take (length program) (drop (program_at v) bytes) ≡ program
    program_is = rw behind_front (take-append_seam program (turn_slot ∷ q))

    pub turn_slot_is : get_or bytes (program_at v + length program) 0 ≡ turn_slot
    turn_slot_is = sym (get_or-drop (program_at v) bytes (length program) 0) ∙ rw behind_front (get_or-append_seam program turn_slot q 0)

    pub slots_are : drop (program_at v + length program + 1) bytes ≡ q
    slots_are = rw (← ahead_length) (drop-append_seam (ahead_bytes v program turn_slot) q)
