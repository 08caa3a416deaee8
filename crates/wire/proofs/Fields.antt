-- Fields to numbers and back, numbers to fields and back, and where a field stands: one law each for every list of fields.
use Prim.Native.Nat.{ℕ, zero, suc, ◌+◌, ◌%◌, ◌^◌, ◌<◌, ◌≤◌}
use mathlib.Core.Path.{◌≡◌, refl, sym, ap, ap₂, ◌∙◌}
use mathlib.Core.List.{List, [], ◌∷◌, ◌++◌, append_assoc}
use native.Mathlib.Omega.{arith}
use native.Mathlib.Nat.{not-suc-le-zero, le_of_suc-le-suc}
use lib.ListN.{length, get_or, take, drop, replicate, length-append, length-drop}
use lib.Seq.{take-add, drop_at, drop-drop, get_or-drop}
use Rattle.wire.specs.Lists.{Every, Bytes}
use Rattle.wire.specs.Numbers.{decode_number, encode_number}
use Rattle.wire.specs.Items.{decode_items, encode_items}
use Rattle.wire.specs.Fields.{Field, bytes, size, number_or, decode_fields, encode_fields}
use Rattle.wire.proofs.Lists.{IsByte, length_nil, every_drop, every_append}
use Rattle.wire.proofs.Numbers.{length_encode, encode_decode, decode_encode, decode_lt, encode_bytes}

-- ---- one field

-- the numbers that a field of width w holds: where it has no bytes, only the one that it is read as
abbrev pub Holds : ℕ → ℕ → ℕ → Type 0
Holds d zero x = x ≡ d
Holds d (suc w) x = x < 256 ^ suc w

number_forth : (d w x : ℕ) (q : List ℕ) → Holds d w x → number_or d w (encode_number w x ++ q) ≡ x
number_forth d zero x q h = sym h
number_forth d (suc w) x q h = decode_encode (suc w) x q h

number_back : (d w : ℕ) (b : List ℕ) → Bytes b → w ≤ length b → encode_number w (number_or d w b) ≡ take w b
number_back d zero b h l = refl
number_back d (suc w) b h l = encode_decode (suc w) b h l

number_holds : (d w : ℕ) (b : List ℕ) → Bytes b → Holds d w (number_or d w b)
number_holds d zero b h = refl
number_holds d (suc w) b h = decode_lt (suc w) b h

-- a field of one byte is that byte
pub byte_read : (k : ℕ) (b : List ℕ) → decode_number 1 (drop k b) ≡ get_or b k 0
byte_read k b = let e : k + 0 ≡ k = omega arith in omega (arith, rw e at (get_or-drop k b 0 0))

-- and it is written as `x % 256`
pub byte_low : (x : ℕ) → x < 256 → x % 256 ≡ x
byte_low x h = omega arith

-- ---- fields

-- as many numbers as fields, each of which its field holds
abbrev pub Fit : List Field → List ℕ → Type 0
Fit [] xs = xs ≡ []
Fit (f ∷ fs) [] = ⊥
Fit (f ∷ fs) (x ∷ xs) = Holds f.absent f.width x × Fit fs xs

pub length_fields : (fs : List Field) (xs : List ℕ) → length (encode_fields fs xs) ≡ size fs
unfolding encode_fields
length_fields [] xs = refl
length_fields (f ∷ fs) xs = rw (length-append, length_encode, length_fields fs (drop 1 xs))

pub fields_back : (fs : List Field) (b : List ℕ) → Bytes b → size fs ≤ length b → encode_fields fs (decode_fields fs b) ≡ take (size fs) b
unfolding encode_fields decode_fields
fields_back [] b h l = refl
fields_back (f ∷ fs) b h l =
    let w = f.width in
    let m : size fs ≤ length (drop w b) = simp length-drop (omega arith) in
    ap₂ (λ (p q : List ℕ). p ++ q) (number_back f.absent w b h (omega arith)) (fields_back fs (drop w b) (every_drop IsByte w b h) m)
    ∙ sym (take-add w (size fs) b)

-- whatever stands behind the fields
pub fields_forth : (fs : List Field) (xs q : List ℕ) → Fit fs xs → decode_fields fs (encode_fields fs xs ++ q) ≡ xs
unfolding encode_fields decode_fields
fields_forth [] xs q h = sym h
fields_forth (f ∷ fs) [] q h = absurd h
fields_forth (f ∷ fs) (x ∷ xs) q h =
    let w = f.width in
    let rest = encode_fields fs xs ++ q in
    rw append_assoc
    (ap₂ (λ (y : ℕ) (ys : List ℕ). y ∷ ys) (number_forth f.absent w x rest h.0)
    (ap (decode_fields fs) (drop_at (encode_number w x) rest w (length_encode w x)) ∙ fields_forth fs xs q h.1))

pub fields_fit : (fs : List Field) (b : List ℕ) → Bytes b → Fit fs (decode_fields fs b)
unfolding decode_fields
fields_fit [] b h = refl
fields_fit (f ∷ fs) b h = (number_holds f.absent f.width b h, fields_fit fs (drop f.width b) (every_drop IsByte f.width b h))

pub fields_bytes : (fs : List Field) (xs : List ℕ) → Bytes (encode_fields fs xs)
unfolding encode_fields
fields_bytes [] xs = tt
fields_bytes (f ∷ fs) xs =
    every_append IsByte (encode_number f.width (get_or xs 0 0)) (encode_fields fs (drop 1 xs)) (encode_bytes f.width (get_or xs 0 0)) (fields_bytes fs (drop 1 xs))

-- ---- where a field stands: behind those ahead of it

abbrev field_at : List Field → ℕ → Field
field_at fs i = get_or fs i (bytes 0)

pub field_at_lem : (fs : List Field) (i : ℕ) (b : List ℕ) → i < length fs
    → get_or (decode_fields fs b) i 0 ≡ number_or (field_at fs i).absent (field_at fs i).width (drop (size (take i fs)) b)
unfolding decode_fields
field_at_lem [] i b h = absurd (not-suc-le-zero h)
field_at_lem (f ∷ fs) zero b h = refl
field_at_lem (f ∷ fs) (suc i) b h =
    field_at_lem fs i (drop f.width b) (le_of_suc-le-suc h)
    ∙ ap (number_or (field_at fs i).absent (field_at fs i).width) (drop-drop (size (take i fs)) f.width b)

-- and so do the fields from i on
pub fields_from : (fs : List Field) (i : ℕ) (b : List ℕ) → i ≤ length fs → drop i (decode_fields fs b) ≡ decode_fields (drop i fs) (drop (size (take i fs)) b)
unfolding decode_fields
fields_from fs zero b h = refl
fields_from [] (suc i) b h = absurd (not-suc-le-zero h)
fields_from (f ∷ fs) (suc i) b h =
    fields_from fs i (drop f.width b) (le_of_suc-le-suc h) ∙ ap (decode_fields (drop i fs)) (drop-drop (size (take i fs)) f.width b)

-- fields written in two parts: the first i, and those from i on
pub fields_parts : (fs : List Field) (i : ℕ) (xs : List ℕ) → i ≤ length fs
    → encode_fields fs xs ≡ encode_fields (take i fs) xs ++ encode_fields (drop i fs) (drop i xs)
unfolding encode_fields
fields_parts fs zero xs h = refl
fields_parts [] (suc i) xs h = absurd (not-suc-le-zero h)
fields_parts (f ∷ fs) (suc i) xs h =
    let first = encode_number f.width (get_or xs 0 0) in
    let one : 1 + i ≡ suc i = omega arith in
    ap (λ (t : List ℕ). first ++ t)
    (fields_parts fs i (drop 1 xs) (le_of_suc-le-suc h)
    ∙ ap (λ (t : List ℕ). encode_fields (take i fs) (drop 1 xs) ++ encode_fields (drop i fs) t) (drop-drop i 1 xs ∙ ap (λ (n : ℕ). drop n xs) one))
    ∙ sym (append_assoc first (encode_fields (take i fs) (drop 1 xs)) (encode_fields (drop i fs) (drop (suc i) xs)))

-- ---- fields of one width are items

pub numbers_read : (w k : ℕ) (b : List ℕ) → decode_fields (replicate k (bytes (suc w))) b ≡ decode_items (suc w) (decode_number (suc w)) k b
unfolding decode_fields decode_items
numbers_read w zero b = refl
numbers_read w (suc k) b = rw (numbers_read w k (drop (suc w) b))

pub numbers_written : (w k : ℕ) (xs : List ℕ) → length xs ≡ k → encode_fields (replicate k (bytes w)) xs ≡ encode_items (encode_number w) xs
unfolding encode_fields encode_items
numbers_written w zero xs e = rw (length_nil xs e)
numbers_written w (suc k) [] e = absurd (omega arith)
numbers_written w (suc k) (x ∷ xs) e = ap (λ (t : List ℕ). encode_number w x ++ t) (numbers_written w k xs (omega arith))

pub numbers_fit : (w k : ℕ) (xs : List ℕ) → length xs ≡ k → Every (λ x. x < 256 ^ suc w) xs → Fit (replicate k (bytes (suc w))) xs
numbers_fit w zero xs e h = length_nil xs e
numbers_fit w (suc k) [] e h = absurd (omega arith)
numbers_fit w (suc k) (x ∷ xs) e h = (h.0, numbers_fit w k xs (omega arith) h.1)

pub fit_numbers : (w k : ℕ) (xs : List ℕ) → Fit (replicate k (bytes (suc w))) xs → (length xs ≡ k) × Every (λ x. x < 256 ^ suc w) xs
fit_numbers w zero xs h = rw h (refl, tt)
fit_numbers w (suc k) [] h = absurd h
fit_numbers w (suc k) (x ∷ xs) h = let ih = fit_numbers w k xs h.1 in (ap suc ih.0, (h.0, ih.1))
