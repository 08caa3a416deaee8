-- Laws of writing at the front of an output, and of writing part after part into what is lent of it.
use Prim.Native.Nat.{ℕ, ◌+◌, ◌-◌, ◌<◌, ◌≤◌}
use mathlib.Core.Path.{◌≡◌, refl, sym, ap, ◌∙◌}
use mathlib.Core.List.{List, [], ◌++◌, append_assoc, append-nil}
use native.Mathlib.Nat.{zero-add, le_of_eq}
use native.Mathlib.Numerals.{add-one}
use native.Mathlib.Omega.{arith}
use borrow.Author.Tests.{leb-true, le-leb, lt-leb}
use borrow.Rule.Slice.PartMut.{put_mid}
use lib.Dec.{leb}
use lib.ListN.{length, get_or, take, drop, set, length-append, length-drop, drop_of_length-le}
use lib.Seq.{take-append_seam, drop-append_seam, take_at, drop_at, drop-drop, paste-suc, take_all, sets, sets-eq}
use Rattle.wire.specs.Output.{overwrite}
use Rattle.wire.specs.Inner.{written}
use Rattle.wire.specs.Items.{encode_items}
use Rattle.wire.proofs.Lists.{split}
use Rattle.wire.proofs.Items.{items_next}

-- the first bytes are those written
pub take_overwrite : (w out : List ℕ) → take (length w) (overwrite w out) ≡ w
take_overwrite w out = take-append_seam w (drop (length w) out)

-- and no other byte has changed
pub drop_overwrite : (w out : List ℕ) → drop (length w) (overwrite w out) ≡ drop (length w) out
drop_overwrite w out = drop-append_seam w (drop (length w) out)

pub length_overwrite : (w out : List ℕ) → length w ≤ length out → length (overwrite w out) ≡ length out
length_overwrite w out h = simp (length-append, length-drop) (omega arith)

-- ---- writing where there is room

pub written_fits : (w out : List ℕ) → length w ≤ length out → written w out ≡ overwrite w out
written_fits w out h = rw (le-leb (length w) (length out) h)

pub written_short : (w out : List ℕ) → length out < length w → written w out ≡ out
written_short w out h = rw (lt-leb (length w) (length out) h)

pub length_written : (w out : List ℕ) → length (written w out) ≡ length out
length_written w out =
    split (leb (length w) (length out)) (λ e. rw e (length_overwrite w out (leb-true (length w) (length out) e))) (λ e. rw e)

-- a copy's next element
pub copy_next : {A : Type 0} (s d : List A) (i : ℕ) (z : A) → i < length s → i < length d → set (take i s ++ drop i d) i (get_or s i z) ≡ take (i + 1) s ++ drop (i + 1) d
copy_next s d i z h k = rw add-one (simp zero-add at (paste-suc d 0 s i z (rw zero-add k) h))

-- and all of it
pub copy_all : {A : Type 0} (s d : List A) (n : ℕ) → length s ≤ n → length d ≤ n → take n s ++ drop n d ≡ s
copy_all s d n h k = rw (take_all n s h, drop_of_length-le d {i = n} k, append-nil)

-- an output once w was written at its front, a bytes: those, and what stands behind them
module _ {xs : List ℕ} (w out : List ℕ) (a : ℕ) (h : length w ≡ a) (e : xs ≡ overwrite w out) where
  pub written_front : take a xs ≡ w
  written_front = rw (e, h) (take_at w (drop a out) a h)

  written_behind : drop a xs ≡ drop a out
  written_behind = rw (e, h) (drop_at w (drop a out) a h)

-- a run of stores behind what was written before
pub stores_behind : (w v out xs : List ℕ) (a : ℕ) → length w ≡ a → length w + length v ≤ length out → xs ≡ overwrite w out → sets xs a v ≡ overwrite (w ++ v) out
stores_behind w v out xs a h room e =
    let long : length xs ≡ length out = rw e (length_overwrite w out (omega arith)) in
    sets-eq v xs a (omega arith)
    ∙ rw (written_front w out a h e, ← drop-drop (length v) a xs, written_behind w out a h e) (simp (length-append, drop-drop, h))

-- ---- a part of an output that is lent

-- the part from a on
pub rest : (a : ℕ) (s : List ℕ) → take (length s - a) (drop a s) ≡ drop a s
rest a s = take_all (length s - a) (drop a s) (le_of_eq (length-drop a s))

-- v was written into the output from a on, behind what was written before
pub lent : {xs ys : List ℕ} (w v out : List ℕ) (a : ℕ) → length w ≡ a
    → xs ≡ overwrite w out → ys ≡ overwrite v (take (length xs - a) (drop a xs)) → put_mid a (length xs - a) xs ys ≡ overwrite (w ++ v) out
lent {xs} {ys} w v out a h e f =
    let p : drop (length xs - a) (drop a xs) ≡ [] = drop_of_length-le (drop a xs) (le_of_eq (length-drop a xs)) in
    rw (f, written_front w out a h e, rest, p, written_behind w out a h e) (simp (append-nil, append_assoc, length-append, drop-drop, h))

-- ---- one part behind another

-- w stands in the first n bytes of xs, and there is room for v behind it
pub record FrontWritten (w v out xs : List ℕ) (n : ℕ) : Type 0 where
  pub size : n ≡ length w
  pub front : xs ≡ overwrite w out
  pub room : length (w ++ v) ≤ length out

module _ {w v out xs : List ℕ} {n : ℕ} (h : FrontWritten w v out xs n) where
  same_size : length xs ≡ length out
  same_size = rw h.front (length_overwrite w out (omega (arith, h.room, length-append w v)))

  pub part_inside : n ≤ length xs
  part_inside = omega (arith, same_size, h.size, h.room, length-append w v)

  -- v has room in what is lent
  pub part_room : length v ≤ length (take (length xs - n) (drop n xs))
  part_room = rw rest (simp length-drop (omega (arith, same_size, h.size, h.room, length-append w v)))

  -- v was written there, r bytes
  module _ {ys : List ℕ} {r : ℕ} (wrote : (r ≡ length v) × (ys ≡ overwrite v (take (length xs - n) (drop n xs)))) where
    pub both_written : (n + r ≡ length (w ++ v)) × (put_mid n (length xs - n) xs ys ≡ overwrite (w ++ v) out)
    both_written = (omega (arith, h.size, wrote.0, length-append w v), lent w v out n (sym h.size) h.front wrote.1)

-- a write that has room writes all of v there
pub lent_fits : {xs ys : List ℕ} (w v out : List ℕ) (a : ℕ) → length w ≡ a → length w + length v ≤ length out
    → xs ≡ overwrite w out → ys ≡ written v (take (length xs - a) (drop a xs)) → put_mid a (length xs - a) xs ys ≡ overwrite (w ++ v) out
lent_fits {xs} w v out a h room e f =
    let front : FrontWritten w v out xs a = record { size = sym h; front = e; room = rw length-append room } in
    lent w v out a h e (f ∙ written_fits v (take (length xs - a) (drop a xs)) (part_room front))

-- ---- items written one after another, each into what is lent behind those before

module _ {A : Type 0} (g : A → List ℕ) (xs : List A) (out₀ : List ℕ) where
  -- the first i items stand in the first `at` bytes
  pub record ItemsWritten (out : List ℕ) (at i : ℕ) : Type 0 where
    pub bytes : List ℕ
    pub long : length bytes ≡ at
    pub result : out ≡ overwrite bytes out₀
    pub to_come : encode_items g xs ≡ bytes ++ encode_items g (drop i xs)
    pub inside : at ≤ length out
    pub same : length out ≡ length out₀

  pub items_none : ItemsWritten out₀ 0 0
  items_none = record { bytes = []; long = refl; result = refl; to_come = refl; inside = omega arith; same = refl }

  module _ (room : length (encode_items g xs) ≤ length out₀) {out : List ℕ} {at i : ℕ} (d : A) (more : i < length xs) (h : ItemsWritten out at i) where
    pub item_room : at + length (g (get_or xs i d)) ≤ length out
    item_room =
        omega (
          arith,
          ap length h.to_come,
          length-append h.bytes (encode_items g (drop i xs)),
          ap length (items_next g xs i d more),
          length-append (g (get_or xs i d)) (encode_items g (drop (i + 1) xs)),
        )

    -- item i has room in what is lent
    pub item_part : length (g (get_or xs i d)) ≤ length (take (length out - at) (drop at out))
    item_part = rw rest (simp length-drop (omega (arith, item_room)))

    pub items_more : {ys : List ℕ} → ys ≡ overwrite (g (get_or xs i d)) (take (length out - at) (drop at out))
        → ItemsWritten (put_mid at (length out - at) out ys) (at + length (g (get_or xs i d))) (i + 1)
    items_more {ys} e =
        let x = g (get_or xs i d) in
        let result : put_mid at (length out - at) out ys ≡ overwrite (h.bytes ++ x) out₀ = lent h.bytes x out₀ at h.long h.result e in
        let long : length (h.bytes ++ x) ≡ at + length x = length-append h.bytes x ∙ ap (λ (n : ℕ). n + length x) h.long in
        let same : length (put_mid at (length out - at) out ys) ≡ length out₀ = rw result (length_overwrite (h.bytes ++ x) out₀ (omega (arith, item_room))) in
        record {
          bytes = h.bytes ++ x;
          long = long;
          result = result;
          to_come =
              h.to_come ∙ ap (λ (r : List ℕ). h.bytes ++ r) (items_next g xs i d more)
              ∙ sym (append_assoc h.bytes x (encode_items g (drop (i + 1) xs)));
          inside = omega (arith, item_room);
          same = same;
        }

  -- all of them: their bytes stand there, and they are `at` bytes
  pub items_size : {out : List ℕ} {at i : ℕ} → length xs ≤ i → ItemsWritten out at i → at ≡ length (encode_items g xs)
  unfolding encode_items
  items_size {i = i} l h =
      let none : length (encode_items g (drop i xs)) ≡ 0 = rw (drop_of_length-le xs {i = i} l) in
      omega (arith, h.long, ap length h.to_come, length-append h.bytes (encode_items g (drop i xs)))

  pub items_all : {out : List ℕ} {at i : ℕ} → length xs ≤ i → ItemsWritten out at i → out ≡ overwrite (encode_items g xs) out₀
  unfolding encode_items
  items_all {out} {at} {i} l h =
      let none : encode_items g (drop i xs) ≡ [] = rw (drop_of_length-le xs {i = i} l) in
      let whole : encode_items g xs ≡ h.bytes = h.to_come ∙ ap (λ (r : List ℕ). h.bytes ++ r) none ∙ append-nil h.bytes in
      rw whole h.result
