-- Items to bytes and back, for every width and every kind of item.
use Prim.Native.Nat.{ℕ, zero, suc, ◌+◌, ◌*◌, ◌-◌, ◌<◌, ◌≤◌}
use mathlib.Core.Path.{◌≡◌, refl, sym, ap, ap₂, ◌∙◌}
use mathlib.Core.Bool.{Bool, cond}
use mathlib.Core.List.{List, [], ◌∷◌, ◌++◌, map, append_assoc}
use native.Mathlib.Nat.{mul-zero, mul-one, mul-suc, not-suc-le-zero, le_of_suc-le-suc}
use native.Mathlib.Numerals.{add-one}
use native.Mathlib.Omega.{arith}
use lib.ListN.{length, get_or, take, drop, length-append, length-drop, drop_of_length-le}
use lib.Seq.{take-add, drop_at, drop-drop, drop-cons, get_or_at}
use Rattle.wire.specs.Lists.{Every, keep, Bytes}
use Rattle.wire.proofs.Lists.{IsByte, split, every_drop, every_append}
use Rattle.wire.specs.Items.{decode_items, encode_items}

module _ {A : Type 0} (w : ℕ) (f : List ℕ → A) where
  pub length_decode : (k : ℕ) (b : List ℕ) → length (decode_items w f k b) ≡ k
  unfolding decode_items
  length_decode zero b = refl
  length_decode (suc k) b = ap suc (length_decode k (drop w b))

  drop_item : (i : ℕ) (b : List ℕ) → drop (w * i) (drop w b) ≡ drop (w * suc i) b
  drop_item i b =
      let e : w + w * i ≡ w * suc i = rw mul-suc (omega arith) in
      drop-drop (w * i) w b ∙ ap (λ (n : ℕ). drop n b) e

  -- item j stands behind the first j, and others behind it
  pub decode_at : (k j : ℕ) (b : List ℕ) → j < k
      → decode_items w f k b ≡ decode_items w f j b ++ f (drop (w * j) b) ∷ decode_items w f (k - (j + 1)) (drop (w * (j + 1)) b)
  unfolding decode_items
  decode_at zero j b h = absurd (not-suc-le-zero h)
  decode_at (suc k) zero b h = let e : suc k - 1 ≡ k = omega arith in rw (e, mul-zero, mul-one)
  decode_at (suc k) (suc j) b h =
      let d : suc k - (suc j + 1) ≡ k - (j + 1) = omega arith in
      let e : suc j + 1 ≡ suc (j + 1) = omega arith in
      rw (d, e, ← drop_item j b, ← drop_item (j + 1) b) (ap (λ (r : List A). f b ∷ r) (decode_at k j (drop w b) (le_of_suc-le-suc h)))

  pub get_d_decode : (k j : ℕ) (b : List ℕ) (d : A) → j < k → get_or (decode_items w f k b) j d ≡ f (drop (w * j) b)
  get_d_decode k j b d h = rw (decode_at k j b h) (get_or_at (decode_items w f j b) (f (drop (w * j) b)) _ d j (length_decode j b))

  -- one item more
  pub decode_more : (k : ℕ) (b : List ℕ) → decode_items w f (suc k) b ≡ decode_items w f k b ++ (f (drop (w * k) b) ∷ [])
  unfolding decode_items
  decode_more k b = let e : suc k - (k + 1) ≡ 0 = omega arith in decode_at (suc k) k b (omega arith) ∙ rw e

  -- what holds of each item that f reads from bytes
  pub every_decode : (P : A → Type 0) → ((b : List ℕ) → Bytes b → P (f b)) → (k : ℕ) (b : List ℕ) → Bytes b → Every P (decode_items w f k b)
  unfolding decode_items
  every_decode P h zero b g = tt
  every_decode P h (suc k) b g = (h b g, every_decode P h k (drop w b) (every_drop IsByte w b g))

  module _ (g : A → List ℕ) where
    -- bytes to items and back
    pub items_back : ((b : List ℕ) → Bytes b → w ≤ length b → g (f b) ≡ take w b)
        → (k : ℕ) (b : List ℕ) → Bytes b → w * k ≤ length b → encode_items g (decode_items w f k b) ≡ take (w * k) b
    unfolding decode_items encode_items
    items_back one zero b h l = rw mul-zero
    items_back one (suc k) b h l =
        let e : w * suc k ≡ w + w * k = rw mul-suc (omega arith) in
        let m : w + w * k ≤ length b = rw e at l in
        let d : w * k ≤ length (drop w b) = simp length-drop (omega arith) in
        ap₂ (λ (p q : List ℕ). p ++ q) (one b h (omega arith)) (items_back one k (drop w b) (every_drop IsByte w b h) d) ∙ rw e (sym (take-add w (w * k) b))

    -- items to bytes and back, whatever stands behind them
    pub items_forth : (P : A → Type 0) → ((x : A) → length (g x) ≡ w) → ((x : A) (q : List ℕ) → P x → f (g x ++ q) ≡ x)
        → (xs : List A) (q : List ℕ) → Every P xs → decode_items w f (length xs) (encode_items g xs ++ q) ≡ xs
    unfolding decode_items encode_items
    items_forth P size one [] q h = refl
    items_forth P size one (x ∷ xs) q h =
        let rest = encode_items g xs ++ q in
        rw append_assoc
        (ap₂ (λ (a : A) (r : List A). a ∷ r) (one x rest h.0) (ap (decode_items w f (length xs)) (drop_at (g x) rest w (size x)) ∙ items_forth P size one xs q h.1))

module _ {A : Type 0} (g : A → List ℕ) where
  -- item i and the items behind it
  pub items_next : (xs : List A) (i : ℕ) (d : A) → i < length xs → encode_items g (drop i xs) ≡ g (get_or xs i d) ++ encode_items g (drop (i + 1) xs)
  unfolding encode_items
  items_next xs i d h = rw (drop-cons xs i d h, add-one i)

  -- a count of their bytes: item i counted, and all of them
  pub count_next : (xs : List A) (i n r : ℕ) (d : A) → i < length xs → r ≡ length (g (get_or xs i d)) → length (encode_items g xs) ≡ n + length (encode_items g (drop i xs))
      → length (encode_items g xs) ≡ n + r + length (encode_items g (drop (i + 1) xs))
  count_next xs i n r d h e p =
      omega (arith, ap length (items_next xs i d h), length-append (g (get_or xs i d)) (encode_items g (drop (i + 1) xs)))

  pub count_all : (xs : List A) (i n : ℕ) → length xs ≤ i → length (encode_items g xs) ≡ n + length (encode_items g (drop i xs)) → n ≡ length (encode_items g xs)
  unfolding encode_items
  count_all xs i n h p = let none : length (encode_items g (drop i xs)) ≡ 0 = rw (drop_of_length-le xs {i = i} h) in omega arith

  pub items_append : (xs ys : List A) → encode_items g (xs ++ ys) ≡ encode_items g xs ++ encode_items g ys
  unfolding encode_items
  items_append [] ys = refl
  items_append (x ∷ xs) ys = rw (items_append xs ys) (sym (append_assoc (g x) (encode_items g xs) (encode_items g ys)))

  -- items made of others
  pub items_map : {B : Type 0} (f : B → A) (xs : List B) → encode_items g (map f xs) ≡ encode_items (λ x. g (f x)) xs
  unfolding encode_items
  items_map f [] = refl
  items_map f (x ∷ xs) = rw (items_map f xs)

  -- the items that pass a test
  pub items_keep : (p : A → Bool) (xs : List A) → encode_items g (keep p xs) ≡ encode_items (λ x. cond (p x) (g x) []) xs
  unfolding encode_items
  items_keep p [] = refl
  items_keep p (x ∷ xs) = let ih = items_keep p xs in split (p x) (λ e. rw (e, ih)) (λ e. rw (e, ih))

  pub length_items : (w : ℕ) → ((x : A) → length (g x) ≡ w) → (xs : List A) → length (encode_items g xs) ≡ w * length xs
  unfolding encode_items
  length_items w size [] = rw mul-zero
  length_items w size (x ∷ xs) =
      let ih = length_items w size xs in
      let e : w * suc (length xs) ≡ w + w * length xs = rw mul-suc (omega arith) in
      rw (length-append, size x, ih, e)

  -- at most w bytes each
  pub items_most : (w : ℕ) (xs : List A) → Every (λ x. length (g x) ≤ w) xs → length (encode_items g xs) ≤ w * length xs
  unfolding encode_items
  items_most w [] most = omega arith
  items_most w (x ∷ xs) most =
      let ih = items_most w xs most.1 in
      let e : w * suc (length xs) ≡ w + w * length xs = rw mul-suc (omega arith) in
      rw (length-append, e) (omega (arith, most.0))

  pub items_bytes : ((x : A) → Bytes (g x)) → (xs : List A) → Bytes (encode_items g xs)
  unfolding encode_items
  items_bytes one [] = tt
  items_bytes one (x ∷ xs) = every_append IsByte (g x) (encode_items g xs) (one x) (items_bytes one xs)
