-- Laws of lists: an element changed, a front or all but one element taken, tests and filters.
use Prim.Native.Nat.{ℕ, zero, suc, ◌+◌, ◌≤◌, ◌<◌}
use mathlib.Core.Path.{◌≡◌, refl, sym, ap}
use mathlib.Core.Bool.{Bool, true, false, ◌&&◌}
use mathlib.Core.List.{List, [], ◌∷◌, ◌++◌, map}
use native.Mathlib.Decide.{dec_le}
use native.Mathlib.Nat.{not-suc-le-zero}
use native.Mathlib.Numerals.{add-one}
use native.Mathlib.Omega.{arith}
use lib.ListN.{length, get_or, set, take, drop}
use Rattle.std.specs.List.{list_all}
use Rattle.wire.specs.Lists.{each, Every, all, keep, first_index, without, Bytes}

-- ---- cases

-- by cases on a test, with the equation at hand: `split (p x) (λ e. rw e ..) (λ e. rw e ..)`
pub split : {P : Type 0} (b : Bool) → (b ≡ true → P) → (b ≡ false → P) → P
split true f g = f refl
split false f g = g refl

pub and_both : (a b : Bool) → (a && b) ≡ true → (a ≡ true) × (b ≡ true)
and_both true b e = (refl, e)
and_both false b e = (e, cc)

pub same_tests : (a b : Bool) → (a ≡ true → b ≡ true) → (b ≡ true → a ≡ true) → a ≡ b
same_tests true b f g = sym (f refl)
same_tests false true f g = g refl
same_tests false false f g = refl

pub and_intro : (a b : Bool) → a ≡ true → b ≡ true → (a && b) ≡ true
and_intro a b e f = rw (e, f)

and_exchange : (a b c d : Bool) → ((a && b) && (c && d)) ≡ ((a && c) && (b && d))
and_exchange true true c d = refl
and_exchange true false true d = refl
and_exchange true false false d = refl
and_exchange false b c d = refl

-- ---- numbers below a bound

pub each_intro : (n : ℕ) (f : ℕ → Bool) → ((i : ℕ) → i < n → f i ≡ true) → each n f ≡ true
unfolding each
each_intro zero f h = refl
each_intro (suc n) f h = rw (h n (omega arith)) (each_intro n f (λ i l. h i (omega arith)))

pub each_at : (n : ℕ) (f : ℕ → Bool) → each n f ≡ true → (i : ℕ) → i < n → f i ≡ true
unfolding each
each_at zero f e i h = absurd (not-suc-le-zero h)
each_at (suc n) f e i h =
    let b = and_both (f n) (each n f) e in
    let ih = each_at n f b.1 i in
    elim (dec_le n i) [
      | yes p ↦ let q : i ≡ n = omega arith in rw q b.0
      | no p ↦ ih (omega arith)
    ]

-- a loop that goes up through the numbers
pub each_none : (f : ℕ → Bool) → each 0 f ≡ true
unfolding each
each_none f = refl

pub each_more : (j : ℕ) (f : ℕ → Bool) → each j f ≡ true → f j ≡ true → each (j + 1) f ≡ true
unfolding each
each_more j f h t = rw (add-one, t) h

pub each_fails : (n : ℕ) (f : ℕ → Bool) (j : ℕ) → j < n → f j ≡ false → each n f ≡ false
each_fails n f j h t = split (each n f) (λ e. cc (each_at n f e j h)) (λ e. e)

-- ---- elements of a list

module _ {A : Type 0} where
  -- an element after a store is the new one, at the index of the store, or the old one
  pub get_d_set_at : (P : A → Type 0) (l : List A) (i j : ℕ) (a d : A) → (j ≡ i → P a) → P (get_or l j d) → P (get_or (set l i a) j d)
  get_d_set_at P [] i j a d f h = h
  get_d_set_at P (x ∷ xs) zero zero a d f h = f refl
  get_d_set_at P (x ∷ xs) zero (suc j) a d f h = h
  get_d_set_at P (x ∷ xs) (suc i) zero a d f h = h
  get_d_set_at P (x ∷ xs) (suc i) (suc j) a d f h = get_d_set_at P xs i j a d (λ e. f (ap suc e)) h

  pub map_set : {B : Type 0} (f : A → B) (l : List A) (i : ℕ) (y : A) → map f (set l i y) ≡ set (map f l) i (f y)
  map_set f [] i y = refl
  map_set f (x ∷ xs) zero y = refl
  map_set f (x ∷ xs) (suc i) y = rw (map_set f xs i y)

  -- a map before f that f does not see
  pub map_absorb : {B : Type 0} (f : A → B) (g : A → A) → ((x : A) → f (g x) ≡ f x) → (l : List A) → map f (map g l) ≡ map f l
  map_absorb f g h [] = refl
  map_absorb f g h (x ∷ xs) = rw (h x, map_absorb f g h xs)

  pub length_nil : (l : List A) → length l ≡ 0 → l ≡ []
  length_nil [] e = refl
  length_nil (x ∷ xs) e = absurd (omega arith)

  pub take_length_take : (n : ℕ) (l : List A) → take n l ≡ take (length (take n l)) l
  take_length_take zero l = refl
  take_length_take (suc n) [] = refl
  take_length_take (suc n) (x ∷ l) = rw (← take_length_take n l)

-- ---- every element

module _ {A : Type 0} (P : A → Type 0) where
  -- of each element by its index, and the other way round
  pub every_at : (d : A) → P d → (xs : List A) → Every P xs → (i : ℕ) → P (get_or xs i d)
  every_at d p [] h i = p
  every_at d p (x ∷ xs) h zero = h.0
  every_at d p (x ∷ xs) h (suc i) = every_at d p xs h.1 i

  pub every_of : (d : A) (xs : List A) → ((i : ℕ) → P (get_or xs i d)) → Every P xs
  every_of d [] h = tt
  every_of d (x ∷ xs) h = (h 0, every_of d xs (λ i. h (suc i)))

  pub every_drop : (n : ℕ) (xs : List A) → Every P xs → Every P (drop n xs)
  every_drop zero xs h = h
  every_drop (suc n) [] h = tt
  every_drop (suc n) (x ∷ xs) h = every_drop n xs h.1

  pub every_take : (n : ℕ) (xs : List A) → Every P xs → Every P (take n xs)
  every_take zero xs h = tt
  every_take (suc n) [] h = tt
  every_take (suc n) (x ∷ xs) h = (h.0, every_take n xs h.1)

  pub every_append : (xs ys : List A) → Every P xs → Every P ys → Every P (xs ++ ys)
  every_append [] ys h g = g
  every_append (x ∷ xs) ys h g = (h.0, every_append xs ys h.1 g)

  pub every_weaken : (Q : A → Type 0) → ((x : A) → P x → Q x) → (xs : List A) → Every P xs → Every Q xs
  every_weaken Q f [] h = tt
  every_weaken Q f (x ∷ xs) h = (f x h.0, every_weaken Q f xs h.1)

  pub every_keep : (p : A → Bool) (xs : List A) → Every P xs → Every P (keep p xs)
  every_keep p [] h = h
  every_keep p (x ∷ xs) h = let ih = every_keep p xs h.1 in split (p x) (λ e. rw e (h.0, ih)) (λ e. rw e ih)

  pub every_without : (i : ℕ) (xs : List A) → Every P xs → Every P (without i xs)
  every_without i xs h = every_append (take i xs) (drop (suc i) xs) (every_take i xs h) (every_drop (suc i) xs h)

  -- a test that decides P decides it of every element
  pub every_all : (p : A → Bool) → ((x : A) → P x → p x ≡ true) → (xs : List A) → Every P xs → all p xs ≡ true
  unfolding all
  every_all p f [] h = refl
  every_all p f (x ∷ xs) h = rw (f x h.0) (every_all p f xs h.1)

-- what `Bytes` says of each element
abbrev pub IsByte : ℕ → Type 0
IsByte x = x < 256

pub byte_at : (s : List ℕ) → Bytes s → (i : ℕ) → get_or s i 0 < 256
byte_at s h i = every_at IsByte 0 (omega arith) s h i

-- ---- tests and filters

module _ {A : Type 0} where
  -- the library's test of each element
  pub all_list : (p : A → Bool) (xs : List A) → list_all p xs ≡ all p xs
  unfolding all
  all_list p [] = refl
  all_list p (x ∷ xs) = rw (all_list p xs)

  pub all_append : (p : A → Bool) (xs ys : List A) → all p (xs ++ ys) ≡ all p xs && all p ys
  unfolding all
  all_append p [] ys = refl
  all_append p (x ∷ xs) ys = let ih = all_append p xs ys in split (p x) (λ e. rw (e, ih)) (λ e. rw e)

  -- of each element by its index, and the other way round
  pub all_at : (p : A → Bool) (d : A) (xs : List A) → all p xs ≡ true → (i : ℕ) → i < length xs → p (get_or xs i d) ≡ true
  unfolding all
  all_at p d [] e i h = absurd (not-suc-le-zero h)
  all_at p d (x ∷ xs) e zero h = (and_both (p x) (all p xs) e).0
  all_at p d (x ∷ xs) e (suc i) h = all_at p d xs (and_both (p x) (all p xs) e).1 i (omega arith)

  pub all_intro : (p : A → Bool) (d : A) (xs : List A) → ((i : ℕ) → i < length xs → p (get_or xs i d) ≡ true) → all p xs ≡ true
  unfolding all
  all_intro p d [] f = refl
  all_intro p d (x ∷ xs) f = rw (f 0 (omega arith)) (all_intro p d xs (λ i h. f (suc i) (omega arith)))

  -- two tests are one
  pub all_and : (p q : A → Bool) (xs : List A) → all (λ x. p x && q x) xs ≡ (all p xs && all q xs)
  unfolding all
  all_and p q [] = refl
  all_and p q (x ∷ xs) = rw (all_and p q xs) (and_exchange (p x) (q x) (all p xs) (all q xs))

  pub keep_append : (p : A → Bool) (xs ys : List A) → keep p (xs ++ ys) ≡ keep p xs ++ keep p ys
  keep_append p [] ys = refl
  keep_append p (x ∷ xs) ys = let h = keep_append p xs ys in split (p x) (λ e. rw (e, h)) (λ e. rw (e, h))

  -- two filters are one
  pub keep_and : (p q : A → Bool) (xs : List A) → keep p (keep q xs) ≡ keep (λ x. q x && p x) xs
  keep_and p q [] = refl
  keep_and p q (x ∷ xs) =
      let h = keep_and p q xs in
      split (q x) (λ e. split (p x) (λ f. rw (e, f, h)) (λ f. rw (e, f, h))) (λ e. rw (e, h))

  -- a filter that drops nothing
  pub keep_all : (p : A → Bool) (xs : List A) → Every (λ x. p x ≡ true) xs → keep p xs ≡ xs
  keep_all p [] h = refl
  keep_all p (x ∷ xs) h = rw (h.0, keep_all p xs h.1)

  -- no more pass than there are
  pub keep_le : (p : A → Bool) (xs : List A) → length (keep p xs) ≤ length xs
  keep_le p [] = omega arith
  keep_le p (x ∷ xs) = let ih = keep_le p xs in split (p x) (λ e. rw e (omega arith)) (λ e. rw e (omega arith))

  -- without an element no more pass
  pub keep_without_le : (p : A → Bool) (i : ℕ) (xs : List A) → length (keep p (without i xs)) ≤ length (keep p xs)
  keep_without_le p zero [] = omega arith
  keep_without_le p (suc i) [] = omega arith
  keep_without_le p zero (x ∷ xs) = split (p x) (λ e. rw e (omega arith)) (λ e. rw e (omega arith))
  keep_without_le p (suc i) (x ∷ xs) =
      let ih = keep_without_le p i xs in
      split (p x) (λ e. rw e (omega arith)) (λ e. rw e ih)

  module _ (p q : A → Bool) where
    -- leaving elements out leaves no more that pass
    pub keep_keep_le : (xs : List A) → length (keep p (keep q xs)) ≤ length (keep p xs)
    keep_keep_le [] = omega arith
    keep_keep_le (x ∷ xs) =
        let ih = keep_keep_le xs in
        split (q x)
        (λ e. rw e (split (p x) (λ f. rw f (omega arith)) (λ f. rw f ih)))
        (λ e. rw e (split (p x) (λ f. rw f (omega arith)) (λ f. rw f ih)))

    module _ (stronger : (x : A) → p x ≡ true → q x ≡ true) where
      -- a weaker test first changes nothing
      pub keep_keep : (xs : List A) → keep p (keep q xs) ≡ keep p xs
      keep_keep [] = refl
      keep_keep (x ∷ xs) =
          let h = keep_keep xs in
          split (p x) (λ e. rw (stronger x e, e, h)) (λ e. split (q x) (λ f. rw (f, e, h)) (λ f. rw (f, e, h)))

      -- the first that passes is the same element, and the same are left without it
      pub first_keep : (d : A) (xs : List A) → get_or (keep q xs) (first_index p (keep q xs)) d ≡ get_or xs (first_index p xs) d
      first_keep d [] = refl
      first_keep d (x ∷ xs) =
          let h = first_keep d xs in
          split (p x) (λ e. rw (stronger x e, e)) (λ e. split (q x) (λ f. rw (f, e, h)) (λ f. rw (f, e, h)))

      pub without_keep : (xs : List A) → without (first_index p (keep q xs)) (keep q xs) ≡ keep q (without (first_index p xs) xs)
      without_keep [] = refl
      without_keep (x ∷ xs) =
          let h = without_keep xs in
          split (p x) (λ e. rw (stronger x e, e)) (λ e. split (q x) (λ f. rw (f, e, f, h)) (λ f. rw (f, e, f, h)))

-- ---- the first element that passes, by its index, and how many do

module _ {A : Type 0} (p : A → Bool) where
  pub first_none : (xs : List A) → length xs ≤ first_index p xs → length (keep p xs) ≡ 0
  first_none [] = λ h. refl
  first_none (x ∷ xs) =
      let ih = first_none xs in
      split (p x) (λ e. rw e (λ h. absurd (omega arith))) (λ e. rw e (λ h. ih (omega arith)))

  pub first_some : (xs : List A) → first_index p xs < length xs → 0 < length (keep p xs)
  first_some [] = λ h. absurd (not-suc-le-zero h)
  first_some (x ∷ xs) =
      let ih = first_some xs in
      split (p x) (λ e. rw e (λ h. omega arith)) (λ e. rw e (λ h. ih (omega arith)))

  pub first_le : (xs : List A) → first_index p xs ≤ length xs
  first_le [] = omega arith
  first_le (x ∷ xs) = let ih = first_le xs in split (p x) (λ e. rw e (omega arith)) (λ e. rw e (omega arith))

  -- it is no element behind one at which p passes
  pub first_low : (xs : List A) (i : ℕ) (d : A) → i < length xs → p (get_or xs i d) ≡ true → first_index p xs ≤ i
  first_low [] i d h e = absurd (not-suc-le-zero h)
  first_low (x ∷ xs) zero d h e = rw e (omega arith)
  first_low (x ∷ xs) (suc i) d h e =
      let ih = first_low xs i d (omega arith) e in
      split (p x) (λ t. rw t (omega arith)) (λ t. rw t (omega arith))

  -- p passes at the element there
  pub first_passes : (xs : List A) (d : A) → first_index p xs < length xs → p (get_or xs (first_index p xs) d) ≡ true
  first_passes [] d = λ h. absurd (not-suc-le-zero h)
  first_passes (x ∷ xs) d =
      let ih = first_passes xs d in
      split (p x) (λ e. rw e (λ h. e)) (λ e. rw e (λ h. ih (omega arith)))

  -- of elements at which p fails, with one behind them at which it passes
  pub first_behind : (xs : List A) (y : A) (ys : List A) → Every (λ x. p x ≡ false) xs → p y ≡ true → first_index p (xs ++ y ∷ ys) ≡ length xs
  first_behind [] y ys h t = rw t
  first_behind (x ∷ xs) y ys h t = rw (h.0, first_behind xs y ys h.1 t)

  -- a loop that goes up through the elements: p passes at the one at index i, or does not, or there is none
  pub first_here : (xs : List A) (i : ℕ) (d : A) → i < length xs → p (get_or xs i d) ≡ true → i ≤ first_index p xs → i ≡ first_index p xs
  first_here [] i d h t = absurd (not-suc-le-zero h)
  first_here (x ∷ xs) zero d h t = rw t (λ l. refl)
  first_here (x ∷ xs) (suc i) d h t =
      let ih = first_here xs i d (omega arith) t in
      split (p x) (λ e. rw e (λ l. absurd (omega arith))) (λ e. rw e (λ l. ap suc (ih (omega arith))))

  -- p fails at each of the first n
  pub first_above : (xs : List A) (n : ℕ) (d : A) → n ≤ length xs → ((k : ℕ) → k < n → p (get_or xs k d) ≡ false) → n ≤ first_index p xs
  first_above xs zero d h f = omega arith
  first_above [] (suc n) d h f = absurd (not-suc-le-zero h)
  first_above (x ∷ xs) (suc n) d h f =
      let ih = first_above xs n d (omega arith) (λ k l. f (suc k) (omega arith)) in
      rw (f 0 (omega arith)) (omega arith)

  pub first_past : (xs : List A) (i : ℕ) → length xs ≤ i → i ≤ first_index p xs → i ≡ first_index p xs
  first_past xs i h l = omega (arith, first_le xs)
