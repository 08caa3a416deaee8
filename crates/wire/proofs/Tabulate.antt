-- Laws of lists made from a function of the index.
use mathlib.Core.Path.{◌≡◌, refl, ap, ap₂}
use mathlib.Core.List.{List, [], ◌∷◌, ◌++◌}
use Prim.Native.Nat.{ℕ, zero, suc, ◌<◌, ◌≤◌}
use native.Mathlib.Nat.{le_of_suc-le-suc, not-suc-le-zero}
use native.Mathlib.Omega.{arith}
use lib.ListN.{length, get_or, take, drop, set}
use Rattle.wire.specs.Lists.{tabulate, without}

module _ {A : Type 0} where
  pub length_tabulate : (n : ℕ) (f : ℕ → A) → length (tabulate n f) ≡ n
  unfolding tabulate
  length_tabulate zero f = refl
  length_tabulate (suc n) f = ap suc (length_tabulate n (λ i. f (suc i)))

  pub get_d_tabulate : (n : ℕ) (f : ℕ → A) (i : ℕ) (d : A) → i < n → get_or (tabulate n f) i d ≡ f i
  unfolding tabulate
  get_d_tabulate zero f i d h = absurd (not-suc-le-zero h)
  get_d_tabulate (suc n) f zero d h = refl
  get_d_tabulate (suc n) f (suc i) d h = get_d_tabulate n (λ i. f (suc i)) i d (le_of_suc-le-suc h)

  pub tabulate_same : (n : ℕ) (f g : ℕ → A) → ((i : ℕ) → i < n → g i ≡ f i) → tabulate n g ≡ tabulate n f
  unfolding tabulate
  tabulate_same zero f g h = refl
  tabulate_same (suc n) f g h =
      let first : g 0 ≡ f 0 = h 0 (omega arith) in
      let rest : tabulate n (λ i. g (suc i)) ≡ tabulate n (λ i. f (suc i)) =
      tabulate_same n (λ i. f (suc i)) (λ i. g (suc i)) (λ i l. h (suc i) (omega arith)) in
      cc

  -- one element changed
  pub tabulate_set : (n : ℕ) (f g : ℕ → A) (k : ℕ) → ((i : ℕ) → i < n → (i ≡ k → ⊥) → g i ≡ f i) → k < n → tabulate n g ≡ set (tabulate n f) k (g k)
  unfolding tabulate
  tabulate_set zero f g k h l = absurd (not-suc-le-zero l)
  tabulate_set (suc n) f g zero h l =
      let rest : tabulate n (λ i. g (suc i)) ≡ tabulate n (λ i. f (suc i)) =
      tabulate_same n (λ i. f (suc i)) (λ i. g (suc i)) (λ i l. h (suc i) (omega arith) (λ e. omega arith)) in
      cc
  tabulate_set (suc n) f g (suc k) h l =
      let first : g 0 ≡ f 0 = h 0 (omega arith) (λ e. omega arith) in
      let rest : tabulate n (λ i. g (suc i)) ≡ set (tabulate n (λ i. f (suc i))) k (g (suc k)) =
      tabulate_set n (λ i. f (suc i)) (λ i. g (suc i)) k (λ i l ne. h (suc i) (omega arith) (λ e. ne (omega arith))) (le_of_suc-le-suc l) in
      cc

  -- the front of a list, element by element
  pub tabulate_front : (n : ℕ) (l : List A) (d : A) → n ≤ length l → tabulate n (λ i. get_or l i d) ++ drop n l ≡ l
  unfolding tabulate
  tabulate_front zero l d h = refl
  tabulate_front (suc n) [] d h = absurd (not-suc-le-zero h)
  tabulate_front (suc n) (x ∷ l) d h = ap (λ (r : List A). x ∷ r) (tabulate_front n l d (le_of_suc-le-suc h))

  pub take_tabulate : (k n : ℕ) (f : ℕ → A) → k ≤ n → take k (tabulate n f) ≡ tabulate k f
  unfolding tabulate
  take_tabulate zero n f h = refl
  take_tabulate (suc k) zero f h = absurd (not-suc-le-zero h)
  take_tabulate (suc k) (suc n) f h = ap (λ (r : List A). f 0 ∷ r) (take_tabulate k n (λ i. f (suc i)) (le_of_suc-le-suc h))

  -- one element more
  pub tabulate_append : (n : ℕ) (f g : ℕ → A) (y : A) → ((i : ℕ) → i < n → g i ≡ f i) → g n ≡ y → tabulate (suc n) g ≡ tabulate n f ++ (y ∷ [])
  unfolding tabulate
  tabulate_append zero f g y h e = rw e
  tabulate_append (suc n) f g y h e =
      let first : g 0 ≡ f 0 = h 0 (omega arith) in
      let rest : tabulate (suc n) (λ i. g (suc i)) ≡ tabulate n (λ i. f (suc i)) ++ (y ∷ []) =
      tabulate_append n (λ i. f (suc i)) (λ i. g (suc i)) y (λ i l. h (suc i) (omega arith)) e in
      ap₂ (λ (a : A) (l : List A). a ∷ l) first rest

  -- element k gone
  pub tabulate_without : (n : ℕ) (f g : ℕ → A) (k : ℕ) → k ≤ n → ((i : ℕ) → i < k → g i ≡ f i) → ((i : ℕ) → k ≤ i → i < n → g i ≡ f (suc i))
      → tabulate n g ≡ without k (tabulate (suc n) f)
  unfolding tabulate
  tabulate_without n f g zero l below above = tabulate_same n (λ i. f (suc i)) g (λ i h. above i (omega arith) h)
  tabulate_without zero f g (suc k) l below above = absurd (not-suc-le-zero l)
  tabulate_without (suc n) f g (suc k) l below above =
      let first : g 0 ≡ f 0 = below 0 (omega arith) in
      let rest : tabulate n (λ i. g (suc i)) ≡ without k (tabulate (suc n) (λ i. f (suc i))) =
      tabulate_without n (λ i. f (suc i)) (λ i. g (suc i)) k (le_of_suc-le-suc l) (λ i h. below (suc i) (omega arith)) (λ i h m. above (suc i) (omega arith) (omega arith)) in
      cc
