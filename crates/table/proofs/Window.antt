-- Laws of the words of a slot: where they stand in the table, and what a store does to them.
use Prim.Native.Nat.{ℕ, ◌+◌, ◌*◌, ◌<◌}
use mathlib.Core.Path.{◌≡◌, refl, sym, ap, ◌∙◌}
use mathlib.Core.List.{List}
use borrow.Author.Fill.{fill_more}
use native.Mathlib.Omega.{arith}
use lib.ListN.{length, get_or, set}
use lib.Seq.{get_or-set_same, get_or-set_other}
use Rattle.wire.proofs.Tabulate.{length_tabulate, get_d_tabulate, tabulate_same, tabulate_set}
use Rattle.table.specs.Table.{window}
use Rattle.table.specs.Words.{SlotChanged, SlotStored, cleared}

module _ (t : List ℕ) (s : ℕ) where
  pub window_length : length (window t s) ≡ 84
  unfolding window
  window_length = length_tabulate 84 (λ i. get_or t (16 * i + s) 0)

  pub word_at : (i : ℕ) → i < 84 → get_or t (16 * i + s) 0 ≡ get_or (window t s) i 0
  unfolding window
  word_at i h = sym (get_d_tabulate 84 (λ k. get_or t (16 * k + s) 0) i 0 h)

  pub stored_set : (i x : ℕ) → s < 16 → i < 84 → 16 * i + s < length t → SlotStored s (λ w. set w i x) t (set t (16 * i + s) x)
  unfolding window
  stored_set i x l h inside =
      let u = set t (16 * i + s) x in
      let same : (j k : ℕ) → (16 * k + j ≡ 16 * i + s → ⊥) → get_or u (16 * k + j) 0 ≡ get_or t (16 * k + j) 0
      = λ j k ne. get_or-set_other t (16 * i + s) (16 * k + j) x 0 ne in
      record {
        here = tabulate_set 84 (λ k. get_or t (16 * k + s) 0) (λ k. get_or u (16 * k + s) 0) i (λ k _ ne. same s k (λ e. ne (omega arith))) h
            ∙ ap (set (window t s) i) (get_or-set_same t (16 * i + s) x 0 inside);
        other = λ j small ne. tabulate_same 84 (λ k. get_or t (16 * k + j) 0) (λ k. get_or u (16 * k + j) 0) (λ k _. same j k (λ e. ne (omega arith)));
      }

-- ---- one after another

pub changed_none : (s : ℕ) (R : List ℕ → List ℕ → Type 0) (t : List ℕ) → R (window t s) (window t s) → SlotChanged s R t t
changed_none s R t r = record { here = r; other = λ j l ne. refl }

pub changed_as : {s : ℕ} {R : List ℕ → List ℕ → Type 0} {t u : List ℕ} (S : List ℕ → List ℕ → Type 0) → SlotChanged s R t u
    → (R (window t s) (window u s) → S (window t s) (window u s)) → SlotChanged s S t u
changed_as S p e = record { here = e p.here; other = p.other }

pub changed_then : {s : ℕ} {P Q : List ℕ → List ℕ → Type 0} {t u v : List ℕ} (S : List ℕ → List ℕ → Type 0) → SlotChanged s P t u → SlotChanged s Q u v
    → (P (window t s) (window u s) → Q (window u s) (window v s) → S (window t s) (window v s)) → SlotChanged s S t v
changed_then S p q e = record { here = e p.here q.here; other = λ j l ne. q.other j l ne ∙ p.other j l ne }

pub stored_then : {s : ℕ} {f g : List ℕ → List ℕ} {t u v : List ℕ} → SlotStored s f t u → SlotStored s g u v → SlotStored s (λ w. g (f w)) t v
stored_then {f = f} {g = g} p q = changed_then (λ w u. u ≡ g (f w)) p q (λ e d. d ∙ ap g e)

-- ---- the loop that clears words

pub cleared_none : (t : List ℕ) (s : ℕ) → SlotStored s (cleared 0) t t
cleared_none t s = changed_none s (λ w u. u ≡ cleared 0 w) t refl

pub cleared_more : {s i : ℕ} {t u v : List ℕ} → i < 84 → SlotStored s (cleared i) t u → SlotStored s (λ w. set w i 0) u v → SlotStored s (cleared (i + 1)) t v
cleared_more {s} {i} {t} h p q =
    changed_as (λ w u. u ≡ cleared (i + 1) w) (stored_then p q) (λ e. e ∙ fill_more i 0 (window t s) (omega (arith, window_length t s)))
