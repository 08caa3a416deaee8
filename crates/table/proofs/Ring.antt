-- Laws of the ring of messages: a word stored, words moved one after another, and the gap that a message leaves closed.
use Prim.Native.Nat.{ℕ, suc, ◌+◌, ◌-◌, ◌%◌, ◌<◌, ◌≤◌}
use mathlib.Core.Path.{◌≡◌, refl, sym, subst, ◌∙◌}
use mathlib.Core.Logic.{◌≢◌, dite}
use mathlib.Core.List.{List}
use native.Mathlib.Decide.{ℕ_discrete, dec_lt}
use native.Mathlib.Omega.{arith}
use borrow.Author.Tests.{lt-ltb, le-ltb}
use lib.ListN.{length, get_or, drop, set, length-drop}
use lib.Seq.{get_or-drop, drop-set-add, drop-set-lt, get_or-set_same, get_or-set_other}
use Rattle.planes.specs.Planes.{behind_gap}
use Rattle.table.specs.Table.{window, plane_in, ring_in}
use Rattle.table.specs.Words.{SlotChanged, SlotStored, Moved, Mailed, down, up, Closed}
use Rattle.table.proofs.Window.{window_length, changed_none, changed_then}

-- ---- a word of the ring is stored

module _ (at x : ℕ) (w : List ℕ) where
  ring_fields : (k : ℕ) → k < 16 → get_or (set w (20 + at) x) k 0 ≡ get_or w k 0
  ring_fields k h = get_or-set_other w (20 + at) k x 0 (λ q. omega arith)

  ring_planes : (b : ℕ) → b < 4 → plane_in (set w (20 + at) x) b ≡ plane_in w b
  ring_planes b h = get_or-drop 16 (set w (20 + at) x) b 0 ∙ get_or-set_other w (20 + at) (16 + b) x 0 (λ q. omega arith) ∙ sym (get_or-drop 16 w b 0)

-- it is that of message i
pub mail_stored : (i at x : ℕ) (w u : List ℕ) → length w ≡ 84 → i < 64 → at ≡ (get_or w 13 0 % 64 + i) % 64 → u ≡ set w (20 + at) x → Mailed i x w u
mail_stored i at x w u long room placed e =
    let place : (get_or w 13 0 + i) % 64 ≡ at = omega arith in
    let start : get_or (set w (20 + at) x) 13 0 ≡ get_or w 13 0 = ring_fields at x w 13 (omega arith) in
    rw e
    (record {
      fields = ring_fields at x w;
      planes = ring_planes at x w;
      mail = rw (start, drop-set-add, place) (get_or-set_same (drop 20 w) at x 0 (simp length-drop (omega arith)));
      others = λ j h ne. rw (start, drop-set-add) (get_or-set_other (drop 20 w) at ((get_or w 13 0 + j) % 64) x 0 (λ q. ne (omega arith)));
    })

-- ---- one message after another

pub moved_none : (start : ℕ) (f : ℕ → ℕ) (w : List ℕ) → ((j : ℕ) → f j ≡ j) → Moved start f w w
moved_none start f w e = record { fields = λ k h. refl; planes = λ b h. refl; moved = λ j h. rw (e j) }

-- message `to` gets the word of message `from`
moved_more : (start : ℕ) (f g : ℕ → ℕ) (w u : List ℕ) (from to : ℕ) → to < 64 → from < 64 → length u ≡ 84 → Moved start f w u
    → g to ≡ f from → ((j : ℕ) → j ≢ to → g j ≡ f j) → Moved start g w (set u (20 + (start + to) % 64) (ring_in start u from))
moved_more start f g w u from to h l long p here others =
    let at = (start + to) % 64 in
    let x = ring_in start u from in
    record {
      fields = λ k a. ring_fields at x u k a ∙ p.fields k a;
      planes = λ b a. ring_planes at x u b a ∙ p.planes b a;
      moved = λ j a.
          dite (ℕ_discrete j to)
          (λ q. rw (q, here, drop-set-add) (get_or-set_same (drop 20 u) at x 0 (simp length-drop (omega arith)) ∙ p.moved from l))
          (λ ne. rw (others j ne, drop-set-add) (get_or-set_other (drop 20 u) at ((start + j) % 64) x 0 (λ q. ne (omega arith)) ∙ p.moved j a));
    }

module _ (s start : ℕ) (t : List ℕ) (f : ℕ → ℕ) where
  pub ring_none : ((j : ℕ) → f j ≡ j) → SlotChanged s (Moved start f) t t
  ring_none e = changed_none s (Moved start f) t (moved_none start f (window t s) e)

  pub ring_more : (g : ℕ → ℕ) (from to : ℕ) (u v : List ℕ) → to < 64 → from < 64 → SlotChanged s (Moved start f) t u
      → SlotStored s (λ w. set w (20 + (start + to) % 64) (ring_in start w from)) u v → g to ≡ f from → ((j : ℕ) → j ≢ to → g j ≡ f j) → SlotChanged s (Moved start g) t v
  ring_more g from to u v h l p q here others =
      changed_then (Moved start g) p q (λ m e. rw e (moved_more start f g (window t s) (window u s) from to h l (window_length u s) m here others))

-- ---- down and up, message by message

module _ (i : ℕ) where
  pub down_none : (j : ℕ) → down i (i + 1) j ≡ j
  down_none j = dite (dec_lt j i) (λ l. rw (lt-ltb j i l)) (λ l. rw (le-ltb j i (omega arith), le-ltb (suc j) (i + 1) (omega arith)))

  pub up_none : (j : ℕ) → up i i j ≡ j
  up_none j = dite (dec_lt i j) (λ l. rw (lt-ltb i j l)) (λ l. rw (le-ltb i j (omega arith)))

  module _ (k : ℕ) where
    pub down_here : i < k → down i (k + 1) (k - 1) ≡ down i k k
    down_here h =
        let e : suc (k - 1) ≡ k = omega arith in
        rw (le-ltb (k - 1) i (omega arith), e, lt-ltb k (k + 1) (omega arith), le-ltb k i (omega arith), le-ltb (suc k) k (omega arith))

    pub down_other : 0 < k → (j : ℕ) → j ≢ k - 1 → down i (k + 1) j ≡ down i k j
    down_other h j ne =
        dite (dec_lt (suc j) k)
        (λ l. rw (lt-ltb (suc j) k l, lt-ltb (suc j) (k + 1) (omega arith)))
        (λ l. rw (le-ltb (suc j) k (omega arith), le-ltb (suc j) (k + 1) (omega (arith, ne))))

    pub up_here : k ≤ i → 0 < k → up i (k - 1) k ≡ up i k (k - 1)
    up_here h l =
        rw (le-ltb i k (omega arith), lt-ltb (k - 1) k (omega arith), le-ltb i (k - 1) (omega arith), le-ltb k (k - 1) (omega arith))

    pub up_other : 0 < k → (j : ℕ) → j ≢ k → up i (k - 1) j ≡ up i k j
    up_other h j ne =
        dite (dec_lt k j)
        (λ l. rw (lt-ltb k j l, lt-ltb (k - 1) j (omega arith)))
        (λ l. rw (le-ltb k j (omega arith), le-ltb (k - 1) j (omega (arith, ne))))

-- ---- the gap is closed

-- a start counts round the ring
pub start_round : (x j : ℕ) → (x % 64 + j) % 64 ≡ (x + j) % 64
start_round x j = omega arith

start_next : (x j : ℕ) → ((x % 64 + 1) % 64 + j) % 64 ≡ (x % 64 + suc j) % 64
start_next x j = omega arith

pub closed_down : (i n start : ℕ) (w u : List ℕ) → start ≡ get_or w 13 0 % 64 → n ≤ 64 → Moved start (down i n) w u → Closed i n w u
closed_down i n s w u is many q =
    let x = get_or w 13 0 in
    let p = subst (λ (k : ℕ). Moved k (down i n) w u) is q in
    let start : get_or u 13 0 ≡ x = p.fields 13 (omega arith) in
    record {
      fields = λ k h ne. p.fields k h;
      planes = p.planes;
      mail = λ j h.
          rw (start, ← start_round x j, ← start_round x (behind_gap i j))
          (p.moved j (omega arith) ∙ rw (lt-ltb (suc j) n h));
    }

-- the start is stored last
pub closed_up : (i n start : ℕ) (w u v : List ℕ) → start ≡ get_or w 13 0 % 64 → length u ≡ 84 → i < n → n ≤ 64 → Moved start (up i 0) w u
    → v ≡ set u 13 ((start + 1) % 64) → Closed i n w v
closed_up i n s w u v is long less many q stored =
    let x = get_or w 13 0 in
    let p = subst (λ (k : ℕ). Moved k (up i 0) w u) is q in
    let e = subst (λ (k : ℕ). v ≡ set u 13 ((k + 1) % 64)) is stored in
    let y = (x % 64 + 1) % 64 in
    let start : get_or (set u 13 y) 13 0 ≡ y = get_or-set_same u 13 y 0 (omega arith) in
    let next : (j : ℕ) → up i 0 (suc j) ≡ behind_gap i j
    = λ j. dite (dec_lt j i) (λ l. rw (le-ltb i (suc j) l, lt-ltb 0 (suc j) (omega arith), lt-ltb j i l) (omega arith)) (λ l. rw (lt-ltb i (suc j) (omega arith), le-ltb j i (omega arith))) in
    rw e
    (record {
      fields = λ k h ne. get_or-set_other u 13 k y 0 ne ∙ p.fields k h;
      planes = λ b h. rw (drop-set-lt 16 u 13 y (omega arith)) (p.planes b h);
      mail = λ j h.
          rw (start, drop-set-lt 20 u 13 y (omega arith), start_next x j, ← start_round x (behind_gap i j))
          (p.moved (suc j) (omega arith) ∙ rw (next j));
    })
