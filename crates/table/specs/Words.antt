-- What the table's private functions change in a slot's words.
use Rattle.std.specs.Prelude.{ℕ, suc, ◌-◌, ◌<◌, ◌≤◌, ◌≡◌, ◌≢◌, cond, List, ◌++◌, eqb, ltb, get_or, drop, replicate}
use Rattle.label.specs.Label.{bit}
use Rattle.planes.specs.Planes.{Bits, behind_gap}
use Rattle.machine.specs.declared.Message.{Message}
use Rattle.table.specs.Table.{start_word, planes_word, ring_word, mailbox_room, window, plane_in, ring_in, message_in}

-- u is the table t with words in slot s that R allows
pub record SlotChanged (s : ℕ) (R : List ℕ → List ℕ → Type 0) (t u : List ℕ) : Type 0 where
  pub here : R (window t s) (window u s)
  pub other : (j : ℕ) → j < 16 → j ≢ s → window u j ≡ window t j

-- u is the table t with f of the words of slot s
abbrev pub SlotStored : ℕ → (List ℕ → List ℕ) → List ℕ → List ℕ → Type 0
SlotStored s f = SlotChanged s (λ w u. u ≡ f w)

-- the words with 0 for the first n
abbrev pub cleared : ℕ → List ℕ → List ℕ
cleared n w = replicate n 0 ++ drop n w

-- ---- planes

-- the first n planes are changed as R allows, and nothing else is
pub record Planed (n : ℕ) (R : ℕ → ℕ → ℕ → Type 0) (w u : List ℕ) : Type 0 where
  pub fields : (k : ℕ) → k < planes_word → get_or u k 0 ≡ get_or w k 0
  pub changed : (b : ℕ) → b < n → R b (plane_in w b) (plane_in u b)
  pub kept : (b : ℕ) → n ≤ b → b < 4 → plane_in u b ≡ plane_in w b
  pub ring : drop ring_word u ≡ drop ring_word w

-- plane b has the label's bit b as bit n
abbrev pub WithBit : ℕ → ℕ → ℕ → ℕ → ℕ → Type 0
WithBit n label b x y = Bits (λ i. cond (eqb i n) (bit b label) (bit i x)) y

-- a plane without bit k
abbrev pub WithoutBit : ℕ → ℕ → ℕ → ℕ → Type 0
WithoutBit k b x y = Bits (λ i. bit (behind_gap k i) x) y

-- ---- the ring

-- message i of u has the word that message f i of w has, and the words ahead of the ring are kept
pub record Moved (start : ℕ) (f : ℕ → ℕ) (w u : List ℕ) : Type 0 where
  pub fields : (k : ℕ) → k < planes_word → get_or u k 0 ≡ get_or w k 0
  pub planes : (b : ℕ) → b < 4 → plane_in u b ≡ plane_in w b
  pub moved : (i : ℕ) → i < mailbox_room → ring_in start u i ≡ ring_in start w (f i)

-- message i has the word x, and the words of the others and those ahead of the ring are kept
pub record Mailed (i x : ℕ) (w u : List ℕ) : Type 0 where
  pub fields : (k : ℕ) → k < planes_word → get_or u k 0 ≡ get_or w k 0
  pub planes : (b : ℕ) → b < 4 → plane_in u b ≡ plane_in w b
  pub mail : ring_in (get_or u start_word 0) u i ≡ x
  pub others : (j : ℕ) → j < mailbox_room → j ≢ i → ring_in (get_or u start_word 0) u j ≡ ring_in (get_or w start_word 0) w j

-- those behind message i, up to message k, have moved down by one
abbrev pub down : ℕ → ℕ → ℕ → ℕ
down i k j = cond (ltb j i) j (cond (ltb (suc j) k) (suc j) j)

-- those ahead of message i, from message k on, have moved up by one
abbrev pub up : ℕ → ℕ → ℕ → ℕ
up i k j = cond (ltb i j) j (cond (ltb k j) (j - 1) j)

-- ---- the mailbox, but for its count

-- message m stands behind the first n, and the fields are kept
pub record With (n : ℕ) (m : Message) (w u : List ℕ) : Type 0 where
  pub fields : (k : ℕ) → k < planes_word → get_or u k 0 ≡ get_or w k 0
  pub before : (i : ℕ) → i < n → message_in u i ≡ message_in w i
  pub last : message_in u n ≡ m

-- the words of the ring without message i of n; the start may have moved, and the other fields are kept
pub record Closed (i n : ℕ) (w u : List ℕ) : Type 0 where
  pub fields : (k : ℕ) → k < planes_word → k ≢ start_word → get_or u k 0 ≡ get_or w k 0
  pub planes : (b : ℕ) → b < 4 → plane_in u b ≡ plane_in w b
  pub mail : (j : ℕ) → suc j < n → ring_in (get_or u start_word 0) u j ≡ ring_in (get_or w start_word 0) w (behind_gap i j)

-- message i of n is gone; the start may have moved, and the other fields are kept
pub record Without (i n : ℕ) (w u : List ℕ) : Type 0 where
  pub fields : (k : ℕ) → k < planes_word → k ≢ start_word → get_or u k 0 ≡ get_or w k 0
  pub others : (j : ℕ) → suc j < n → message_in u j ≡ message_in w (behind_gap i j)
