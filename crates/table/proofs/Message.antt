-- Laws of one message that a slot's words hold.
use Prim.Native.Nat.{ℕ, ◌+◌, ◌*◌, ◌/◌, ◌%◌, ◌<◌}
use mathlib.Core.Path.{◌≡◌, sym, ap, ◌∙◌}
use mathlib.Core.List.{List}
use native.Mathlib.Omega.{arith}
use lib.ListN.{get_or, drop}
use lib.Seq.{drop-drop}
use Rattle.label.specs.Label.{bit}
use Rattle.planes.proofs.Labels.{label_same}
use Rattle.table.specs.Table.{plane_in, ring_in, message_in}

-- a message is known by its bits in the planes and by its word
pub message_same : (w u : List ℕ) (i j : ℕ) → ((b : ℕ) → b < 4 → bit j (plane_in u b) ≡ bit i (plane_in w b))
    → ring_in (get_or u 13 0) u j ≡ ring_in (get_or w 13 0) w i → message_in u j ≡ message_in w i
unfolding message_in
message_same w u i j h e = rw (label_same 4 (plane_in u) (plane_in w) j i h, e)

-- its word has the sender above the value
module _ (sender value : ℕ) (small : sender < 256) (fits : value < 4294967296) where
  pub word_sender : (sender * 4294967296 + value) / 4294967296 % 256 ≡ sender
  word_sender = omega arith

  pub word_value : (sender * 4294967296 + value) % 4294967296 ≡ value
  word_value = omega arith

-- it stands in the planes and the ring, and depends on the ring's start
pub message_kept : (w u : List ℕ) → drop 16 u ≡ drop 16 w → get_or u 13 0 ≡ get_or w 13 0 → (i : ℕ) → message_in u i ≡ message_in w i
message_kept w u e s i =
    let f : drop 20 u ≡ drop 20 w = sym (drop-drop 4 16 u) ∙ ap (drop 4) e ∙ drop-drop 4 16 w in
    message_same w u i i (λ b l. rw e) (rw (s, f))
