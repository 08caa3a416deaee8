-- Laws of the planes of a slot, changed one by one, and of a message whose words were stored.
use Prim.Native.Nat.{ℕ, ◌+◌, ◌*◌, ◌<◌, ◌≤◌}
use mathlib.Core.Path.{◌≡◌, refl, ◌∙◌}
use mathlib.Core.Logic.{◌≢◌, dite}
use mathlib.Core.List.{List}
use native.Mathlib.Decide.{ℕ_discrete}
use native.Mathlib.Omega.{arith}
use borrow.Author.Tests.{eq-eqb, ne_eqb}
use lib.ListN.{length, get_or, drop, set, length-drop}
use lib.Seq.{drop-set-add, drop-set-lt, get_or-set_same, get_or-set_other}
use Rattle.planes.proofs.Labels.{label_is}
use Rattle.machine.specs.declared.Message.{Message}
use Rattle.table.specs.Table.{window, plane_in, ring_in, message_in}
use Rattle.table.specs.Words.{SlotChanged, SlotStored, Planed, Mailed, WithBit, WithoutBit, With, Closed, Without}
use Rattle.table.proofs.Window.{window_length, changed_none, changed_as, changed_then}
use Rattle.table.proofs.Message.{message_same, word_sender, word_value}

-- ---- one plane after another

module _ (R : ℕ → ℕ → ℕ → Type 0) where
  planed_more : (w u : List ℕ) (n y : ℕ) → n < 4 → length u ≡ 84 → Planed n R w u → R n (plane_in u n) y → Planed (n + 1) R w (set u (16 + n) y)
  planed_more w u n y small long p r =
      let here : plane_in (set u (16 + n) y) n ≡ y = rw (drop-set-add) (get_or-set_same (drop 16 u) n y 0 (simp length-drop (omega arith))) in
      let other : (b : ℕ) → b ≢ n → plane_in (set u (16 + n) y) b ≡ plane_in u b = λ b ne. rw (drop-set-add) (get_or-set_other (drop 16 u) n b y 0 ne) in
      let first : R n (plane_in w n) y = rw (p.kept n (omega arith) small) at r in
      record {
        fields = λ k h. get_or-set_other u (16 + n) k y 0 (λ q. omega arith) ∙ p.fields k h;
        changed = λ b h. dite (ℕ_discrete b n) (λ q. rw (q, here) first) (λ ne. rw (other b ne) (p.changed b (omega (arith, ne))));
        kept = λ b h l. other b (λ q. omega arith) ∙ p.kept b (omega arith) l;
        ring = drop-set-lt 20 u (16 + n) y (omega arith) ∙ p.ring;
      }

  module _ (s : ℕ) (t : List ℕ) where
    pub planes_none : SlotChanged s (Planed 0 R) t t
    planes_none =
        changed_none s (Planed 0 R) t (record { fields = λ k h. refl; changed = λ b h. absurd (omega arith); kept = λ b h l. refl; ring = refl })

    pub planes_more : (n y : ℕ) (u v : List ℕ) → n < 4 → SlotChanged s (Planed n R) t u → R n (plane_in (window u s) n) y → SlotStored s (λ w. set w (16 + n) y) u v
        → SlotChanged s (Planed (n + 1) R) t v
    planes_more n y u v small p r q =
        changed_then (Planed (n + 1) R) p q (λ h e. rw e (planed_more (window t s) (window u s) n y small (window_length u s) h r))

-- what is allowed of a plane may allow more
pub planes_as : (R S : ℕ → ℕ → ℕ → Type 0) (s : ℕ) (t u : List ℕ) → ((b x y : ℕ) → b < 4 → R b x y → S b x y)
    → SlotChanged s (Planed 4 R) t u → SlotChanged s (Planed 4 S) t u
planes_as R S s t u e p =
    changed_as (Planed 4 S) p
    (λ q. record { fields = q.fields; changed = λ b h. e b _ _ h (q.changed b h); kept = λ b h l. absurd (omega arith); ring = q.ring })

-- ---- a message more

pub message_with : (n : ℕ) (m : Message) (w w₁ u : List ℕ) → n < 64 → m.label ≤ 15 → m.sender < 256 → m.value < 4294967296
    → Mailed n (m.sender * 4294967296 + m.value) w w₁ → Planed 4 (WithBit n m.label) w₁ u → With n m w u
unfolding message_in
message_with n m w w₁ u room label sender value q p =
    let ring : (j : ℕ) → ring_in (get_or u 13 0) u j ≡ ring_in (get_or w₁ 13 0) w₁ j = λ j. rw (p.fields 13 (omega arith), p.ring) in
    record {
      fields = λ k h. p.fields k h ∙ q.fields k h;
      before = λ i h.
          message_same w u i i (λ b l. p.changed b l i (omega arith) ∙ rw (ne_eqb i n (λ e. omega arith), q.planes b l))
          (ring i ∙ q.others i (omega arith) (λ e. omega arith));
      last = rw (label_is 4 (plane_in u) n m.label (omega arith) (λ b l. p.changed b l n room ∙ rw (eq-eqb n n refl)), ring n, q.mail, word_sender m.sender m.value sender value, word_value m.sender m.value sender value);
    }

-- ---- a message less

pub message_without : (i n : ℕ) (w w₁ u : List ℕ) → n ≤ 64 → Closed i n w w₁ → Planed 4 (WithoutBit i) w₁ u → Without i n w u
message_without i n w w₁ u many c p =
    let start : get_or u 13 0 ≡ get_or w₁ 13 0 = p.fields 13 (omega arith) in
    record {
      fields = λ k h ne. p.fields k h ∙ c.fields k h ne;
      others = λ j h.
          message_same w u _ j (λ b l. p.changed b l j (omega arith) ∙ rw (c.planes b l)) (rw (start, p.ring) (c.mail j h));
    }
