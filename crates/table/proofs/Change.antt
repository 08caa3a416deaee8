-- Laws of the list of slots and of the changes of one slot in it, for callers.
use Prim.Native.Nat.{ℕ, zero, suc, ◌<◌}
use mathlib.Core.Path.{◌≡◌, refl, sym, ap, ◌∙◌}
use mathlib.Core.List.{List, [], ◌∷◌}
use native.Mathlib.Omega.{arith}
use lib.ListN.{length, get_or, set}
use lib.Seq.{set-get_or}
use Rattle.wire.proofs.Lists.{get_d_set_at}
use Rattle.wire.proofs.Tabulate.{length_tabulate, get_d_tabulate}
use Rattle.machine.specs.declared.Message.{Message}
use Rattle.machine.specs.State.{Task, Slot, unused, used, slot_at, no_message}
use Rattle.table.specs.Table.{window, message_in, task_in, held, slots_of_words}
use Rattle.table.specs.Change.{task_or, task_at, Used, change_slot, change, opened}

pub length_slots : (t : List ℕ) → length (slots_of_words t) ≡ 16
unfolding slots_of_words
length_slots t = length_tabulate 16 (λ s. held (task_in (window t s)))

-- a slot whose task has a kind is used
pub kind_used : (ss : List Slot) (s : ℕ) → 0 < (task_at ss s).kind → Used s ss
kind_used ss s = there (slot_at ss s)
  where
    there : (x : Slot) → 0 < (task_or x).kind → x ≡ used (task_or x)
    there unused h = absurd (omega arith)
    there (used t) h = refl

-- and so is one with a message
pub mail_used : (ss : List Slot) (s i : ℕ) → i < length (task_at ss s).mailbox → Used s ss
mail_used ss s i = there (slot_at ss s)
  where
    there : (x : Slot) → i < length (task_or x).mailbox → x ≡ used (task_or x)
    there unused h = absurd (omega arith)
    there (used t) h = refl

-- two changes that agree on the task in the slot
pub change_same : (ss : List Slot) (s : ℕ) (f g : Task → Task) → ((t : Task) → slot_at ss s ≡ used t → f t ≡ g t) → change s f ss ≡ change s g ss
change_same ss s f g h = ap (set ss s) (agree (slot_at ss s) h)
  where
    agree : (x : Slot) → ((t : Task) → x ≡ used t → f t ≡ g t) → change_slot f x ≡ change_slot g x
    agree unused k = refl
    agree (used t) k = ap used (k t refl)

-- a change that leaves the task as it is
pub change_none : (ss : List Slot) (s : ℕ) (f : Task → Task) → ((t : Task) → slot_at ss s ≡ used t → f t ≡ t) → change s f ss ≡ ss
change_none ss s f h = change_same ss s f (λ t. t) h ∙ rw (change_slot_id (slot_at ss s)) (set-get_or ss s unused)
  where
    change_slot_id : (x : Slot) → change_slot (λ t. t) x ≡ x
    change_slot_id unused = refl
    change_slot_id (used t) = refl

-- a change of what was just stored
pub change_set : (s : ℕ) (f : Task → Task) (ss : List Slot) (x : Slot) → change s f (set ss s x) ≡ set ss s (change_slot f x)
change_set s f [] x = refl
change_set zero f (y ∷ ss) x = refl
change_set (suc s) f (y ∷ ss) x = ap (λ (r : List Slot). y ∷ r) (change_set s f ss x)

-- the slot that was changed
pub change_at : (s : ℕ) (f : Task → Task) (ss : List Slot) → slot_at (change s f ss) s ≡ change_slot f (slot_at ss s)
change_at s f [] = refl
change_at zero f (y ∷ ss) = refl
change_at (suc s) f (y ∷ ss) = change_at s f ss

-- two changes of one slot are one
pub change_change : (s : ℕ) (f g : Task → Task) (ss : List Slot) → change s g (change s f ss) ≡ change s (λ t. g (f t)) ss
change_change s f g ss = change_set s g ss (change_slot f (slot_at ss s)) ∙ ap (set ss s) (both (slot_at ss s))
  where
    both : (x : Slot) → change_slot g (change_slot f x) ≡ change_slot (λ t. g (f t)) x
    both unused = refl
    both (used t) = refl

-- a change of a task that is there
pub change_here : (ss : List Slot) (s : ℕ) → Used s ss → (f : Task → Task) → change s f ss ≡ set ss s (used (f (task_at ss s)))
change_here ss s here f = ap (λ (x : Slot). set ss s (change_slot f x)) here

-- what a change leaves as it is in its task, it leaves in every slot
pub change_keeps : {A : Type 0} (p : Task → A) (f : Task → Task) → ((t : Task) → p (f t) ≡ p t) → (s : ℕ) (ss : List Slot) (j : ℕ)
    → p (task_at (change s f ss) j) ≡ p (task_at ss j)
change_keeps p f same s ss j =
    get_d_set_at (λ (x : Slot). p (task_or x) ≡ p (task_at ss j)) ss s j (change_slot f (slot_at ss s)) unused
    (λ e. kept (slot_at ss s) ∙ ap (λ (i : ℕ). p (task_at ss i)) (sym e)) refl
  where
    kept : (x : Slot) → p (task_or (change_slot f x)) ≡ p (task_or x)
    kept unused = refl
    kept (used t) = same t

-- a mailbox that was opened
module _ (n : ℕ) (label : ℕ → ℕ) (w : List ℕ) where
  pub opened_length : length (opened n label w) ≡ n
  unfolding opened
  opened_length = length_tabulate n (λ i. record { label = label i; sender = (message_in w i).sender; value = (message_in w i).value })

  pub opened_label : (i : ℕ) → i < n → (get_or (opened n label w) i no_message).label ≡ label i
  unfolding opened
  opened_label i h = ap (λ (m : Message). m.label) (get_d_tabulate n (λ i. record { label = label i; sender = (message_in w i).sender; value = (message_in w i).value }) i no_message h)
