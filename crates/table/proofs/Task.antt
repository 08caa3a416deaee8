-- Laws of the task that a slot's words hold: what a store of each of its words changes in it.
use Prim.Native.Nat.{ℕ, ◌+◌, ◌%◌, ◌<◌, min}
use mathlib.Core.Path.{◌≡◌, refl, sym, ap, ◌∙◌}
use mathlib.Core.Logic.{◌≢◌}
use mathlib.Core.List.{List, ◌++◌}
use native.Mathlib.Omega.{arith}
use lib.ListN.{length, get_or, drop, set, length-drop}
use lib.Seq.{get_or-drop, drop-set-add, drop-set-lt, get_or-set_same, get_or-set_other}
use Rattle.wire.specs.Lists.{tabulate}
use Rattle.wire.proofs.Tabulate.{tabulate_same, tabulate_set, tabulate_front}
use Rattle.machine.specs.State.{with_kind, with_label, with_spare, with_pc, with_register, with_mailbox}
use Rattle.table.specs.Table.{low_four, message_in, task_in}
use Rattle.table.specs.Change.{new_task}
use Rattle.table.specs.Words.{cleared}
use Rattle.table.proofs.Message.{message_kept}

-- a slot's words are sixteen words and those of the planes and the ring
by_fields : (P : List ℕ → Type 0) → ((h : ℕ → ℕ) (r : List ℕ) → P (tabulate 16 h ++ r)) → (w : List ℕ) → length w ≡ 84 → P w
by_fields P f w long =
    let e : tabulate 16 (λ i. get_or w i 0) ++ drop 16 w ≡ w = tabulate_front 16 w 0 (omega arith) in
    rw e at (f (λ i. get_or w i 0) (drop 16 w))

-- a byte is all of its word, and so are four
low_byte : (x : ℕ) → x < 256 → x % 256 ≡ x
low_byte x h = omega arith

low_four_lem : (x : ℕ) → x < 4294967296 → x % 4294967296 ≡ x
low_four_lem x h = omega arith

module _ (x : ℕ) (w : List ℕ) (long : length w ≡ 84) where
  pub kind_stored : x < 256 → task_in (set w 0 x) ≡ with_kind x (task_in w)
  unfolding task_in tabulate message_in
  kind_stored b = by_fields (λ v. task_in (set v 0 x) ≡ with_kind x (task_in v)) (λ h r. rw (low_byte x b)) w long

  pub label_stored : x < 256 → task_in (set w 1 x) ≡ with_label x (task_in w)
  unfolding task_in tabulate message_in
  label_stored b = by_fields (λ v. task_in (set v 1 x) ≡ with_label x (task_in v)) (λ h r. rw (low_byte x b)) w long

  pub spare_stored : x < 256 → task_in (set w 2 x) ≡ with_spare x (task_in w)
  unfolding task_in tabulate message_in
  spare_stored b = by_fields (λ v. task_in (set v 2 x) ≡ with_spare x (task_in v)) (λ h r. rw (low_byte x b)) w long

  pub pc_stored : x < 4294967296 → task_in (set w 3 x) ≡ with_pc x (task_in w)
  unfolding task_in tabulate message_in
  pc_stored b = by_fields (λ v. task_in (set v 3 x) ≡ with_pc x (task_in v)) (λ h r. rw (low_four_lem x b)) w long

  pub count_stored : task_in (set w 12 x) ≡ with_mailbox (tabulate (min x 64) (message_in w)) (task_in w)
  unfolding task_in tabulate message_in
  count_stored = by_fields (λ v. task_in (set v 12 x) ≡ with_mailbox (tabulate (min x 64) (message_in v)) (task_in v)) (λ h r. refl) w long

pub task_stored : (k l c s p : ℕ) (w : List ℕ) → k < 256 → l < 256 → c < 256 → s < 256 → p < 4294967296
    → task_in (set (set (set (set (set (cleared 16 w) 0 k) 1 l) 14 c) 2 s) 3 p) ≡ new_task k l c s p
unfolding task_in tabulate
task_stored k l c s p w h g e f d = rw (low_byte k h, low_byte l g, low_byte c e, low_byte s f, low_four_lem p d)

-- a word is stored among the registers
registers_stored : (a x : ℕ) (w : List ℕ) → length w ≡ 84 → a < 8 → x < 4294967296
    → tabulate 8 (λ b. low_four (get_or (drop 4 (set w (4 + a) x)) b 0)) ≡ set (tabulate 8 (λ b. low_four (get_or (drop 4 w) b 0))) a x
registers_stored a x w long h fits =
    let inside : a < length (drop 4 w) = simp length-drop (omega arith) in
    let old : ℕ → ℕ = λ b. low_four (get_or (drop 4 w) b 0) in
    let new : ℕ → ℕ = λ b. low_four (get_or (set (drop 4 w) a x) b 0) in
    rw (drop-set-add)
    (tabulate_set 8 old new a (λ b l ne. ap (λ (y : ℕ). low_four y) (get_or-set_other (drop 4 w) a b x 0 ne)) h
    ∙ ap (set (tabulate 8 old) a) (ap (λ (y : ℕ). low_four y) (get_or-set_same (drop 4 w) a x 0 inside) ∙ low_four_lem x fits))

pub register_stored : (a x : ℕ) (w : List ℕ) → length w ≡ 84 → a < 8 → x < 4294967296 → task_in (set w (4 + a) x) ≡ with_register a x (task_in w)
unfolding task_in
register_stored a x w long h fits =
    let u = set w (4 + a) x in
    let same : (j : ℕ) → j ≢ 4 + a → get_or u j 0 ≡ get_or w j 0 = λ j ne. get_or-set_other w (4 + a) j x 0 ne in
    let start = same 13 (λ e. omega arith) in
    rw (
      same 0 (λ e. omega arith),
      same 1 (λ e. omega arith),
      same 2 (λ e. omega arith),
      same 3 (λ e. omega arith),
      same 12 (λ e. omega arith),
      same 14 (λ e. omega arith),
      registers_stored a x w long h fits,
      tabulate_same (min (get_or w 12 0) 64) (message_in w) (message_in u) (λ i _. message_kept w u (drop-set-lt 16 w (4 + a) x (omega arith)) start i),
    )

-- a task whose fields stay: only its mailbox may change
pub fields_kept : (w u : List ℕ) → ((k : ℕ) → k < 16 → k ≢ 13 → get_or u k 0 ≡ get_or w k 0)
    → task_in u ≡ with_mailbox (tabulate (min (get_or w 12 0) 64) (message_in u)) (task_in w)
unfolding task_in
fields_kept w u same =
    rw (
      same 0 (omega arith) (λ e. omega arith),
      same 1 (omega arith) (λ e. omega arith),
      same 2 (omega arith) (λ e. omega arith),
      same 3 (omega arith) (λ e. omega arith),
      same 12 (omega arith) (λ e. omega arith),
      same 14 (omega arith) (λ e. omega arith),
      tabulate_same 8 (λ b. low_four (get_or (drop 4 w) b 0)) (λ b. low_four (get_or (drop 4 u) b 0))
          (λ b h. ap (λ (y : ℕ). low_four y) (get_or-drop 4 u b 0 ∙ same (4 + b) (omega arith) (λ e. omega arith) ∙ sym (get_or-drop 4 w b 0))),
    )
