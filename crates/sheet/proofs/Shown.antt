-- Laws of the sheet's lines: what the code reads of a task is its line, and the lines follow one another.
use Prim.Native.Nat.{ℕ, ◌+◌, ◌-◌, ◌<◌, ◌≤◌}
use mathlib.Core.Path.{◌≡◌, ap}
use mathlib.Core.Bool.{true, false}
use mathlib.Core.List.{List, [], ◌∷◌, ◌++◌}
use native.Mathlib.Omega.{arith}
use borrow.Rule.Slice.PartMut.{put_mid}
use lib.ListN.{length, get_or, take, drop}
use Rattle.wire.specs.Lists.{tabulate}
use Rattle.wire.specs.Output.{overwrite}
use Rattle.wire.proofs.Tabulate.{length_tabulate, get_d_tabulate}
use Rattle.wire.proofs.Output.{ItemsWritten, item_part, items_more, items_size, items_all}
use Rattle.label.specs.Label.{flows}
use Rattle.machine.specs.State.{Task, Slot, slot_at}
use Rattle.machine.specs.View.{view_task}
use Rattle.table.specs.Change.{task_at}
use Rattle.snapshot.specs.Writing.{is_shown}
use Rattle.snapshot.proofs.Writing.{view_slot_shown, view_slot_hidden}
use Rattle.text.specs.Text.{decimal, line_rest}
use Rattle.sheet.specs.Sheet.{slot_line}
use Rattle.sheet.specs.Inner.{shown_task_line, shown_line, shown_lines}

-- ---- a line

-- by what the code reads of the task
module _ (v s : ℕ) (t : Task) {kind label spare pc mail : ℕ} where
  pub task_line : kind ≡ t.kind → label ≡ t.label → spare ≡ t.spare → pc ≡ t.pc → mail ≡ length (view_task (λ l. flows l v) t).mailbox
      → shown_task_line v s t ≡ decimal s ++ line_rest (kind ∷ label ∷ spare ∷ pc ∷ mail ∷ [])
  unfolding shown_task_line slot_line
  task_line k l p c m = rw (k, l, p, c, m)

-- by the test in the code
module _ (v : ℕ) (ss : List Slot) (s : ℕ) where
  pub line_shown : is_shown v (slot_at ss s) ≡ true → shown_line v ss s ≡ shown_task_line v s (task_at ss s)
  unfolding shown_line shown_task_line
  line_shown e = ap (slot_line s) (view_slot_shown v (slot_at ss s) e)

  pub line_hidden : is_shown v (slot_at ss s) ≡ false → shown_line v ss s ≡ []
  unfolding shown_line slot_line
  line_hidden e = ap (slot_line s) (view_slot_hidden v (slot_at ss s) e)

-- ---- the lines of all slots, one written after another

module _ (v : ℕ) (ss : List Slot) (out₀ : List ℕ) where
  -- those of the first slots stand in the first `at` bytes
  abbrev pub LinesWritten : List ℕ → ℕ → ℕ → Type 0
  LinesWritten out at s = ItemsWritten (shown_line v ss) (tabulate 16 (λ s. s)) out₀ out at s

  module _ (room : length (shown_lines v ss) ≤ length out₀) {out : List ℕ} {at s : ℕ} (more : s < 16) (h : LinesWritten out at s) where
    -- item s of the sixteen is slot s
    number : get_or (tabulate 16 (λ s. s)) s 0 ≡ s
    number = get_d_tabulate 16 (λ s. s) s 0 more

    counted : s < length (tabulate 16 (λ s. s))
    counted = omega (arith, length_tabulate 16 (λ s. s))

    pub line_part : length (shown_line v ss s) ≤ length (take (length out - at) (drop at out))
    unfolding shown_lines
    line_part = rw number at (item_part (shown_line v ss) (tabulate 16 (λ s. s)) out₀ room 0 counted h)

    pub lines_more : {ys : List ℕ} → ys ≡ overwrite (shown_line v ss s) (take (length out - at) (drop at out))
        → LinesWritten (put_mid at (length out - at) out ys) (at + length (shown_line v ss s)) (s + 1)
    unfolding shown_lines
    lines_more {ys} e = rw number at (items_more (shown_line v ss) (tabulate 16 (λ s. s)) out₀ room 0 counted h {ys = ys} (rw number e))

  module _ {out : List ℕ} {at s : ℕ} (last : 16 ≤ s) (h : LinesWritten out at s) where
    pub lines_size : at ≡ length (shown_lines v ss)
    unfolding shown_lines
    lines_size = items_size (shown_line v ss) (tabulate 16 (λ s. s)) out₀ (omega (arith, length_tabulate 16 (λ s. s))) h

    pub lines_all : out ≡ overwrite (shown_lines v ss) out₀
    unfolding shown_lines
    lines_all = items_all (shown_line v ss) (tabulate 16 (λ s. s)) out₀ (omega (arith, length_tabulate 16 (λ s. s))) h
