-- Laws of the lines that are written, one for each four of a program's bytes.
use Prim.Native.Nat.{ℕ, ◌+◌, ◌*◌, ◌-◌, ◌<◌, ◌≤◌}
use mathlib.Core.Path.{◌≡◌, refl, sym, ap, ◌∙◌}
use mathlib.Core.List.{List, ◌++◌}
use native.Mathlib.Nat.{add-zero}
use native.Mathlib.Omega.{arith}
use borrow.Rule.Slice.PartMut.{put_mid}
use lib.ListN.{length, get_or, take, drop, length-append, length-drop, get_or-append}
use lib.Seq.{drop-drop, get_or-drop, drop_at}
use Rattle.wire.specs.Output.{overwrite}
use Rattle.wire.proofs.Output.{ItemsWritten, items_none, item_room, item_part, items_more, items_size, items_all}
use Rattle.instruction.specs.Program.{count}
use Rattle.listing.specs.Listing.{line_text, listing_text, line_of, lines_of}
use Rattle.listing.proofs.Program.{no_line, lines_many, line_item}

-- the lines of the bytes ahead of the rest are written
pub record LinesWritten (program rest out₀ out : List ℕ) (at : ℕ) : Type 0 where
  pub done : ℕ
  pub behind : rest ≡ drop (4 * done) program
  pub within : 4 * done ≤ length program
  pub items : ItemsWritten line_text (lines_of program) out₀ out at done

pub lines_none : (program out : List ℕ) → LinesWritten program program out out 0
lines_none program out = record { done = 0; behind = refl; within = omega arith; items = items_none line_text (lines_of program) out }

module _ {program rest out₀ out : List ℕ} {at : ℕ} (room : length (listing_text (lines_of program)) ≤ length out₀)
    (h : LinesWritten program rest out₀ out at) where
  -- four more bytes
  module _ (x later : List ℕ) (four : length x ≡ 4) (next : rest ≡ x ++ later) where
    more : h.done < count program
    more = omega (arith, four, ap length next, length-append x later, ap length h.behind, length-drop (4 * h.done) program)

    listed : h.done < length (lines_of program)
    listed = rw lines_many more

    byte : (j : ℕ) → j < 4 → get_or x j 0 ≡ get_or program (4 * h.done + j) 0
    byte j l =
        sym (get_or-append x later 0 j (omega (arith, four)))
        ∙ ap (λ (s : List ℕ). get_or s j 0) (sym next ∙ h.behind)
        ∙ get_or-drop (4 * h.done) program j 0

    item : line_of x ≡ get_or (lines_of program) h.done no_line
    item = rw (line_item program h.done no_line more, byte 0 (omega arith), byte 1 (omega arith), byte 2 (omega arith), byte 3 (omega arith), add-zero) refl

    pub line_room : at + length (line_text (line_of x)) ≤ length out
    unfolding listing_text
    line_room = rw item (item_room line_text (lines_of program) out₀ room no_line listed h.items)

    pub line_part : length (line_text (line_of x)) ≤ length (take (length out - at) (drop at out))
    unfolding listing_text
    line_part = rw item (item_part line_text (lines_of program) out₀ room no_line listed h.items)

    pub lines_more : {ys : List ℕ} {n : ℕ} → (n ≡ length (line_text (line_of x))) × (ys ≡ overwrite (line_text (line_of x)) (take (length out - at) (drop at out)))
        → LinesWritten program later out₀ (put_mid at (length out - at) out ys) (at + n)
    unfolding listing_text
    lines_more {ys} {n} wrote = record {
      done = h.done + 1;
      behind =
          let front : later ≡ drop 4 rest = rw next (sym (drop_at x later 4 four)) in
          front ∙ rw (h.behind, drop-drop 4 (4 * h.done) program) (ap (λ (n : ℕ). drop n program) (omega arith));
      within = omega (arith, more);
      items =
          rw (wrote.0, item)
          (items_more line_text (lines_of program) out₀ room no_line listed h.items (rw item at wrote.1));
    }

  -- fewer than four are left
  pub lines_all : length rest < 4 → (at ≡ length (listing_text (lines_of program))) × (out ≡ overwrite (listing_text (lines_of program)) out₀)
  unfolding listing_text
  lines_all few =
      let all : length (lines_of program) ≤ h.done = rw lines_many (omega (arith, ap length h.behind, length-drop (4 * h.done) program, h.within)) in
      (items_size line_text (lines_of program) out₀ all h.items, items_all line_text (lines_of program) out₀ all h.items)
