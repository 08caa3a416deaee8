-- Laws of the lines of a program's bytes: how many there are, and each of them.
use Prim.Native.Nat.{ℕ, ◌+◌, ◌*◌, ◌<◌}
use mathlib.Core.Path.{◌≡◌, refl}
use mathlib.Core.List.{List}
use native.Mathlib.Nat.{add-zero}
use lib.ListN.{length, get_or, drop}
use lib.Seq.{get_or-drop}
use Rattle.wire.proofs.Items.{length_decode, get_d_decode}
use Rattle.instruction.specs.Program.{count}
use Rattle.listing.specs.Listing.{Line, line, line_of, lines_of}

-- what stands past the last line, where one is asked for
abbrev pub no_line : Line
no_line = line 0 0 0 0

module _ (program : List ℕ) where
  pub lines_many : length (lines_of program) ≡ count program
  unfolding lines_of
  lines_many = length_decode 4 line_of (count program) program

  pub line_item : (i : ℕ) (d : Line) → i < count program
      → get_or (lines_of program) i d ≡ line (get_or program (4 * i) 0) (get_or program (4 * i + 1) 0) (get_or program (4 * i + 2) 0) (get_or program (4 * i + 3) 0)
  unfolding lines_of
  line_item i d h =
      let at : (j : ℕ) → get_or (drop (4 * i) program) j 0 ≡ get_or program (4 * i + j) 0 = λ j. get_or-drop (4 * i) program j 0 in
      rw (get_d_decode 4 line_of (count program) i program d h, at 0, at 1, at 2, at 3, add-zero) refl
