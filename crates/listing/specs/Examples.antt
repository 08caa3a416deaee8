-- Rows of programs as text, each decided by computation.
use Rattle.std.specs.Prelude.{◌≡◌, List, [], ◌∷◌, ℕ}
use Rattle.wire.specs.Lists.{tabulate}
use Rattle.text.specs.Text.{ascii}
use Rattle.listing.specs.Listing.{Line, line, listing_text, lines_number, program_bytes, part_number, lines_of}

-- the program of 01's image B, as bytes and as lines
abbrev pub program : List ℕ
program = 0x08 ∷ 1 ∷ 0 ∷ 2 ∷ 0x00 ∷ 0 ∷ 0 ∷ 0 ∷ 0x09 ∷ 3 ∷ 4 ∷ 0 ∷ 0x00 ∷ 0 ∷ 0 ∷ 0 ∷ []

abbrev pub lines : List Line
lines = line 0x08 1 0 2 ∷ line 0x00 0 0 0 ∷ line 0x09 3 4 0 ∷ line 0x00 0 0 0 ∷ []

pub record Examples : Type 0 where
  -- "A line is the word from 01's table, then a, b and c in decimal, single spaces between, no leading zeros, and a line feed"
  pub listed : listing_text (lines_of program) ≡ ascii "send 1 0 2\nend 0 0 0\ntake 3 4 0\nend 0 0 0\n"
  pub typed : (lines_of program ≡ lines) × (program_bytes lines ≡ program)
  pub accepted : (part_number program ≡ 0) × (lines_number lines ≡ 0)
  -- the words of the table's first and last row, and of the longest line
  pub words : (listing_text (line 0x00 0 0 0 ∷ []) ≡ ascii "end 0 0 0\n")
      × (listing_text (line 0x0C 0 1 0 ∷ []) ≡ ascii "self 0 1 0\n")
      × (listing_text (line 0x0B 7 255 15 ∷ []) ≡ ascii "sandbox 7 255 15\n")
  -- the empty text is a list, of no line
  pub empty : listing_text [] ≡ []
  -- "Zero lines, or more than 256, is number 5"
  pub lengths : (lines_number [] ≡ 5) × (lines_number (tabulate 257 (λ i. line 0x00 0 0 0)) ≡ 5) × (lines_number (tabulate 256 (λ i. line 0x00 0 0 0)) ≡ 0)
  -- "A number above 255, however long, is an operand outside the table"; targets are below the number of lines
  pub operands : (lines_number (line 0x01 0 255 255 ∷ []) ≡ 0)
      × (lines_number (line 0x01 0 256 0 ∷ []) ≡ 6)
      × (lines_number (line 0x01 0 0 1000000000000000000000000000000000000000 ∷ []) ≡ 6)
      × (lines_number (line 0x05 0 0 0 ∷ []) ≡ 0)
      × (lines_number (line 0x05 1 0 0 ∷ []) ≡ 6)
  -- the lister: no instruction, a part of one, a code that is in no row, a target that is not below 1
  pub refused : (part_number [] ≡ 5) × (part_number (0 ∷ 0 ∷ 0 ∷ []) ≡ 5) × (part_number (0x0E ∷ 0 ∷ 0 ∷ 0 ∷ []) ≡ 6) × (part_number (0x05 ∷ 1 ∷ 0 ∷ 0 ∷ []) ≡ 6)
