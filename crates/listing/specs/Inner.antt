-- Definitions for contracts of functions that are no calls, which no claim and no call's promise reaches: what is read at the front of
-- a text, and what is kept of a text that was read.
use Rattle.std.specs.Prelude.{ℕ, ◌+◌, ◌*◌, ◌/◌, ◌≤◌, ◌≡◌, Bool, true, Option, Some, None, Result, Ok, Err, cond, ◌&&◌, List, [], ◌∷◌, ◌++◌, leb, ltb, length, take, drop}
use Rattle.refusal.specs.declared.Refusal.{Refusal}
use Rattle.refusal.specs.declared.Refusal.TheVariants.{Text}
use Rattle.wire.specs.Lists.{all}
use Rattle.text.specs.Inner.{ahead, byte_value, number_length, number_value}
use Rattle.instruction.specs.Table.{table}
use Rattle.instruction.specs.Program.{count}
use Rattle.word.specs.Inner.{code_of}
use Rattle.image.specs.Refusal.{◌then◌, unless, instructions_number}
use Rattle.listing.specs.declared.ReadLine.{ReadLine}
use Rattle.listing.specs.declared.ReadText.{ReadText}
use Rattle.std.specs.Option.{option_and_then, option_map}
use Rattle.listing.specs.Listing.{Line, line, Spells, is_bytes, program_bytes}

-- ---- a line

-- what stands behind the word, behind a and behind b
abbrev pub behind_word : List ℕ → List ℕ
behind_word b = drop (length (ahead 32 b) + 1) b

abbrev pub behind_number : List ℕ → List ℕ
behind_number b = drop (number_length 32 b) b

-- the line at the front of b, where there is one
unfoldable pub line_at : List ℕ → Line
line_at b =
    line (code_of (ahead 32 b)) (number_value 32 (behind_word b)) (number_value 32 (behind_number (behind_word b)))
    (number_value 10 (behind_number (behind_number (behind_word b))))

-- a word and three numbers are there
unfoldable pub has_line : List ℕ → Bool
has_line b =
    ltb (code_of (ahead 32 b)) (length table)
    && ltb 0 (number_length 32 (behind_word b))
    && ltb 0 (number_length 32 (behind_number (behind_word b)))
    && ltb 0 (number_length 10 (behind_number (behind_number (behind_word b))))

-- how many bytes it has, 0 where there is none
unfoldable pub line_length : List ℕ → ℕ
line_length b =
    cond (has_line b)
    (length (ahead 32 b)
    + 1
    + number_length 32 (behind_word b)
    + number_length 32 (behind_number (behind_word b))
    + number_length 10 (behind_number (behind_number (behind_word b))))
    0

-- the line that the code tells there: each number as a byte, and how many bytes it has
abbrev pub told_line : List ℕ → ReadLine
told_line b =
    record {
      code = (line_at b).code;
      a = byte_value (line_at b).a;
      b = byte_value (line_at b).b;
      c = byte_value (line_at b).c;
      length = line_length b;
    }

unfoldable pub read_line : List ℕ → Option ReadLine
read_line b = cond (has_line b) (Some (told_line b)) None

-- ---- what is kept of lines: four bytes each, where all their numbers are bytes

-- the bytes of a line that was read, none where a number is none
abbrev pub told_bytes : ReadLine → Option (List ℕ)
told_bytes l = option_and_then (λ a. option_and_then (λ b. option_map (λ c. l.code ∷ a ∷ b ∷ c ∷ []) l.c) l.b) l.a

-- a program once the bytes of a line are kept behind `lines` others, where there is room for them
abbrev pub kept : ℕ → List ℕ → List ℕ → List ℕ
kept lines line program =
    cond (ltb lines (length program / 4)) (take (4 * lines) program ++ (line ++ drop (4 * lines + 4) program)) program

-- the lines of a whole text, and, where all their numbers are bytes, what is kept of them in the first bytes of a program that has room
-- for them
pub record Kept (text program : List ℕ) (lines : ℕ) (bytes : Bool) : Type 0 where
  pub list : List Line
  pub spells : Spells list text
  pub counted : lines ≡ length list
  pub all_bytes : bytes ≡ all is_bytes list
  pub front : bytes ≡ true → lines ≤ length program / 4 → take (4 * lines) program ≡ program_bytes list

-- a text that was read to its end, or to where no line stands
abbrev pub IsRead : List ℕ → List ℕ → Result ReadText Refusal → Type 0
IsRead text program (Ok read) = Kept text program read.lines read.bytes
IsRead text program (Err r) = (r ≡ Text) × ((ls : List Line) → Spells ls text → ⊥)

-- what is refused of lines that are kept so: 5, then 6
abbrev pub kept_number : List ℕ → ℕ → Bool → ℕ
kept_number program lines bytes =
    unless (leb 1 lines && leb lines 256) 5
    then unless bytes 6
    then instructions_number (count (take (4 * lines) program)) (take (4 * lines) program)
