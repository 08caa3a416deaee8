-- Programs typed by people (02, U2): the text of a program, the writer's call, which turns text into the program part, and the lister's,
-- which turns it back.
use Rattle.std.specs.Prelude.{ℕ, ◌<◌, ◌≡◌, Bool, ◌&&◌, List, [], ◌∷◌, ◌++◌, leb, length, get_or}
use Rattle.wire.specs.Lists.{Every, all}
use Rattle.wire.specs.Items.{decode_items, encode_items}
use Rattle.text.specs.Text.{line_rest}
use Rattle.instruction.specs.Table.{table, decode}
use Rattle.instruction.specs.Program.{count, is_legal}
use Rattle.word.specs.Word.{word_of}
use Rattle.machine.specs.Limits.{most_lines}
use Rattle.machine.specs.Valid.{is_program_length}
use Rattle.image.specs.Refusal.{◌then◌, unless, instructions_number}
use Rattle.monitor.specs.declared.Answer.{Answer}
use Rattle.monitor.specs.Calls.{Call, CallPromise}

-- ---- text

-- a line: the code of its word, and three numbers of any size
pub record Line : Type 0 where
  pub code : ℕ
  pub a : ℕ
  pub b : ℕ
  pub c : ℕ

abbrev pub line : ℕ → ℕ → ℕ → ℕ → Line
line code a b c = record { code = code; a = a; b = b; c = c }

-- "A line is the word from 01's table, then a, b and c in decimal, single spaces between, no leading zeros, and a line feed, on the
-- last line too."
unfoldable pub line_text : Line → List ℕ
line_text l = word_of l.code ++ line_rest (l.a ∷ l.b ∷ l.c ∷ [])

unfoldable pub listing_text : List Line → List ℕ
listing_text ls = encode_items line_text ls

-- Text is such a list where some lines spell it, each with a word of the table, whose codes are 0 and those behind it, one for a row.
-- "A word that isn't in the table makes the text no such list."
pub record Spells (ls : List Line) (text : List ℕ) : Type 0 where
  pub words : Every (λ l. l.code < length table) ls
  pub spelled : listing_text ls ≡ text

-- ---- the writer

-- "A number above 255, however long, is an operand outside the table."
abbrev pub is_bytes : Line → Bool
is_bytes l = leb l.a 255 && leb l.b 255 && leb l.c 255

-- 6 instruction: an operand is outside the table, in a program of n instructions
abbrev pub is_admitted : ℕ → Line → Bool
is_admitted n l = is_bytes l && is_legal (decode n l.code l.a l.b l.c)

-- "Zero lines, or more than 256, is number 5; an operand outside the table is 6." Targets are below the number of lines.
unfoldable pub lines_number : List Line → ℕ
lines_number ls = unless (leb 1 (length ls) && leb (length ls) most_lines) 5 then unless (all (is_admitted (length ls)) ls) 6

-- code a b c
abbrev pub line_bytes : Line → List ℕ
line_bytes l = l.code ∷ l.a ∷ l.b ∷ l.c ∷ []

unfoldable pub program_bytes : List Line → List ℕ
program_bytes ls = encode_items line_bytes ls

-- the call for the text that these lines spell
abbrev pub assemble_call : List Line → Call
assemble_call ls = record { argument_number = 0; input_number = lines_number ls; bytes = program_bytes ls; busy = 0 }

-- 16 text: it isn't such a list. "tested before 5, 6 and 13"
abbrev pub no_list_call : Call
no_list_call = record { argument_number = 0; input_number = 16; bytes = []; busy = 0 }

-- what the code promises of the writer, whatever the text is: the call of the lines that spell it, and 16 where none do
pub record AssemblePromise (text out : List ℕ) (told : Answer) (after : List ℕ) : Type 0 where
  pub list : (ls : List Line) → Spells ls text → CallPromise (assemble_call ls) out told after
  pub other : ((ls : List Line) → Spells ls text → ⊥) → CallPromise no_list_call out told after

-- ---- the lister

-- "The lister gives 5, 6 and 13 in that order."
unfoldable pub part_number : List ℕ → ℕ
part_number program = unless (is_program_length (length program)) 5 then instructions_number (count program) program

abbrev pub line_of : List ℕ → Line
line_of b = line (get_or b 0 0) (get_or b 1 0) (get_or b 2 0) (get_or b 3 0)

-- the lines of a program's bytes, four each
unfoldable pub lines_of : List ℕ → List Line
lines_of program = decode_items 4 line_of (count program) program

abbrev pub disassemble_call : List ℕ → Call
disassemble_call program = record { argument_number = 0; input_number = part_number program; bytes = listing_text (lines_of program); busy = 0 }
