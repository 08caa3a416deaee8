-- Definitions for contracts of functions that are no calls, which no claim and no call's promise reaches.
use Rattle.std.specs.Prelude.{ℕ, cond, List, Option, Some, None, ltb, length}
use Rattle.wire.specs.Lists.{tabulate, first_index}
use Rattle.wire.specs.Inner.{same}
use Rattle.instruction.specs.Table.{table}
use Rattle.word.specs.Word.{word_of}

-- the code of a word, the number of rows where it is not in the table
unfoldable pub code_of : List ℕ → ℕ
code_of w = first_index (λ k. same w (word_of k)) (tabulate (length table) (λ k. k))

-- and as it is found: none where the word is not in the table
unfoldable pub code_found : List ℕ → Option ℕ
code_found w = cond (ltb (code_of w) (length table)) (Some (code_of w)) None
