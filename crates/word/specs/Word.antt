-- The words of the instruction table, as bytes.
use Rattle.std.specs.Prelude.{ℕ, List, []}
use Rattle.text.specs.Text.{ascii}
use Rattle.instruction.specs.Table.{table, by_code}

-- the word of the table's row with this code
unfoldable pub word_of : ℕ → List ℕ
word_of code = by_code (λ r. ascii r.word) [] table code
