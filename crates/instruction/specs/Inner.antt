-- Definitions for contracts of functions that are no calls, which no claim and no call's promise reaches.
use Rattle.std.specs.Prelude.{ℕ, cond, List, [], ◌∷◌, eqb}
use Rattle.instruction.specs.declared.Instruction.{Instruction}
use Rattle.instruction.specs.declared.Instruction.TheVariants.{End}
use Rattle.instruction.specs.Table.{Row, table}

-- the form of the row with the code, with operands that are not looked at; the last row takes what is left, and of no rows any form
-- would do
abbrev pub form_in : List Row → ℕ → ℕ → ℕ → ℕ → Instruction
form_in [] code a b c = End
form_in (r ∷ []) code a b c = r.form a b c
form_in (r ∷ q ∷ rs) code a b c = cond (eqb code r.code) (r.form a b c) (form_in (q ∷ rs) code a b c)

-- by the instruction table
unfoldable pub form_of : ℕ → ℕ → ℕ → ℕ → Instruction
form_of = form_in table
