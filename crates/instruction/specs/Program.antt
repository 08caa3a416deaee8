-- A program: N instructions of four bytes.
use Rattle.std.specs.Prelude.{ℕ, ◌+◌, ◌*◌, ◌/◌, Bool, cond, List, ltb, length, get_or, Option, None, is_some}
use Rattle.wire.specs.Lists.{each}
use Rattle.instruction.specs.declared.Instruction.{Instruction}
use Rattle.instruction.specs.Table.{decode}

-- N, the number of instructions in a program's bytes
abbrev pub count : List ℕ → ℕ
count program = length program / 4

-- the instruction at index pc; none is legal past the last
unfoldable pub instruction_at : List ℕ → ℕ → Option Instruction
instruction_at program pc =
    cond (ltb pc (count program))
    (decode (count program) (get_or program (4 * pc) 0) (get_or program (4 * pc + 1) 0) (get_or program (4 * pc + 2) 0) (get_or program (4 * pc + 3) 0))
    None

abbrev pub is_legal : Option Instruction → Bool
is_legal = is_some

-- every instruction is in the table, with operands within it
unfoldable pub all_legal : List ℕ → Bool
all_legal program = each (count program) (λ pc. is_legal (instruction_at program pc))
