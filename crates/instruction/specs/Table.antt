-- The table of instructions as data, and what four bytes decode to.
use Rattle.std.specs.Prelude.{ℕ, Bool, true, cond, ◌&&◌, List, [], ◌∷◌, leb, ltb, eqb, Option, None}
use Rattle.std.specs.Bool.{then_some}
use Prim.Native.String.{String}
use Rattle.instruction.specs.declared.Instruction.{Instruction}
use Rattle.instruction.specs.declared.Instruction.TheVariants.{End, Set, Copy, Add, Subtract, Go, Zero, Raise, Send, Take, Poll, Sandbox, Identity, Count}

-- what a byte of an instruction may be: R a register number 0 to 7, T a target below N, L a label 0 to 15,
-- S a size 1 to 15, any byte, or blank: a byte shown as 0, which must be 0
pub data Operand : Type 0 where
  R T L S any blank : Operand

-- the byte x is such an operand, in a program of n instructions
abbrev pub admits : Operand → ℕ → ℕ → Bool
admits R n x = ltb x 8
admits T n x = ltb x n
admits L n x = ltb x 16
admits S n x = leb 1 x && leb x 15
admits any n x = true
admits blank n x = eqb x 0

-- a row of the table: the code, the word, the operands a b c, and the form that carries them
pub record Row : Type 0 where
  pub code : ℕ
  pub word : String
  pub a : Operand
  pub b : Operand
  pub c : Operand
  pub form : ℕ → ℕ → ℕ → Instruction

abbrev pub row : ℕ → String → Operand → Operand → Operand → (ℕ → ℕ → ℕ → Instruction) → Row
row k w x y z f = record { code = k; word = w; a = x; b = y; c = z; form = f }

abbrev pub table : List Row
table =
    row 0x00 "end" blank blank blank (λ a b c. End)
    ∷ row 0x01 "set" R any any (λ a b c. Set a b c)
    ∷ row 0x02 "copy" R R blank (λ a b c. Copy a b)
    ∷ row 0x03 "add" R R R (λ a b c. Add a b c)
    ∷ row 0x04 "subtract" R R R (λ a b c. Subtract a b c)
    ∷ row 0x05 "go" T blank blank (λ a b c. Go a)
    ∷ row 0x06 "zero" R T blank (λ a b c. Zero a b)
    ∷ row 0x07 "raise" L blank blank (λ a b c. Raise a)
    ∷ row 0x08 "send" R L R (λ a b c. Send a b c)
    ∷ row 0x09 "take" R R blank (λ a b c. Take a b)
    ∷ row 0x0A "poll" R R T (λ a b c. Poll a b c)
    ∷ row 0x0B "sandbox" R T S (λ a b c. Sandbox a b c)
    ∷ row 0x0C "self" R R blank (λ a b c. Identity a b)
    ∷ row 0x0D "count" R blank blank (λ a b c. Count a)
    ∷ []

-- what f makes of the row with the code, and d where there is none
module _ {A : Type 0} where
  abbrev pub by_code : (Row → A) → A → List Row → ℕ → A
  by_code f d [] code = d
  by_code f d (r ∷ rs) code = cond (eqb code r.code) (f r) (by_code f d rs code)

-- a row with operands, in a program of n instructions
abbrev pub decode_by : ℕ → ℕ → ℕ → ℕ → Row → Option Instruction
decode_by n a b c r = then_some (admits r.a n a && admits r.b n b && admits r.c n c) (r.form a b c)

-- the instruction in the four bytes code a b c, in a program of n instructions
unfoldable pub decode : ℕ → ℕ → ℕ → ℕ → ℕ → Option Instruction
decode n code a b c = by_code (decode_by n a b c) None table code
