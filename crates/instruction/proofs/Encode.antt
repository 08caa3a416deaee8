-- The four bytes of an instruction, which the laws of the table go through.
use Prim.Native.Nat.{ℕ}
use mathlib.Core.List.{List, [], ◌∷◌}
use Rattle.instruction.specs.declared.Instruction.{Instruction}
use Rattle.instruction.specs.declared.Instruction.TheVariants.{End, Set, Copy, Add, Subtract, Go, Zero, Raise, Send, Take, Poll, Sandbox, Identity, Count}

abbrev pub encode : Instruction → List ℕ
encode End = 0x00 ∷ 0 ∷ 0 ∷ 0 ∷ []
encode (Set a b c) = 0x01 ∷ a ∷ b ∷ c ∷ []
encode (Copy a b) = 0x02 ∷ a ∷ b ∷ 0 ∷ []
encode (Add a b c) = 0x03 ∷ a ∷ b ∷ c ∷ []
encode (Subtract a b c) = 0x04 ∷ a ∷ b ∷ c ∷ []
encode (Go a) = 0x05 ∷ a ∷ 0 ∷ 0 ∷ []
encode (Zero a b) = 0x06 ∷ a ∷ b ∷ 0 ∷ []
encode (Raise a) = 0x07 ∷ a ∷ 0 ∷ 0 ∷ []
encode (Send a b c) = 0x08 ∷ a ∷ b ∷ c ∷ []
encode (Take a b) = 0x09 ∷ a ∷ b ∷ 0 ∷ []
encode (Poll a b c) = 0x0A ∷ a ∷ b ∷ c ∷ []
encode (Sandbox a b c) = 0x0B ∷ a ∷ b ∷ c ∷ []
encode (Identity a b) = 0x0C ∷ a ∷ b ∷ 0 ∷ []
encode (Count a) = 0x0D ∷ a ∷ 0 ∷ 0 ∷ []
