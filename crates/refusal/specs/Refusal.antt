-- The numbers of the refusals.
use Rattle.std.specs.Prelude.{ℕ, Result, Ok, Err}
use Rattle.refusal.specs.declared.Refusal.{Refusal}
use Rattle.refusal.specs.declared.Refusal.TheVariants.{Observer, TurnLimit, Short, Version, ProgramLength, Instruction, TurnSlot, RecordLength, TaskField, Mail, Tail, Estate, Output, PostSlot, PostLabel, Text}

abbrev pub number_of : Refusal → ℕ
number_of Observer = 1
number_of TurnLimit = 2
number_of Short = 3
number_of Version = 4
number_of ProgramLength = 5
number_of Instruction = 6
number_of TurnSlot = 7
number_of RecordLength = 8
number_of TaskField = 9
number_of Mail = 10
number_of Tail = 11
number_of Estate = 12
number_of Output = 13
number_of PostSlot = 14
number_of PostLabel = 15
number_of Text = 16

-- the number that a call tells of what it found: 0 where it found nothing to refuse
module _ {A : Type 0} where
  abbrev pub number : Result A Refusal → ℕ
  number (Ok x) = 0
  number (Err r) = number_of r
