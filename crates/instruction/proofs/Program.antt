-- Laws of a program's bytes: an instruction within it, past its end, and what a legal program says of each.
use Prim.Native.Nat.{ℕ, ◌+◌, ◌*◌, ◌≤◌, ◌<◌}
use mathlib.Core.Path.{◌≡◌, ◌∙◌}
use mathlib.Core.Bool.{true}
use mathlib.Core.List.{List}
use native.Mathlib.Omega.{arith}
use borrow.Author.Tests.{lt-ltb, le-ltb, ltb-true, ltb-false}
use lib.Dec.{ltb}
use lib.ListN.{get_or}
use Rattle.std.specs.Prelude.{Some, None}
use Rattle.wire.specs.Lists.{Bytes}
use Rattle.wire.proofs.Lists.{split, each_at, byte_at}
use Rattle.instruction.specs.declared.Instruction.{Instruction}
use Rattle.instruction.specs.Table.{decode}
use Rattle.instruction.specs.Program.{count, instruction_at, is_legal, all_legal}
use Rattle.instruction.specs.Inner.{form_of}
use Rattle.instruction.proofs.Encode.{encode}
use Rattle.instruction.proofs.Table.{Sound, encode_decode, decode_form, decode_sound}

module _ (program : List ℕ) (pc : ℕ) where
  pub at_within : pc < count program
      → instruction_at program pc
      ≡ decode (count program) (get_or program (4 * pc) 0) (get_or program (4 * pc + 1) 0) (get_or program (4 * pc + 2) 0) (get_or program (4 * pc + 3) 0)
  unfolding instruction_at
  at_within h = rw (lt-ltb pc (count program) h)

  pub at_past : count program ≤ pc → instruction_at program pc ≡ None
  unfolding instruction_at
  at_past h = rw (le-ltb pc (count program) h)

  -- an instruction that is legal stands below the program's end
  pub at_below : (i : Instruction) → instruction_at program pc ≡ Some i → pc < count program
  at_below i e =
      split (ltb pc (count program)) (λ t. ltb-true pc (count program) t)
      (λ t. let z : ◌≡◌ {A = ℕ} 0 1 = cc (at_past (ltb-false pc (count program) t)) in absurd (omega arith))

  -- and its operands are within the table
  pub at_sound : (i : Instruction) → instruction_at program pc ≡ Some i → Sound (count program) i
  at_sound i e = decode_sound (count program) _ _ _ _ i (rw (at_within (at_below i e)) at e)

  -- and it is written in bytes
  pub at_bytes : (i : Instruction) → Bytes program → instruction_at program pc ≡ Some i → Bytes (encode i)
  at_bytes i h e =
      rw (encode_decode (count program) _ _ _ _ i (rw (at_within (at_below i e)) at e))
      (byte_at program h (4 * pc), (byte_at program h (4 * pc + 1), (byte_at program h (4 * pc + 2), (byte_at program h (4 * pc + 3), tt))))

-- within it and past its end
pub ruleset by_place = (at_within, at_past)

-- a legal program has an instruction at each index below its end
pub legal_at : (program : List ℕ) → all_legal program ≡ true → (pc : ℕ) → pc < count program → is_legal (instruction_at program pc) ≡ true
unfolding all_legal
legal_at program e = each_at (count program) (λ pc. is_legal (instruction_at program pc)) e

-- which is the form of its code
pub form_legal : (program : List ℕ) (pc : ℕ) → all_legal program ≡ true → pc < count program
    → instruction_at program pc
    ≡ Some (form_of (get_or program (4 * pc) 0) (get_or program (4 * pc + 1) 0) (get_or program (4 * pc + 2) 0) (get_or program (4 * pc + 3) 0))
form_legal program pc legal h =
    at_within program pc h ∙ decode_form (count program) _ _ _ _ (rw (at_within program pc h) at (legal_at program legal pc h))
