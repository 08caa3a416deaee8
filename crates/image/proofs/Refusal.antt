-- Laws of the first number met.
use Prim.Native.Nat.{ℕ, zero, suc, ◌≤◌}
use mathlib.Core.Logic.{◌≢◌}
use mathlib.Core.Path.{◌≡◌, refl}
use mathlib.Core.Bool.{Bool, true, false, ◌&&◌}
use mathlib.Core.List.{List}
use native.Mathlib.Nat.{suc-ne-zero}
use native.Mathlib.Omega.{arith}
use borrow.Author.Tests.{le-leb, leb-true}
use lib.Dec.{leb}
use lib.ListN.{length}
use Rattle.std.specs.Prelude.{Option, Some, None}
use Rattle.wire.specs.Lists.{each}
use Rattle.instruction.specs.declared.Instruction.{Instruction}
use Rattle.instruction.specs.Program.{count, instruction_at, is_legal, all_legal}
use Rattle.image.specs.Refusal.{◌then◌, unless, short, decoded_number, instructions_number}

pub then_left : (x y : ℕ) → (x then y) ≡ 0 → x ≡ 0
then_left zero y e = refl
then_left (suc x) y e = e

pub then_right : (x y : ℕ) → (x then y) ≡ 0 → y ≡ 0
then_right zero y e = e
then_right (suc x) y e = absurd (suc-ne-zero x e)

pub then_none : (x y : ℕ) → x ≡ 0 → y ≡ 0 → (x then y) ≡ 0
then_none x y e f = rw (e, f)

-- a number that is met is the first
pub then_stop : (x : ℕ) → x ≢ 0 → (y : ℕ) → (x then y) ≡ x
then_stop zero h y = absurd (h refl)
then_stop (suc x) h y = refl

pub then_assoc : (x y z : ℕ) → ((x then y) then z) ≡ (x then y then z)
then_assoc zero y z = refl
then_assoc (suc x) y z = refl

-- what holds of each number holds of the first met
module _ (P : ℕ → Type 0) where
  pub then_holds : (x y : ℕ) → P x → P y → P (x then y)
  then_holds zero y h g = g
  then_holds (suc x) y h g = h

  pub unless_holds : (t : Bool) (x : ℕ) → P 0 → P x → P (unless t x)
  unless_holds true x z h = z
  unless_holds false x z h = h

-- a test that gives its number fails
pub unless_given : (t : Bool) (x : ℕ) → 1 ≤ x → unless t x ≡ x → t ≡ false
unless_given true x some e = absurd (omega arith)
unless_given false x some e = refl

-- ---- the numbers of an image

-- 0, or one of 3 to 12
pub record Listed (x : ℕ) : Type 0 where
  pub most : x ≤ 12
  pub least : 1 ≤ x → 3 ≤ x

pub listed_none : Listed 0
listed_none = record { most = omega arith; least = λ h. omega arith }

pub listed_unless : (t : Bool) (x : ℕ) → 3 ≤ x → x ≤ 12 → Listed (unless t x)
listed_unless t x l m = unless_holds Listed t x listed_none record { most = m; least = λ _. l }

-- neither 1 nor 2 is among them
pub listed_not : (x k : ℕ) → Listed x → 1 ≤ k → k ≤ 2 → x ≢ k
listed_not x k listed low high e = omega (arith, listed.least (omega arith))

pub listed_short : (n : ℕ) (b : List ℕ) → Listed (short n b)
listed_short n b = listed_unless (leb n (length b)) 3 (omega arith) (omega arith)

-- ---- what no number says

-- a test that gives no number passes
pub unless_none : (t : Bool) (k : ℕ) → unless t (suc k) ≡ 0 → t ≡ true
unless_none true k e = refl
unless_none false k e = absurd (suc-ne-zero k e)

pub short_none : (n : ℕ) (b : List ℕ) → short n b ≡ 0 → n ≤ length b
short_none n b e = leb-true n (length b) (unless_none (leb n (length b)) 2 e)

pub long_enough : (n : ℕ) (b : List ℕ) → n ≤ length b → short n b ≡ 0
long_enough n b h = rw (le-leb n (length b) h)

-- ---- the instructions: no number exactly where all are legal

legal_number : (t : Bool) (d : Option Instruction) → (unless t 6 then decoded_number d) ≡ unless (is_legal d && t) 6
legal_number true (Some i) = refl
legal_number true None = refl
legal_number false (Some i) = refl
legal_number false None = refl

first_number : (program : List ℕ) (k : ℕ) → instructions_number k program ≡ unless (each k (λ pc. is_legal (instruction_at program pc))) 6
unfolding instructions_number each
first_number program zero = refl
first_number program (suc k) = rw (first_number program k) (legal_number (each k (λ pc. is_legal (instruction_at program pc))) (instruction_at program k))

pub instructions_number_lem : (program : List ℕ) → instructions_number (count program) program ≡ unless (all_legal program) 6
unfolding all_legal
instructions_number_lem program = first_number program (count program)
