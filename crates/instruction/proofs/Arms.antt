-- The arms of a match over the code: one law serves every arm, whatever their number.
use Prim.Native.Nat.{ℕ}
use mathlib.Core.Path.{◌≡◌, refl}
use mathlib.Core.Bool.{and-true}
use mathlib.Core.List.{List, [], ◌∷◌}
use borrow.Author.Tests.{ne_eqb}
use Rattle.std.specs.Prelude.{Option, None}
use Rattle.instruction.specs.declared.Instruction.{Instruction}
use Rattle.instruction.specs.declared.Instruction.TheVariants.{End}
use Rattle.instruction.specs.Table.{Row, table, by_code, decode_by, decode}
use Rattle.instruction.specs.Inner.{form_in, form_of}

-- where the code is the number k, the table computes to k's row
pub decode_at : (d : Option Instruction) (n code k a b c : ℕ) → code ≡ k → d ≡ by_code (decode_by n a b c) None table k → d ≡ decode n code a b c
unfolding decode
decode_at d n code k a b c e h = rw e h

pub form_at : (i : Instruction) (code k a b c : ℕ) → code ≡ k → i ≡ form_in table k a b c → i ≡ form_of code a b c
unfolding form_of
form_at i code k a b c e h = rw e h

-- what the last arm is given: arm after arm, that the code is not that row's; P is what the arms ahead of them gave
abbrev pub NoRow : Type 0 → ℕ → List Row → Type 0
NoRow P code [] = P
NoRow P code (r ∷ rs) = NoRow (P × (code ≡ r.code → ⊥)) code rs

given_ahead : (P : Type 0) (code : ℕ) (rs : List Row) → NoRow P code rs → P
given_ahead P code [] p = p
given_ahead P code (r ∷ rs) p = (given_ahead (P × (code ≡ r.code → ⊥)) code rs p).0

no_row : {A : Type 0} (f : Row → A) (d : A) (P : Type 0) (rs : List Row) (code : ℕ) → NoRow P code rs → d ≡ by_code f d rs code
no_row f d P [] code p = refl
no_row f d P (r ∷ rs) code p =
    let ih = no_row f d (P × (code ≡ r.code → ⊥)) rs code p in
    rw (ne_eqb code r.code (given_ahead (P × (code ≡ r.code → ⊥)) code rs p).1) ih

-- of a code that no row of the table has
pub none_by_code : {A : Type 0} (f : Row → A) (d : A) (code : ℕ) → NoRow (Unit {0}) code table → d ≡ by_code f d table code
none_by_code f d = no_row f d (Unit {0}) table

pub decode_none : (n code a b c : ℕ) → NoRow (Unit {0}) code table → None ≡ decode n code a b c
unfolding decode
decode_none n code a b c = none_by_code (decode_by n a b c) None code

-- an operand that may be any byte is not tested in the code
pub ruleset by_row = (decode_at, and-true, decode_none)

-- all rows but the last, and the form of the last
abbrev pub but_last : List Row → List Row
but_last [] = []
but_last (r ∷ []) = []
but_last (r ∷ q ∷ rs) = r ∷ but_last (q ∷ rs)

abbrev pub last_form : List Row → ℕ → ℕ → ℕ → Instruction
last_form [] a b c = End
last_form (r ∷ []) a b c = r.form a b c
last_form (r ∷ q ∷ rs) a b c = last_form (q ∷ rs) a b c

-- of a code that no row but the last has
rows_last : (P : Type 0) (rs : List Row) (code a b c : ℕ) → NoRow P code (but_last rs) → last_form rs a b c ≡ form_in rs code a b c
rows_last P [] code a b c p = refl
rows_last P (r ∷ []) code a b c p = refl
rows_last P (r ∷ q ∷ rs) code a b c p =
    let ih = rows_last (P × (code ≡ r.code → ⊥)) (q ∷ rs) code a b c p in
    rw (ne_eqb code r.code (given_ahead (P × (code ≡ r.code → ⊥)) code (but_last (q ∷ rs)) p).1) ih

pub form_last : (code a b c : ℕ) → NoRow (Unit {0}) code (but_last table) → last_form table a b c ≡ form_of code a b c
unfolding form_of
form_last = rows_last (Unit {0}) table

pub ruleset by_form = (form_at, form_last)
