-- An instruction to its four bytes and back, and what the table says of its operands.
use Prim.Native.Nat.{ℕ, ◌≤◌, ◌<◌}
use mathlib.Core.Path.{◌≡◌, refl, sym, ap, ◌∙◌}
use mathlib.Core.Bool.{Bool, true, false, ◌&&◌}
use mathlib.Core.List.{List, [], ◌∷◌}
use native.Mathlib.Omega.{arith}
use borrow.Author.Tests.{eqb-true, ltb-true, leb-true}
use lib.Dec.{eqb, leb}
use lib.ListN.{get_or}
use Rattle.std.specs.Prelude.{Option, Some, None}
use Rattle.std.specs.Bool.{then_some}
use Rattle.wire.specs.Lists.{Every}
use Rattle.wire.proofs.Lists.{split, and_both}
use Rattle.instruction.specs.declared.Instruction.{Instruction}
use Rattle.instruction.specs.declared.Instruction.TheVariants.{End, Set, Copy, Add, Subtract, Go, Zero, Raise, Send, Take, Poll, Sandbox, Identity, Count}
use Rattle.instruction.specs.Table.{Operand, R, T, L, S, any, blank, admits, Row, table, by_code, decode_by, decode}
use Rattle.instruction.specs.Program.{is_legal}
use Rattle.instruction.specs.Inner.{form_in, form_of}
use Rattle.instruction.proofs.Encode.{encode}

-- ---- bytes to an instruction and back

-- the byte that an operand is written as
abbrev shown : Operand → ℕ → ℕ
shown R x = x
shown T x = x
shown L x = x
shown S x = x
shown any x = x
shown blank x = 0

shown_is : (o : Operand) (n x : ℕ) → admits o n x ≡ true → shown o x ≡ x
shown_is R n x t = refl
shown_is T n x t = refl
shown_is L n x t = refl
shown_is S n x t = refl
shown_is any n x t = refl
shown_is blank n x t = sym (eqb-true x 0 t)

-- the row's form is written with the row's code and operands
abbrev Written : Row → Type 0
Written r = (a b c : ℕ) → encode (r.form a b c) ≡ r.code ∷ shown r.a a ∷ shown r.b b ∷ shown r.c c ∷ []

-- each by computation; there are at most 256 rows
written : Every Written table
written = search depth 256

row_back : (r : Row) → Written r → (n a b c : ℕ) (t : Bool) → (admits r.a n a && admits r.b n b && admits r.c n c) ≡ t
    → (i : Instruction) → then_some t (r.form a b c) ≡ Some i → encode i ≡ r.code ∷ a ∷ b ∷ c ∷ []
row_back r w n a b c true t i e =
    let abc = and_both (admits r.a n a && admits r.b n b) (admits r.c n c) t in
    let ab = and_both (admits r.a n a) (admits r.b n b) abc.0 in
    cc (w a b c, shown_is r.a n a ab.0, shown_is r.b n b ab.1, shown_is r.c n c abc.1)
row_back r w n a b c false t i e = cc

rows_back : (rs : List Row) → Every Written rs → (n code a b c : ℕ) (i : Instruction) → by_code (decode_by n a b c) None rs code ≡ Some i → encode i ≡ code ∷ a ∷ b ∷ c ∷ []
rows_back [] w n code a b c i e = cc
rows_back (r ∷ rs) w n code a b c i e =
    let ih = rows_back rs w.1 n code a b c i in
    split (eqb code r.code)
    (λ t. row_back r w.0 n a b c _ refl i (rw t at e) ∙ ap (λ (x : ℕ). x ∷ a ∷ b ∷ c ∷ []) (sym (eqb-true code r.code t)))
    (λ t. ih (rw t at e))

-- bytes that decode are written again as they were read
pub encode_decode : (n code a b c : ℕ) (i : Instruction) → decode n code a b c ≡ Some i → encode i ≡ code ∷ a ∷ b ∷ c ∷ []
unfolding decode
encode_decode = rows_back table written

-- ---- bytes that decode, to the form of their code

row_form : (t : Bool) (i : Instruction) → is_legal (then_some t i) ≡ true → then_some t i ≡ Some i
row_form true i e = refl
row_form false i e = cc

rows_form : (rs : List Row) (n code a b c : ℕ) → is_legal (by_code (decode_by n a b c) None rs code) ≡ true
    → by_code (decode_by n a b c) None rs code ≡ Some (form_in rs code a b c)
rows_form [] n code a b c e = cc
rows_form (r ∷ []) n code a b c e =
    split (eqb code r.code)
    (λ t. rw t (row_form (admits r.a n a && admits r.b n b && admits r.c n c) (r.form a b c) (rw t at e)))
    (λ t. cc (rw t at e))
rows_form (r ∷ q ∷ rs) n code a b c e =
    let ih = rows_form (q ∷ rs) n code a b c in
    split (eqb code r.code)
    (λ t. rw t (row_form (admits r.a n a && admits r.b n b && admits r.c n c) (r.form a b c) (rw t at e)))
    (λ t. rw t (ih (rw t at e)))

pub decode_form : (n code a b c : ℕ) → is_legal (decode n code a b c) ≡ true → decode n code a b c ≡ Some (form_of code a b c)
unfolding decode form_of
decode_form = rows_form table

-- ---- an instruction to bytes and back

-- the operands of an instruction: what the table asks of each byte, and the bytes
pub record Operands : Type 0 where
  pub x : Operand
  pub y : Operand
  pub z : Operand
  pub a : ℕ
  pub b : ℕ
  pub c : ℕ

abbrev pub operands : Operand → Operand → Operand → ℕ → ℕ → ℕ → Operands
operands x y z a b c = record { x = x; y = y; z = z; a = a; b = b; c = c }

abbrev pub operands_of : Instruction → Operands
operands_of End = operands blank blank blank 0 0 0
operands_of (Set a b c) = operands R any any a b c
operands_of (Copy a b) = operands R R blank a b 0
operands_of (Add a b c) = operands R R R a b c
operands_of (Subtract a b c) = operands R R R a b c
operands_of (Go a) = operands T blank blank a 0 0
operands_of (Zero a b) = operands R T blank a b 0
operands_of (Raise a) = operands L blank blank a 0 0
operands_of (Send a b c) = operands R L R a b c
operands_of (Take a b) = operands R R blank a b 0
operands_of (Poll a b c) = operands R R T a b c
operands_of (Sandbox a b c) = operands R T S a b c
operands_of (Identity a b) = operands R R blank a b 0
operands_of (Count a) = operands R blank blank a 0 0

-- the table admits them
abbrev pub all_admitted : ℕ → Operands → Bool
all_admitted n o = admits o.x n o.a && admits o.y n o.b && admits o.z n o.c

-- what an instruction's four bytes decode to
abbrev pub decoded : ℕ → Instruction → Option Instruction
decoded n i = decode n (get_or (encode i) 0 0) (get_or (encode i) 1 0) (get_or (encode i) 2 0) (get_or (encode i) 3 0)

-- an instruction's bytes decode to it, or to none where an operand is outside the table
pub decode_encode : (n : ℕ) (i : Instruction) → decoded n i ≡ then_some (all_admitted n (operands_of i)) i
unfolding decode
decode_encode n End = refl
decode_encode n (Set a b c) = refl
decode_encode n (Copy a b) = refl
decode_encode n (Add a b c) = refl
decode_encode n (Subtract a b c) = refl
decode_encode n (Go a) = refl
decode_encode n (Zero a b) = refl
decode_encode n (Raise a) = refl
decode_encode n (Send a b c) = refl
decode_encode n (Take a b) = refl
decode_encode n (Poll a b c) = refl
decode_encode n (Sandbox a b c) = refl
decode_encode n (Identity a b) = refl
decode_encode n (Count a) = refl

-- ---- what the table says of the operands

-- of the operand x, in a program of n instructions
abbrev pub Within : Operand → ℕ → ℕ → Type 0
Within R n x = x < 8
Within T n x = x < n
Within L n x = x ≤ 15
Within S n x = (1 ≤ x) × (x ≤ 15)
Within any n x = Unit {0}
Within blank n x = x ≡ 0

pub within : (o : Operand) (n x : ℕ) → admits o n x ≡ true → Within o n x
within R n x t = ltb-true x 8 t
within T n x t = ltb-true x n t
within L n x t = omega (arith, ltb-true x 16 t)
within S n x t = let b = and_both (leb 1 x) (leb x 15) t in (leb-true 1 x b.0, leb-true x 15 b.1)
within any n x t = tt
within blank n x t = eqb-true x 0 t

-- of an instruction's operands
abbrev pub Sound : ℕ → Instruction → Type 0
Sound n i =
    Within (operands_of i).x n (operands_of i).a × Within (operands_of i).y n (operands_of i).b × Within (operands_of i).z n (operands_of i).c

legal_test : (t : Bool) (i j : Instruction) → then_some t i ≡ Some j → t ≡ true
legal_test true i j e = refl
legal_test false i j e = cc

admitted_within : (n : ℕ) (o : Operands) → all_admitted n o ≡ true → Within o.x n o.a × Within o.y n o.b × Within o.z n o.c
admitted_within n o e =
    let xyz = and_both (admits o.x n o.a && admits o.y n o.b) (admits o.z n o.c) e in
    let xy = and_both (admits o.x n o.a) (admits o.y n o.b) xyz.0 in
    (within o.x n o.a xy.0, within o.y n o.b xy.1, within o.z n o.c xyz.1)

pub decode_sound : (n code a b c : ℕ) (i : Instruction) → decode n code a b c ≡ Some i → Sound n i
decode_sound n code a b c i e =
    let d : decoded n i ≡ Some i = rw (encode_decode n code a b c i e) e in
    admitted_within n (operands_of i) (legal_test (all_admitted n (operands_of i)) i i (sym (decode_encode n i) ∙ d))
