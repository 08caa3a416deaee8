-- How long a listing is: no line of a legal program has more than seventeen bytes.
use Prim.Native.Nat.{ℕ, ◌+◌, ◌*◌, ◌<◌, ◌≤◌}
use mathlib.Core.Logic.{dite}
use mathlib.Core.Path.{◌≡◌, refl, sym, ◌∙◌}
use mathlib.Core.Bool.{Bool, true, false, ◌&&◌}
use mathlib.Core.List.{List, [], ◌∷◌}
use native.Mathlib.Decide.{dec_lt}
use native.Mathlib.Omega.{arith}
use borrow.Author.Tests.{leb-true}
use lib.Dec.{leb, eqb}
use lib.ListN.{length, get_or, get_or-eq_default}
use Rattle.std.specs.Prelude.{None}
use Rattle.std.specs.Bool.{then_some}
use Rattle.wire.specs.Lists.{tabulate, all, Bytes}
use Rattle.wire.proofs.Lists.{split, and_both, byte_at, every_of}
use Rattle.wire.proofs.Items.{items_most}
use Rattle.text.specs.Text.{ascii, decimal}
use Rattle.text.proofs.Text.{decimal_width}
use Rattle.instruction.specs.Table.{Operand, R, T, L, S, any, blank, admits, Row, table, by_code, decode_by, decode}
use Rattle.instruction.specs.Program.{count, is_legal, all_legal}
use Rattle.instruction.proofs.Table.{within}
use Rattle.instruction.proofs.Program.{at_within, legal_at}
use Rattle.word.specs.Word.{word_of}
use Rattle.machine.specs.Limits.{longest_listing}
use Rattle.machine.specs.Valid.{is_program_length}
use Rattle.machine.proofs.Rules.{size_facts}
use Rattle.image.specs.Refusal.{unless}
use Rattle.image.proofs.Refusal.{then_left, then_right, unless_none, instructions_number_lem}
use Rattle.listing.specs.Listing.{line, line_text, listing_text, part_number, lines_of}
use Rattle.listing.proofs.Lines.{text_length}
use Rattle.listing.proofs.Program.{no_line, lines_many, line_item}

-- ---- a line

-- the digits that an operand has at most
abbrev width : Operand → ℕ
width R = 1
width T = 3
width L = 2
width S = 2
width any = 3
width blank = 1

digits_most : (o : Operand) (n x : ℕ) → x < 256 → admits o n x ≡ true → length (decimal x) ≤ width o
digits_most R n x h e = decimal_width 0 x (omega (arith, within R n x e))
digits_most T n x h e = decimal_width 2 x (omega arith)
digits_most L n x h e = decimal_width 1 x (omega (arith, within L n x e))
digits_most S n x h e = decimal_width 1 x (omega (arith, within S n x e))
digits_most any n x h e = decimal_width 2 x (omega arith)
digits_most blank n x h e = decimal_width 0 x (omega (arith, within blank n x e))

-- the letters and digits of a row's line at most
abbrev row_width : Row → ℕ
row_width r = length (ascii r.word) + width r.a + width r.b + width r.c

legal_then_some : (t : Bool) (r : Row) (a b c : ℕ) → is_legal (then_some t (r.form a b c)) ≡ true → t ≡ true
legal_then_some true r a b c e = refl
legal_then_some false r a b c e = cc

module _ (n code a b c : ℕ) (ha : a < 256) (hb : b < 256) (hc : c < 256) where
  row_most : (r : Row) → leb (row_width r) 13 ≡ true → is_legal (decode_by n a b c r) ≡ true
      → length (ascii r.word) + length (decimal a) + length (decimal b) + length (decimal c) ≤ 13
  row_most r w e =
      let t = legal_then_some (admits r.a n a && admits r.b n b && admits r.c n c) r a b c e in
      let abc = and_both (admits r.a n a && admits r.b n b) (admits r.c n c) t in
      let ab = and_both (admits r.a n a) (admits r.b n b) abc.0 in
      omega (
        arith,
        leb-true (row_width r) 13 w,
        digits_most r.a n a ha ab.0,
        digits_most r.b n b hb ab.1,
        digits_most r.c n c hc abc.1,
      )

  rows_most : (rs : List Row) → all (λ r. leb (row_width r) 13) rs ≡ true → is_legal (by_code (decode_by n a b c) None rs code) ≡ true
      → length (by_code (λ r. ascii r.word) [] rs code) + length (decimal a) + length (decimal b) + length (decimal c) ≤ 13
  unfolding all
  rows_most [] w e = let z : ◌≡◌ {A = ℕ} 0 1 = cc in absurd (omega arith)
  rows_most (r ∷ rs) w e =
      let both = and_both (leb (row_width r) 13) (all (λ r. leb (row_width r) 13) rs) w in
      let ih = rows_most rs both.1 in
      split (eqb code r.code) (λ t. rw t (row_most r both.0 (rw t at e))) (λ t. rw t (ih (rw t at e)))

  line_most : is_legal (decode n code a b c) ≡ true → length (line_text (line code a b c)) ≤ 17
  unfolding decode word_of all ascii tabulate
  line_most e = omega (arith, text_length (line code a b c), rows_most table refl e)

-- ---- a listing

pub record PartFacts (program : List ℕ) : Type 0 where
  pub size : (4 ≤ length program) × (length program ≤ 1024)
  pub whole : 4 * count program ≡ length program
  pub legal : all_legal program ≡ true

pub part_facts : (program : List ℕ) → part_number program ≡ 0 → PartFacts program
unfolding part_number
part_facts program e =
    let first = unless (is_program_length (length program)) 5 in
    let size = size_facts (length program) (unless_none (is_program_length (length program)) 4 (then_left first _ e)) in
    let legal = unless_none (all_legal program) 5 (sym (instructions_number_lem program) ∙ then_right first _ e) in
    record { size = (size.1, size.2); whole = omega (arith, size.0); legal = legal }

module _ (program : List ℕ) (bytes : Bytes program) (accepted : part_number program ≡ 0) where
  each_most : (i : ℕ) → length (line_text (get_or (lines_of program) i no_line)) ≤ 17
  unfolding decode
  each_most i =
      dite (dec_lt i (count program))
      (λ h.
      let legal = legal_at program (part_facts program accepted).legal i h in
      rw (line_item program i no_line h)
      (line_most (count program) _ _ _ _ (byte_at program bytes _) (byte_at program bytes _) (byte_at program bytes _) (rw (at_within program i h) at legal)))
      (λ h. rw (get_or-eq_default (lines_of program) no_line {n = i} (rw lines_many (omega arith))) (line_most 1 0 0 0 0 (omega arith) (omega arith) (omega arith) refl))

  pub listing_most : length (listing_text (lines_of program)) ≤ longest_listing
  unfolding listing_text
  listing_most =
      let f = part_facts program accepted in
      let most = items_most line_text 17 (lines_of program) (every_of _ no_line (lines_of program) each_most) in
      omega (arith, most, lines_many program, f.whole, f.size.1)
