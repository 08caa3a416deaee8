-- Text and program, there and back: an accepted program is that of its lines, and accepted lines are those of their program.
use Prim.Native.Nat.{ℕ, ◌*◌, ◌%◌, ◌<◌, ◌≤◌}
use mathlib.Core.Logic.{dite}
use mathlib.Core.Path.{◌≡◌, refl, sym, ap, ◌∙◌}
use mathlib.Core.Bool.{true, ◌&&◌}
use mathlib.Core.List.{List, [], ◌∷◌}
use native.Mathlib.Decide.{dec_lt}
use native.Mathlib.Omega.{arith}
use borrow.Author.Tests.{leb-true, le-leb, ltb-true, eqb-true, eq-eqb}
use lib.Dec.{leb, ltb, eqb}
use lib.ListN.{length, get_or, take, get_or-eq_default}
use lib.Seq.{take_all}
use Rattle.std.specs.Prelude.{None}
use Rattle.wire.specs.Lists.{all, Bytes}
use Rattle.wire.proofs.Lists.{split, and_both, byte_at, every_of, all_intro, all_and}
use Rattle.wire.proofs.Items.{items_back}
use Rattle.instruction.specs.Table.{Row, table, by_code, decode_by, decode}
use Rattle.instruction.specs.Program.{count, is_legal, all_legal}
use Rattle.instruction.proofs.Program.{at_within, legal_at}
use Rattle.machine.specs.Valid.{is_program_length}
use Rattle.image.specs.Refusal.{unless}
use Rattle.image.proofs.Refusal.{then_left, then_right, unless_none, instructions_number_lem}
use Rattle.listing.specs.Listing.{Line, listing_text, Spells, is_bytes, is_admitted, lines_number, line_bytes, program_bytes, part_number, line_of, lines_of}
use Rattle.listing.proofs.Texts.{Known}
use Rattle.listing.proofs.Program.{no_line, lines_many, line_item}
use Rattle.listing.proofs.Lengths.{PartFacts, part_facts}
use Rattle.listing.proofs.Assembled.{legal_in, legal_lines, program_length_lem}

-- ---- a legal instruction's code is in the table

rows_known : (rs : List Row) (n code a b c : ℕ) → all (λ r. ltb r.code (length table)) rs ≡ true
    → is_legal (by_code (decode_by n a b c) None rs code) ≡ true → code < length table
unfolding all
rows_known [] n code a b c w e = let z : ◌≡◌ {A = ℕ} 0 1 = cc in absurd (omega arith)
rows_known (r ∷ rs) n code a b c w e =
    let both = and_both (ltb r.code (length table)) (all (λ r. ltb r.code (length table)) rs) w in
    let ih = rows_known rs n code a b c both.1 in
    split (eqb code r.code) (λ t. omega (arith, eqb-true code r.code t, ltb-true r.code (length table) both.0)) (λ t. ih (rw t at e))

legal_known : (n code a b c : ℕ) → is_legal (decode n code a b c) ≡ true → code < length table
unfolding decode all
legal_known n code a b c e = rows_known table n code a b c refl e

-- ---- the lines of an accepted program

line_back : (b : List ℕ) → Bytes b → 4 ≤ length b → line_bytes (line_of b) ≡ take 4 b
line_back [] h l = absurd (omega arith)
line_back (x ∷ []) h l = absurd (omega arith)
line_back (x ∷ y ∷ []) h l = absurd (omega arith)
line_back (x ∷ y ∷ z ∷ []) h l = absurd (omega arith)
line_back (x ∷ y ∷ z ∷ w ∷ b) h l = refl

module _ (program : List ℕ) (bytes : Bytes program) (accepted : part_number program ≡ 0) where
  facts : PartFacts program
  facts = part_facts program accepted

  pub lines_back : program_bytes (lines_of program) ≡ program
  unfolding program_bytes lines_of
  lines_back =
      items_back 4 line_of line_bytes line_back (count program) program bytes (omega (arith, facts.whole))
      ∙ take_all (4 * count program) program (omega (arith, facts.whole))

  -- what is told of the line at index i
  item_known : (i : ℕ) → Known (get_or (lines_of program) i no_line)
  item_known i =
      dite (dec_lt i (count program))
      (λ h. rw (line_item program i no_line h)
      (legal_known (count program) _ _ _ _ (rw (at_within program i h) at (legal_at program facts.legal i h))))
      (λ h. rw (get_or-eq_default (lines_of program) no_line {n = i} (rw lines_many (omega arith))) (omega arith))

  item_bytes : (i : ℕ) → i < length (lines_of program) → is_bytes (get_or (lines_of program) i no_line) ≡ true
  item_bytes i h =
      let within : i < count program = omega (arith, lines_many program) in
      let byte : (j : ℕ) → leb (get_or program j 0) 255 ≡ true = λ j. le-leb (get_or program j 0) 255 (omega (arith, byte_at program bytes j)) in
      rw (line_item program i no_line within, byte, byte, byte) refl

  pub program_spelled : Spells (lines_of program) (listing_text (lines_of program))
  program_spelled = record { words = every_of Known no_line (lines_of program) item_known; spelled = refl }

  pub lines_accepted : lines_number (lines_of program) ≡ 0
  unfolding lines_number
  lines_accepted =
      let ls = lines_of program in
      let n = length ls in
      let many = lines_many program in
      let legal : all (legal_in n) ls ≡ true = sym (legal_lines ls) ∙ ap all_legal lines_back ∙ facts.legal in
      let bytes = all_intro is_bytes no_line ls item_bytes in
      let low : leb 1 n ≡ true = le-leb 1 n (omega (arith, many, facts.whole, facts.size)) in
      let high : leb n 256 ≡ true = le-leb n 256 (omega (arith, many, facts.whole, facts.size)) in
      rw (low, high, all_and is_bytes (legal_in n) ls, bytes, legal) refl

-- ---- the program of accepted lines

module _ (ls : List Line) (accepted : lines_number ls ≡ 0) where
  abbrev n : ℕ
  n = length ls

  pub line_count : (1 ≤ n) × (n ≤ 256)
  unfolding lines_number
  line_count =
      let t = and_both (leb 1 n) (leb n 256) (unless_none (leb 1 n && leb n 256) 4 (then_left (unless (leb 1 n && leb n 256) 5) _ accepted)) in
      (leb-true 1 n t.0, leb-true n 256 t.1)

  pub lines_admitted : all (is_admitted n) ls ≡ true
  unfolding lines_number
  lines_admitted = unless_none (all (is_admitted n) ls) 5 (then_right (unless (leb 1 n && leb n 256) 5) _ accepted)

  pub program_accepted : part_number (program_bytes ls) ≡ 0
  unfolding part_number is_program_length
  program_accepted =
      let q = program_bytes ls in
      let long = program_length_lem ls in
      let legal : all_legal q ≡ true = legal_lines ls ∙ (and_both (all is_bytes ls) (all (legal_in n) ls) (sym (all_and is_bytes (legal_in n) ls) ∙ lines_admitted)).1 in
      let whole : eqb (length q % 4) 0 ≡ true = eq-eqb (length q % 4) 0 (omega (arith, long)) in
      let low : leb 4 (length q) ≡ true = le-leb 4 (length q) (omega (arith, long, line_count)) in
      let high : leb (length q) 1024 ≡ true = le-leb (length q) 1024 (omega (arith, long, line_count)) in
      rw (instructions_number_lem q, legal, whole, low, high) refl
