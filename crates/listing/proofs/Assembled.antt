-- Laws of the writer: the number and the bytes of lines by what is kept of them, and what that makes of the text.
use Prim.Native.Nat.{ℕ, ◌+◌, ◌*◌, ◌<◌, ◌≤◌}
use mathlib.Core.Path.{◌≡◌, refl, sym, ap, ◌∙◌}
use mathlib.Core.Bool.{Bool, true, ◌&&◌}
use mathlib.Core.List.{List, [], append-nil}
use native.Mathlib.Omega.{arith}
use borrow.Author.Tests.{leb-true}
use lib.Dec.{leb}
use lib.ListN.{length, get_or, take}
use Rattle.wire.specs.Lists.{all}
use Rattle.wire.specs.Items.{encode_items}
use Rattle.wire.proofs.Lists.{split, same_tests, and_both, each_intro, every_of, all_at, all_intro, all_and}
use Rattle.wire.proofs.Items.{length_items, items_forth}
use Rattle.instruction.specs.Table.{decode}
use Rattle.instruction.specs.Program.{count, instruction_at, is_legal, all_legal}
use Rattle.instruction.proofs.Program.{at_within, legal_at}
use Rattle.image.specs.Refusal.{◌then◌, unless, instructions_number}
use Rattle.image.proofs.Refusal.{then_left, then_right, unless_none, instructions_number_lem}
use Rattle.monitor.specs.declared.Answer.{Answer}
use Rattle.monitor.specs.Calls.{CallPromise}
use Rattle.monitor.proofs.Calls.{busy_0}
use Rattle.listing.specs.Listing.{Line, line, Spells, is_bytes, is_admitted, lines_number, line_bytes, program_bytes, assemble_call, no_list_call, AssemblePromise, line_of, lines_of}
use Rattle.listing.specs.Inner.{Kept, kept_number}
use Rattle.listing.proofs.Texts.{lines_unique, reading, spelled, other}
use Rattle.listing.proofs.Program.{no_line, line_item}

-- ---- the lines of a program's bytes are those that it was made of

-- the operands of a line are within the table, as bytes
abbrev pub legal_in : ℕ → Line → Bool
legal_in n l = is_legal (decode n l.code l.a l.b l.c)

module _ (ls : List Line) where
  pub program_length_lem : length (program_bytes ls) ≡ 4 * length ls
  unfolding program_bytes
  program_length_lem = length_items line_bytes 4 (λ l. refl) ls

  program_count : count (program_bytes ls) ≡ length ls
  program_count = omega (arith, program_length_lem)

  pub program_lines : lines_of (program_bytes ls) ≡ ls
  unfolding lines_of program_bytes
  program_lines =
      rw (program_count, ← append-nil (encode_items line_bytes ls))
      (items_forth 4 line_of line_bytes (λ l. Unit {0}) (λ l. refl) (λ l q u. refl) ls [] (every_of (λ l. Unit {0}) no_line ls (λ i. tt)))

  legal_item : (i : ℕ) → i < length ls → is_legal (instruction_at (program_bytes ls) i) ≡ legal_in (length ls) (get_or ls i no_line)
  legal_item i h =
      let q = program_bytes ls in
      let within : i < count q = omega (arith, program_count) in
      let item : get_or ls i no_line ≡ line (get_or q (4 * i) 0) (get_or q (4 * i + 1) 0) (get_or q (4 * i + 2) 0) (get_or q (4 * i + 3) 0)
      = ap (λ (xs : List Line). get_or xs i no_line) (sym program_lines) ∙ line_item q i no_line within in
      rw (at_within q i within, program_count, item) refl

  pub legal_lines : all_legal (program_bytes ls) ≡ all (legal_in (length ls)) ls
  unfolding all_legal
  legal_lines =
      let q = program_bytes ls in
      same_tests (all_legal q) (all (legal_in (length ls)) ls)
      (λ e. all_intro (legal_in (length ls)) no_line ls (λ i h. sym (legal_item i h) ∙ legal_at q e i (omega (arith, program_count))))
      (λ e. each_intro (count q) (λ i. is_legal (instruction_at q i)) (λ i h. let l : i < length ls = omega (arith, program_count) in
      legal_item i l ∙ all_at (legal_in (length ls)) no_line ls e i l))

-- ---- the number of lines, by what is kept of them

module _ {text program : List ℕ} {lines : ℕ} {bytes : Bool} (k : Kept text program lines bytes) (room : length program ≡ 1024) where
  abbrev n : ℕ
  n = length k.list

  -- 5 is not met
  few : (leb 1 n && leb n 256) ≡ true → lines ≤ 256
  few e = omega (arith, k.counted, leb-true n 256 (and_both (leb 1 n) (leb n 256) e).1)

  front : lines ≤ 256 → all is_bytes k.list ≡ true → take (4 * lines) program ≡ program_bytes k.list
  front h e = k.front (k.all_bytes ∙ e) (omega arith)

  operands : lines ≤ 256
      → (unless (all is_bytes k.list) 6 then instructions_number (count (take (4 * lines) program)) (take (4 * lines) program))
      ≡ unless (all (is_admitted n) k.list) 6
  operands h =
      split (all is_bytes k.list)
      (λ e. rw (all_and is_bytes (legal_in n) k.list, e, front h e, instructions_number_lem (program_bytes k.list), legal_lines k.list) refl)
      (λ e. rw (all_and is_bytes (legal_in n) k.list, e) refl)

  pub kept_number_lem : kept_number program lines bytes ≡ lines_number k.list
  unfolding lines_number
  kept_number_lem =
      split (leb 1 n && leb n 256)
      (λ e. rw (k.all_bytes, ← operands (few e), k.counted) refl)
      (λ e. rw (k.counted, e) refl)

  -- an accepted one
  pub kept_few : kept_number program lines bytes ≡ 0 → lines ≤ 256
  kept_few e =
      let first = unless_none (leb 1 lines && leb lines 256) 4 (then_left (unless (leb 1 lines && leb lines 256) 5) _ e) in
      leb-true lines 256 (and_both (leb 1 lines) (leb lines 256) first).1

  pub kept_bytes_lem : kept_number program lines bytes ≡ 0 → take (4 * lines) program ≡ program_bytes k.list
  kept_bytes_lem e =
      let later = then_right (unless (leb 1 lines && leb lines 256) 5) _ e in
      front (kept_few e) (sym k.all_bytes ∙ unless_none bytes 5 (then_left (unless bytes 6) _ later))

  -- ---- what the call of the lines keeps, the writer keeps of the text
  pub list_promise : {out : List ℕ} {told : Answer} {after : List ℕ} → CallPromise (assemble_call k.list) out told after → AssemblePromise text out told after
  list_promise {out} {told} {after} kept = record {
    list = λ ls s. let same : k.list ≡ ls = lines_unique k.list ls text k.spells s in rw (← same) kept;
    other = λ f. absurd (f k.list k.spells);
  }

pub other_promise : {text out : List ℕ} {told : Answer} {after : List ℕ} → ((ls : List Line) → Spells ls text → ⊥) → CallPromise no_list_call out told after
    → AssemblePromise text out told after
other_promise f kept = record { list = λ ls s. absurd (f ls s); other = λ _. kept }

-- whatever the text is, no turn was run
pub assembled_busy : (text out : List ℕ) (told : Answer) (after : List ℕ) → AssemblePromise text out told after → told.busy ≡ 0
assembled_busy text out told after p =
    elim (reading text) [
      | spelled ls s ↦ ap (λ (a : Answer). a.busy) (p.list ls s).0 ∙ busy_0 (assemble_call ls) out refl
      | other f ↦ ap (λ (a : Answer). a.busy) (p.other f).0 ∙ busy_0 no_list_call out refl
    ]
