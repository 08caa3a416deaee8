-- The claims of specs/Claims.antt hold.
use Prim.Native.Nat.{ℕ, ◌*◌, ◌≤◌}
use mathlib.Core.Path.{◌≡◌, refl, sym, ap, ◌∙◌}
use mathlib.Core.Bool.{Bool, true, false, ◌&&◌, true≢false}
use mathlib.Core.List.{List}
use native.Mathlib.Omega.{arith}
use borrow.Author.Tests.{leb-true, le-leb}
use lib.Dec.{leb}
use lib.ListN.{length, take}
use Rattle.wire.specs.Lists.{all}
use Rattle.wire.proofs.Lists.{and_both, and_intro}
use Rattle.instruction.specs.Program.{all_legal}
use Rattle.machine.specs.Valid.{is_program_length}
use Rattle.image.specs.Refusal.{◌then◌, unless}
use Rattle.image.proofs.Refusal.{then_left, instructions_number_lem}
use Rattle.monitor.specs.declared.Answer.{Answer}
use Rattle.monitor.specs.Calls.{Call, call_number, CallPromise}
use Rattle.monitor.specs.Claims.{Exactly}
use Rattle.monitor.proofs.Calls.{answer_number, writes_its_answer}
use Rattle.listing.specs.Listing.{Line, listing_text, is_admitted, lines_number, program_bytes, assemble_call, no_list_call, part_number, lines_of, disassemble_call}
use Rattle.listing.specs.Claims.{TextsAreRead, InOrder, WriterNumbers, ListerNumbers, LengthsAreEnough, ListThenType, TypeThenList}
use Rattle.listing.proofs.Texts.{read, read_finds, lines_unique, reading, spelled, other}
use Rattle.listing.proofs.Lengths.{listing_most}
use Rattle.listing.proofs.Assembled.{program_length_lem, program_lines}
use Rattle.listing.proofs.There.{lines_back, program_spelled, lines_accepted, line_count, lines_admitted, program_accepted}

pub texts_are_read : TextsAreRead
texts_are_read = record { read = read; finds = read_finds; unique = λ text ls ls' p q. lines_unique ls ls' text p q }

-- ---- the numbers of a call that tests t, then u, then the output's room f, each of which decides a fact

clash : {A : Type 0} → false ≡ true → A
clash e = absurd (true≢false (sym e))

in_order : (t u f : Bool) {lines operands room : Type 0} → Exactly (t ≡ true) lines → Exactly (u ≡ true) operands → Exactly (f ≡ true) room
    → {number : ℕ} → number ≡ ((unless t 5 then unless u 6) then unless f 13) → InOrder lines operands room number
in_order false u f l o r e = record {
  five = (λ _ p. clash (l.1 p), λ _. e);
  six = (λ q. absurd (omega arith), λ h. clash (l.1 h.0));
  thirteen = (λ q. absurd (omega arith), λ h. clash (l.1 h.0));
  accepted = (λ q. absurd (omega arith), λ h. clash (l.1 h.0));
  other = λ k n0 n5 n6 n13 q. n5 (sym q ∙ e);
}
in_order true false f l o r e = record {
  five = (λ q. absurd (omega arith), λ h. absurd (h (l.0 refl)));
  six = (λ _. (l.0 refl, λ p. clash (o.1 p)), λ _. e);
  thirteen = (λ q. absurd (omega arith), λ h. clash (o.1 h.1));
  accepted = (λ q. absurd (omega arith), λ h. clash (o.1 h.1));
  other = λ k n0 n5 n6 n13 q. n6 (sym q ∙ e);
}
in_order true true false l o r e = record {
  five = (λ q. absurd (omega arith), λ h. absurd (h (l.0 refl)));
  six = (λ q. absurd (omega arith), λ h. absurd (h.1 (o.0 refl)));
  thirteen = (λ _. (l.0 refl, o.0 refl, λ p. clash (r.1 p)), λ _. e);
  accepted = (λ q. absurd (omega arith), λ h. clash (r.1 h.2));
  other = λ k n0 n5 n6 n13 q. n13 (sym q ∙ e);
}
in_order true true true l o r e = record {
  five = (λ q. absurd (omega arith), λ h. absurd (h (l.0 refl)));
  six = (λ q. absurd (omega arith), λ h. absurd (h.1 (o.0 refl)));
  thirteen = (λ q. absurd (omega arith), λ h. absurd (h.2 (r.0 refl)));
  accepted = (λ _. (l.0 refl, o.0 refl, r.0 refl), λ _. e);
  other = λ k n0 n5 n6 n13 q. n0 (sym q ∙ e);
}

room_exactly : (a b : ℕ) → Exactly (leb a b ≡ true) (a ≤ b)
room_exactly a b = (leb-true a b, le-leb a b)

-- what a call told as its number, where its arguments have none
told_number : (c : Call) (out : List ℕ) (told : Answer) (after : List ℕ) → CallPromise c out told after → c.argument_number ≡ 0
    → told.number ≡ (c.input_number then unless (leb (length c.bytes) (length out)) 13)
unfolding call_number
told_number c out told after p free = ap (λ (a : Answer). a.number) p.0 ∙ answer_number c out ∙ rw free

-- the writer's, of the lines that spell the text
lines_in_order : (ls : List Line) (out : List ℕ) (told : Answer) (after : List ℕ) → CallPromise (assemble_call ls) out told after
    → InOrder ((1 ≤ length ls) × (length ls ≤ 256)) (all (is_admitted (length ls)) ls ≡ true) (4 * length ls ≤ length out) told.number
unfolding lines_number
lines_in_order ls out told after p =
    let n = length ls in
    let lines : Exactly ((leb 1 n && leb n 256) ≡ true) ((1 ≤ n) × (n ≤ 256)) = (
      λ e. let b = and_both (leb 1 n) (leb n 256) e in (leb-true 1 n b.0, leb-true n 256 b.1),
      λ h. and_intro (leb 1 n) (leb n 256) (le-leb 1 n h.0) (le-leb n 256 h.1),
    ) in
    in_order (leb 1 n && leb n 256) (all (is_admitted n) ls) (leb (4 * n) (length out)) lines (λ e. e, λ e. e) (room_exactly (4 * n) (length out))
    (told_number (assemble_call ls) out told after p refl ∙ rw (program_length_lem ls) refl)

no_list_told : (out : List ℕ) (told : Answer) (after : List ℕ) → CallPromise no_list_call out told after → told.number ≡ 16
unfolding call_number
no_list_told out told after p = ap (λ (a : Answer). a.number) p.0 ∙ answer_number no_list_call out

pub writer_numbers : WriterNumbers
writer_numbers text out told after p = (
  (
    λ e ls s. (lines_in_order ls out told after (p.list ls s)).other 16 (λ z. omega arith) (λ z. omega arith) (λ z. omega arith) (λ z. omega arith) e,
    λ f. no_list_told out told after (p.other f),
  ),
  λ ls s. lines_in_order ls out told after (p.list ls s),
)

pub lister_numbers : ListerNumbers
unfolding part_number
lister_numbers program out told after p =
    let text = listing_text (lines_of program) in
    in_order (is_program_length (length program)) (all_legal program) (leb (length text) (length out)) (λ e. e, λ e. e) (λ e. e, λ e. e)
    (room_exactly (length text) (length out))
    (told_number (disassemble_call program) out told after p refl ∙ rw (instructions_number_lem program) refl)

-- of a program whose length and instructions are right
part_0 : (program : List ℕ) → is_program_length (length program) ≡ true → all_legal program ≡ true → part_number program ≡ 0
unfolding part_number
part_0 program size legal = rw (size, instructions_number_lem program, legal) refl

-- ---- outputs that are long enough

pub lengths_are_enough : LengthsAreEnough
lengths_are_enough = (
  λ text out told after p room e. elim (reading text) [
    | spelled ls s ↦ let q = (lines_in_order ls out told after (p.list ls s)).thirteen.0 e in q.2 (omega (arith, q.0))
    | other f ↦ omega (arith, no_list_told out told after (p.other f))
  ],
  λ program out told after bytes p room e.
      let q = (lister_numbers program out told after p).thirteen.0 e in
      q.2 (omega (arith, listing_most program bytes (part_0 program q.0 q.1))),
)

-- ---- there and back

-- what an accepted call wrote
accepted_bytes : (c : Call) (out : List ℕ) (told : Answer) (after : List ℕ) → CallPromise c out told after → told.number ≡ 0 → take told.length after ≡ c.bytes
accepted_bytes c out told after p e =
    let number = sym (ap (λ (a : Answer). a.number) p.0) ∙ e in
    rw (p.0, p.1) ((writes_its_answer c out).accepted number).2

pub list_then_type : ListThenType
list_then_type program out told after bytes p e out' told' after' q room =
    let fits = (lister_numbers program out told after p).accepted.0 e in
    let part = part_0 program fits.0 fits.1 in
    let ls = lines_of program in
    let text = accepted_bytes (disassemble_call program) out told after p e in
    let call = q.list ls (rw text (program_spelled program bytes part)) in
    let back = lines_back program bytes part in
    let many : 4 * length ls ≡ length program = sym (program_length_lem ls) ∙ ap length back in
    let count = line_count ls (lines_accepted program bytes part) in
    let number = (lines_in_order ls out' told' after' call).accepted.1 (count, lines_admitted ls (lines_accepted program bytes part), omega (arith, many)) in
    (number, accepted_bytes (assemble_call ls) out' told' after' call number ∙ back)

-- of the lines that spell the text
listed_back : (ls : List Line) (out : List ℕ) (told : Answer) (after : List ℕ) → CallPromise (assemble_call ls) out told after → told.number ≡ 0
    → (out' : List ℕ) (told' : Answer) (after' : List ℕ) → CallPromise (disassemble_call (take told.length after)) out' told' after'
    → length (listing_text ls) ≤ length out'
    → (told'.number ≡ 0) × (take told'.length after' ≡ listing_text ls)
listed_back ls out told after p e out' told' after' q room =
    let accepted = then_left (lines_number ls) _ (sym (told_number (assemble_call ls) out told after p refl) ∙ e) in
    let c = disassemble_call (program_bytes ls) in
    let call : CallPromise c out' told' after' = rw (accepted_bytes (assemble_call ls) out told after p e) at q in
    let text : c.bytes ≡ listing_text ls = ap listing_text (program_lines ls) in
    let fits : length c.bytes ≤ length out' = rw text room in
    let number : told'.number ≡ 0
    = told_number c out' told' after' call refl ∙ rw (program_accepted ls accepted, le-leb (length c.bytes) (length out') fits) refl in
    (number, accepted_bytes c out' told' after' call number ∙ text)

pub type_then_list : TypeThenList
type_then_list text out told after p e out' told' after' q room =
    elim (reading text) [
      | spelled ls s ↦ rw (← s.spelled) (listed_back ls out told after (p.list ls s) e out' told' after' q (rw s.spelled room))
      | other f ↦ absurd (omega (arith, no_list_told out told after (p.other f)))
    ]
