-- Laws of the lines that are kept: one more behind the others, and the number and the bytes of them all.
use Prim.Native.Nat.{ℕ, ◌+◌, ◌*◌, ◌/◌, ◌<◌, ◌≤◌}
use mathlib.Core.Logic.{dite}
use mathlib.Core.Path.{◌≡◌, refl, sym, ap, ◌∙◌}
use mathlib.Core.Bool.{Bool, true, false, ◌&&◌, and-true, and-false}
use mathlib.Core.List.{List, [], ◌∷◌, ◌++◌, append-nil, append_assoc}
use Rattle.std.specs.Prelude.{Some, None}
use Rattle.std.specs.Bool.{then_some}
use native.Mathlib.Decide.{dec_lt}
use native.Mathlib.Omega.{arith}
use borrow.Author.Tests.{lt-ltb, le-ltb}
use lib.Dec.{leb}
use lib.ListN.{length, take, drop, length-append, length-drop}
use lib.Seq.{length-take-le, take_at}
use Rattle.wire.specs.Lists.{Every, all}
use Rattle.wire.specs.Items.{encode_items}
use Rattle.wire.proofs.Lists.{split, every_append, all_append, length_nil}
use Rattle.wire.proofs.Items.{items_append}
use Rattle.listing.specs.declared.ReadLine.{ReadLine}
use Rattle.listing.specs.Listing.{Line, line_text, listing_text, Spells, is_bytes, line_bytes, program_bytes}
use Rattle.listing.specs.Inner.{line_at, line_length, told_line, read_line, told_bytes, kept, Kept}
use Rattle.listing.proofs.Lines.{Found, line_stands, has_some, line_told, none_told}
use Rattle.listing.proofs.Texts.{Known, no_list}

-- ---- what is kept of the lines that were read so far, ahead of the rest of the text

pub record SoFar (text program₀ program rest : List ℕ) (lines : ℕ) (bytes : Bool) : Type 0 where
  pub list : List Line
  pub known : Every Known list
  pub spelled : text ≡ listing_text list ++ rest
  pub counted : lines ≡ length list
  pub few : lines + length rest ≤ length text
  pub all_bytes : bytes ≡ all is_bytes list
  pub front : bytes ≡ true → lines ≤ length program / 4 → take (4 * lines) program ≡ program_bytes list
  pub same : length program ≡ length program₀

pub so_far_none : (text program : List ℕ) → SoFar text program program text 0 true
unfolding listing_text program_bytes encode_items all
so_far_none text program = record {
  list = [];
  known = tt;
  spelled = refl;
  counted = refl;
  few = omega arith;
  all_bytes = refl;
  front = λ e h. refl;
  same = refl;
}

length_kept : (program line : List ℕ) (lines : ℕ) → length line ≡ 4 → length (kept lines line program) ≡ length program
length_kept program line lines four =
    dite (dec_lt lines (length program / 4))
    (λ h.
    let long : length (take (4 * lines) program) ≡ 4 * lines = length-take-le (4 * lines) program (omega arith) in
    rw (lt-ltb lines (length program / 4) h)
    (omega (
      arith,
      four,
      length-append (take (4 * lines) program) (line ++ drop (4 * lines + 4) program),
      length-append line (drop (4 * lines + 4) program),
      long,
      length-drop (4 * lines + 4) program,
    )))
    (λ h. rw (le-ltb lines (length program / 4) (omega arith)))

-- one line more
module _ {text program₀ program rest : List ℕ} {lines : ℕ} {bytes : Bool} (h : SoFar text program₀ program rest lines bytes)
    {r : ReadLine} (found : read_line rest ≡ Some r) where
  abbrev l : Line
  l = line_at rest

  told : r ≡ told_line rest
  told = (line_told rest found).1

  size : r.length ≡ line_length rest
  size = ap (λ (x : ReadLine). x.length) told

  stands : Found rest
  stands = line_stands rest (has_some rest (line_told rest found).0)

  more_text : listing_text (h.list ++ (l ∷ [])) ≡ listing_text h.list ++ line_text l
  unfolding listing_text encode_items
  more_text = items_append line_text h.list (l ∷ []) ∙ ap (λ (t : List ℕ). listing_text h.list ++ t) (append-nil (line_text l))

  more_spelled : text ≡ listing_text (h.list ++ (l ∷ [])) ++ drop r.length rest
  more_spelled =
      rw size
      (h.spelled
      ∙ ap (λ (t : List ℕ). listing_text h.list ++ t) stands.stands
      ∙ sym (append_assoc (listing_text h.list) (line_text l) (drop (line_length rest) rest))
      ∙ ap (λ (t : List ℕ). t ++ drop (line_length rest) rest) (sym more_text))

  -- the line is not empty, and within the rest
  pub line_within : (0 < r.length) × (r.length ≤ length rest)
  line_within = (
    rw size (has_some rest (line_told rest found).0),
    omega (arith, size, stands.size, ap length stands.stands, length-append (line_text l) (drop (line_length rest) rest)),
  )

  all_more : all is_bytes (h.list ++ (l ∷ [])) ≡ (bytes && is_bytes l)
  unfolding all
  all_more = rw (all_append is_bytes h.list (l ∷ []), ← h.all_bytes, and-true) refl

  -- what is read on, with what is kept of the line and whether all are bytes with it
  more : (program' : List ℕ) (bytes' : Bool) → length program' ≡ length program → bytes' ≡ (bytes && is_bytes l)
      → (bytes' ≡ true → lines + 1 ≤ length program' / 4 → take (4 * (lines + 1)) program' ≡ program_bytes (h.list ++ (l ∷ [])))
      → SoFar text program₀ program' (drop r.length rest) (lines + 1) bytes'
  more program' bytes' same told front = record {
    list = h.list ++ (l ∷ []);
    known = every_append Known h.list (l ∷ []) h.known (stands.known, tt);
    spelled = more_spelled;
    counted = omega (arith, h.counted, length-append h.list (l ∷ []));
    few = omega (arith, h.few, length-drop r.length rest, line_within);
    all_bytes = rw all_more told;
    front = front;
    same = same ∙ h.same;
  }

  -- the bytes that are told are the line's
  bytes_told : told_bytes r ≡ then_some (is_bytes l) (line_bytes l)
  bytes_told =
      rw told
      (split (leb l.a 255)
      (λ a. split (leb l.b 255)
      (λ b. split (leb l.c 255) (λ c. rw (a, b, c) refl) (λ c. rw (a, b, c) refl))
      (λ b. rw (a, b) refl))
      (λ a. rw a refl))

  -- a number of the line is above 255
  pub so_far_above : told_bytes r ≡ None → SoFar text program₀ program (drop r.length rest) (lines + 1) false
  so_far_above none =
      let above : is_bytes l ≡ false = split (is_bytes l) (λ t. let some = rw (bytes_told, t) at none in cc) (λ t. t) in
      more program false refl (rw (above, and-false) refl) (λ z. cc)

  -- its four bytes are kept
  module _ {line : List ℕ} (some : told_bytes r ≡ Some line) where
    passed : (is_bytes l ≡ true) × (line ≡ line_bytes l)
    passed =
        split (is_bytes l)
        (λ t.
        let first : Some (line_bytes l) ≡ Some line = rw (bytes_told, t) at some in
        (t, cc))
        (λ t. let none : None ≡ Some line = rw (bytes_told, t) at some in cc)

    more_front : bytes ≡ true → lines + 1 ≤ length (kept lines line program) / 4 → take (4 * (lines + 1)) (kept lines line program) ≡ program_bytes (h.list ++ (l ∷ []))
    unfolding program_bytes encode_items
    more_front e room =
        let four : length line ≡ 4 = ap length passed.1 in
        let fits : lines < length program / 4 = omega (arith, length_kept program line lines four) in
        let long : length (take (4 * lines) program) ≡ 4 * lines = length-take-le (4 * lines) program (omega arith) in
        let both : length (take (4 * lines) program ++ line) ≡ 4 * (lines + 1) = omega (arith, length-append (take (4 * lines) program) line, long, four) in
        let front : take (4 * (lines + 1)) (kept lines line program) ≡ take (4 * lines) program ++ line
        = rw (lt-ltb lines (length program / 4) fits, ← append_assoc (take (4 * lines) program) line (drop (4 * lines + 4) program))
        (take_at (take (4 * lines) program ++ line) (drop (4 * lines + 4) program) (4 * (lines + 1)) both) in
        front ∙ rw (h.front e (omega arith), passed.1) (sym (items_append line_bytes h.list (l ∷ [])))

    pub so_far_more : SoFar text program₀ (kept lines line program) (drop r.length rest) (lines + 1) bytes
    so_far_more = more _ bytes (length_kept program line lines (ap length passed.1)) (rw (passed.0, and-true) refl) more_front

-- ---- the end of the text, or what is no line

module _ {text program₀ program rest : List ℕ} {lines : ℕ} {bytes : Bool} (h : SoFar text program₀ program rest lines bytes) where
  pub so_far_all : length rest ≡ 0 → Kept text program lines bytes
  so_far_all end =
      let whole : text ≡ listing_text h.list = h.spelled ∙ rw (length_nil rest end) (append-nil (listing_text h.list)) in
      record {
        list = h.list;
        spells = record { words = h.known; spelled = sym whole };
        counted = h.counted;
        all_bytes = h.all_bytes;
        front = h.front;
      }

  pub so_far_stops : 0 < length rest → read_line rest ≡ None → (ls : List Line) → Spells ls text → ⊥
  so_far_stops more stop = no_list h.list rest text h.known h.spelled more (none_told rest stop)
