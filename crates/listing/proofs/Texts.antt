-- Laws of whole texts: at most one list of lines spells a text, and the reader finds it.
use Prim.Native.Nat.{ℕ, zero, suc, ◌<◌, ◌≤◌}
use mathlib.Core.Logic.{◌≢◌}
use mathlib.Core.Path.{◌≡◌, refl, sym, ap, ap₂, ◌∙◌}
use mathlib.Core.Bool.{cond}
use mathlib.Core.List.{List, [], ◌∷◌, ◌++◌, append_assoc}
use mathlib.Core.Option.{Option, none, some}
use native.Mathlib.Omega.{arith}
use borrow.Author.Tests.{lt-ltb, ltb-true, eqb-true, eq-eqb, ne_eqb}
use lib.Dec.{ltb, eqb}
use lib.ListN.{length, drop, length-append}
use lib.Seq.{drop-append_seam}
use Rattle.wire.specs.Lists.{Every}
use Rattle.wire.specs.Items.{encode_items}
use Rattle.wire.proofs.Lists.{split, length_nil}
use Rattle.instruction.specs.Table.{table}
use Rattle.monitor.specs.Claims.{Exactly}
use Rattle.listing.specs.Listing.{Line, line_text, listing_text, Spells}
use Rattle.listing.specs.Inner.{line_at, line_length}
use Rattle.listing.proofs.Lines.{line_found, line_length_lem, line_some, line_stands}

-- a line's word is in the table
abbrev pub Known : Line → Type 0
Known l = l.code < length table

-- ---- a text begins with one line at most

module _ (l : Line) (rest : List ℕ) (known : Known l) {b : List ℕ} (e : b ≡ line_text l ++ rest) where
  first_line : line_at b ≡ l
  first_line = ap line_at e ∙ line_found l rest known

  first_length : line_length b ≡ length (line_text l)
  first_length = ap line_length e ∙ line_length_lem l rest known

  first_some : 0 < line_length b
  first_some = omega (arith, first_length, line_some l)

  first_rest : drop (line_length b) b ≡ rest
  first_rest = rw first_length (ap (drop (length (line_text l))) e ∙ drop-append_seam (line_text l) rest)

-- the text of a line and others
text_more : (l : Line) (ls : List Line) → listing_text (l ∷ ls) ≡ line_text l ++ listing_text ls
unfolding listing_text encode_items
text_more l ls = refl

text_none : listing_text [] ≡ []
unfolding listing_text encode_items
text_none = refl

-- no line spells nothing
text_some : (l : Line) (ls : List Line) → listing_text (l ∷ ls) ≡ [] → ⊥
text_some l ls e = omega (arith, ap length (sym (text_more l ls) ∙ e), length-append (line_text l) (listing_text ls), line_some l)

-- ---- the lines of a text are unique

same_lines : (ls ms : List Line) → Every Known ls → Every Known ms → listing_text ls ≡ listing_text ms → ls ≡ ms
same_lines [] [] p q e = refl
same_lines [] (m ∷ ms) p q e = absurd (text_some m ms (sym e ∙ text_none))
same_lines (l ∷ ls) [] p q e = absurd (text_some l ls (e ∙ text_none))
same_lines (l ∷ ls) (m ∷ ms) p q e =
    let b = listing_text (l ∷ ls) in
    let here : b ≡ line_text l ++ listing_text ls = text_more l ls in
    let there : b ≡ line_text m ++ listing_text ms = e ∙ text_more m ms in
    let first : l ≡ m = sym (first_line l (listing_text ls) p.0 here) ∙ first_line m (listing_text ms) q.0 there in
    let rest : listing_text ls ≡ listing_text ms
    = sym (first_rest l (listing_text ls) p.0 here) ∙ first_rest m (listing_text ms) q.0 there in
    ap₂ (λ (x : Line) (xs : List Line). x ∷ xs) first (same_lines ls ms p.1 q.1 rest)

pub lines_unique : (ls ms : List Line) (text : List ℕ) → Spells ls text → Spells ms text → ls ≡ ms
lines_unique ls ms text p q = same_lines ls ms p.words q.words (p.spelled ∙ sym q.spelled)

-- ---- the reader: lines from the front on, to the end of the text or to where none stands

abbrev before : Line → Option (List Line) → Option (List Line)
before l none = none
before l (some ls) = some (l ∷ ls)

-- of at most k lines
abbrev read_up_to : ℕ → List ℕ → Option (List Line)
read_up_to zero b = cond (eqb (length b) 0) (some []) none
read_up_to (suc k) b =
    cond (eqb (length b) 0) (some [])
    (cond (ltb 0 (line_length b)) (before (line_at b) (read_up_to k (drop (line_length b) b))) none)

-- a text has no more lines than bytes
abbrev pub read : List ℕ → Option (List Line)
read text = read_up_to (length text) text

-- no line is left
spells_none : (b : List ℕ) (ls : List Line) → length b ≡ 0 → some [] ≡ some ls → Spells ls b
spells_none b ls e q = let same : ◌≡◌ {A = List Line} [] ls = cc in rw (← same) (record { words = tt; spelled = text_none ∙ sym (length_nil b e) })

spells_more : (l : Line) (ls : List Line) (b rest : List ℕ) → Known l → b ≡ line_text l ++ rest → Spells ls rest → Spells (l ∷ ls) b
spells_more l ls b rest known e s = record { words = (known, s.words); spelled = text_more l ls ∙ ap (λ (r : List ℕ). line_text l ++ r) s.spelled ∙ sym e }

-- what it gives spells the text
sound_more : (l : Line) (b rest : List ℕ) (o : Option (List Line)) (ls : List Line) → Known l → b ≡ line_text l ++ rest
    → ((ms : List Line) → o ≡ some ms → Spells ms rest) → before l o ≡ some ls → Spells ls b
sound_more l b rest none ls known e inner q = let z : ◌≡◌ {A = ℕ} 0 1 = cc in absurd (omega arith)
sound_more l b rest (some ms) ls known e inner q =
    let same : l ∷ ms ≡ ls = cc in
    rw (← same) (spells_more l ms b rest known e (inner ms refl))

nothing : {A : Type 0} (ls : List Line) → none ≡ some ls → A
nothing ls e = let z : ◌≡◌ {A = ℕ} 0 1 = cc in absurd (omega arith)

read_sound : (k : ℕ) (b : List ℕ) (ls : List Line) → read_up_to k b ≡ some ls → Spells ls b
read_sound zero b ls e =
    split (eqb (length b) 0) (λ t. spells_none b ls (eqb-true (length b) 0 t) (rw t at e)) (λ t. nothing ls (rw t at e))
read_sound (suc k) b ls e =
    let rest = drop (line_length b) b in
    let inner = read_sound k rest in
    split (eqb (length b) 0) (λ t. spells_none b ls (eqb-true (length b) 0 t) (rw t at e))
    (λ u. split (ltb 0 (line_length b))
    (λ t. let f = line_stands b (ltb-true 0 (line_length b) t) in
    sound_more (line_at b) b rest (read_up_to k rest) ls f.known f.stands inner (rw (u, t) at e))
    (λ t. nothing ls (rw (u, t) at e)))

-- and what spells the text is given
read_step : (k : ℕ) (b : List ℕ) → length b ≢ 0 → 0 < line_length b → read_up_to (suc k) b ≡ before (line_at b) (read_up_to k (drop (line_length b) b))
read_step k b n h = rw (ne_eqb (length b) 0 n, lt-ltb 0 (line_length b) h)

read_none : (k : ℕ) (b : List ℕ) → length b ≡ 0 → read_up_to k b ≡ some []
read_none zero b e = rw (eq-eqb (length b) 0 e)
read_none (suc k) b e = rw (eq-eqb (length b) 0 e)

read_complete : (ls : List Line) (k : ℕ) (b : List ℕ) → length b ≤ k → Every Known ls → b ≡ listing_text ls → read_up_to k b ≡ some ls
read_complete [] k b h known e = read_none k b (ap length (e ∙ text_none))
read_complete (l ∷ ls) zero b h known e =
    absurd (omega (arith, ap length (e ∙ text_more l ls), length-append (line_text l) (listing_text ls), line_some l))
read_complete (l ∷ ls) (suc k) b h known e =
    let begins = e ∙ text_more l ls in
    let rest = listing_text ls in
    let long = length-append (line_text l) rest in
    let ih = read_complete ls k rest (omega (arith, ap length begins, long, line_some l)) known.1 refl in
    read_step k b (λ z. omega (arith, ap length begins, long, line_some l)) (first_some l rest known.0 begins)
    ∙ rw (first_line l rest known.0 begins, first_rest l rest known.0 begins, ih)

pub read_finds : (text : List ℕ) (ls : List Line) → Exactly (read text ≡ some ls) (Spells ls text)
read_finds text ls = (read_sound (length text) text ls, λ s. read_complete ls (length text) text (omega arith) s.words (sym s.spelled))

-- ---- a text that begins with lines and goes on with what is none: no list spells it

no_lines : (ls : List Line) (rest : List ℕ) → Every Known ls → 0 < length rest → line_length rest ≡ 0
    → (ms : List Line) → Every Known ms → listing_text ls ++ rest ≡ listing_text ms → ⊥
no_lines [] rest p more stop [] q e = omega (arith, ap length (rw text_none at e))
no_lines [] rest p more stop (m ∷ ms) q e =
    omega (arith, first_some m (listing_text ms) q.0 (rw text_none at e ∙ text_more m ms))
no_lines (l ∷ ls) rest p more stop [] q e =
    omega (arith, ap length (e ∙ text_none), length-append (listing_text (l ∷ ls)) rest)
no_lines (l ∷ ls) rest p more stop (m ∷ ms) q e =
    let b = listing_text (l ∷ ls) ++ rest in
    let here : b ≡ line_text l ++ (listing_text ls ++ rest)
    = ap (λ (t : List ℕ). t ++ rest) (text_more l ls) ∙ append_assoc (line_text l) (listing_text ls) rest in
    let there : b ≡ line_text m ++ listing_text ms = e ∙ text_more m ms in
    no_lines ls rest p.1 more stop ms q.1
    (sym (first_rest l (listing_text ls ++ rest) p.0 here) ∙ first_rest m (listing_text ms) q.0 there)

pub no_list : (ls : List Line) (rest text : List ℕ) → Every Known ls → text ≡ listing_text ls ++ rest → 0 < length rest → line_length rest ≡ 0
    → (ms : List Line) → Spells ms text → ⊥
no_list ls rest text p e more stop ms s = no_lines ls rest p more stop ms s.words (sym e ∙ sym s.spelled)

-- ---- lines spell a text, or none do

pub data Reading (text : List ℕ) : Type 0 where
  spelled : (ls : List Line) → Spells ls text → Reading text
  other : ((ls : List Line) → Spells ls text → ⊥) → Reading text

read_as : (text : List ℕ) (o : Option (List Line)) → read text ≡ o → Reading text
read_as text none e = other (λ ls s. nothing ls (sym e ∙ (read_finds text ls).1 s))
read_as text (some ls) e = spelled ls ((read_finds text ls).0 e)

pub reading : (text : List ℕ) → Reading text
reading text = read_as text (read text) refl
