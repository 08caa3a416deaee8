-- `listing::read_line` meets its contract: each part is read behind the one before it.
use Prim.Native.Nat.{ℕ, ◌+◌, ◌<◌, ◌≤◌}
use mathlib.Core.Path.{◌≡◌, refl, sym, ap, ◌∙◌}
use mathlib.Core.Bool.{true}
use mathlib.Core.List.{List}
use native.Mathlib.Omega.{arith}
use borrow.Author.Tests.{lt-ltb}
use lib.Dec.{eqb}
use lib.ListN.{length, take, drop}
use Rattle.std.specs.Prelude.{Some, None}
use Rattle.wire.specs.Lists.{first_index}
use Rattle.wire.proofs.Lists.{split}
use Rattle.text.specs.Inner.{ahead, byte_value, number_length, number_value, number_read}
use Rattle.text.specs.declared.Number.{Number}
use Rattle.text.proofs.Reading.{number_told, number_some, number_none}
use Rattle.instruction.specs.Table.{table}
use Rattle.word.specs.Inner.{code_of, code_found}
use Rattle.word.proofs.Words.{code_some, code_none}
use Rattle.listing.specs.Inner.{behind_word, behind_number, line_at, has_line, line_length, read_line}
use Rattle.listing.proofs.Lines.{line_parts, has_length, has_inside}
use Rattle.listing.proofs.read_line.Goals as goal

-- where a part is missing, no line is there
missing : (s : List ℕ) → (has_line s ≡ true → ⊥) → None ≡ read_line s
unfolding read_line
missing s f = split (has_line s) (λ t. absurd (f t)) (λ t. rw t)

abbrev sum : List ℕ → ℕ → ℕ → ℕ → ℕ
sum word a b c = length word + 1 + a + b + c

-- the word of s, and what is behind it
module _ (s : List ℕ) {word : List ℕ} {index : ℕ} (found : index ≡ first_index (λ y. eqb y 32) s) (taken : word ≡ take index s) where
  word_is : ahead 32 s ≡ word
  word_is = sym (taken ∙ ap (λ (n : ℕ). take n s) found)

  no_code : None ≡ code_found word → None ≡ read_line s
  no_code e = missing s (λ t. omega (arith, (line_parts s t).0, code_none word (sym e), ap code_of word_is))

  module _ {on_a : List ℕ} (behind : on_a ≡ drop (length word + 1) s) {a : Number} (a_told : a ≡ number_read 32 on_a) where
    a_on : behind_word s ≡ on_a
    a_on = rw word_is (sym behind)

    a_value : a.value ≡ byte_value (number_value 32 on_a)
    a_value = rw a_told (number_told 32 on_a)

    no_a : a.length ≡ None → None ≡ read_line s
    no_a e = missing s (λ t. omega (arith, (line_parts s t).1, number_none 32 on_a (rw (← a_told) e), ap (number_length 32) a_on))

    module _ {end_a : ℕ} (a_ends : a.length ≡ Some end_a) {on_b : List ℕ} (behind_a : on_b ≡ drop end_a on_a) {b : Number} (b_told : b ≡ number_read 32 on_b) where
      abbrev a_some : (0 < number_length 32 on_a) × (end_a ≡ number_length 32 on_a)
      a_some = number_some 32 on_a end_a (rw (← a_told) a_ends)

      b_on : behind_number (behind_word s) ≡ on_b
      b_on = rw (a_on, ← a_some.1) (sym behind_a)

      b_value : b.value ≡ byte_value (number_value 32 on_b)
      b_value = rw b_told (number_told 32 on_b)

      no_b : b.length ≡ None → None ≡ read_line s
      no_b e = missing s (λ t. omega (arith, (line_parts s t).2, number_none 32 on_b (rw (← b_told) e), ap (number_length 32) b_on))

      module _ {end_b : ℕ} (b_ends : b.length ≡ Some end_b) {on_c : List ℕ} (behind_b : on_c ≡ drop end_b on_b) {c : Number} (c_told : c ≡ number_read 10 on_c) where
        abbrev b_some : (0 < number_length 32 on_b) × (end_b ≡ number_length 32 on_b)
        b_some = number_some 32 on_b end_b (rw (← b_told) b_ends)

        c_on : behind_number (behind_number (behind_word s)) ≡ on_c
        c_on = rw (b_on, ← b_some.1) (sym behind_b)

        c_value : c.value ≡ byte_value (number_value 10 on_c)
        c_value = rw c_told (number_told 10 on_c)

        no_c : c.length ≡ None → None ≡ read_line s
        no_c e = missing s (λ t. omega (arith, (line_parts s t).3, number_none 10 on_c (rw (← c_told) e), ap (number_length 10) c_on))

        module _ {code : ℕ} (code_told : Some code ≡ code_found word) {end_c : ℕ} (c_ends : c.length ≡ Some end_c) where
          abbrev c_some : (0 < number_length 10 on_c) × (end_c ≡ number_length 10 on_c)
          c_some = number_some 10 on_c end_c (rw (← c_told) c_ends)

          there : has_line s ≡ true
          unfolding has_line
          there =
              let known = code_some word code (sym code_told) in
              rw (c_on, b_on, a_on, word_is, ← known.0, lt-ltb code (length table) known.1, lt-ltb 0 _ a_some.0, lt-ltb 0 _ b_some.0, lt-ltb 0 _ c_some.0) refl

          size : sum word end_a end_b end_c ≡ line_length s
          size = rw (has_length s there, c_on, b_on, a_on, word_is, a_some.1, b_some.1, c_some.1) refl

          inside : sum word end_a end_b end_c ≤ length s
          inside = rw (a_some.1, b_some.1, c_some.1, ← c_on, ← b_on, ← a_on, ← word_is) (has_inside s there)

          line_found : Some (record { code = code; a = a.value; b = b.value; c = c.value; length = sum word end_a end_b end_c }) ≡ read_line s
          unfolding line_at read_line
          line_found = rw (there, size, a_value, b_value, c_value, c_on, b_on, a_on, word_is, (code_some word code (sym code_told)).0) refl

pub returns-in_err-code : goal.returns-in_err-code
returns-in_err-code c = c.from_residual.ensures ∙ no_code c.args.s.now c.index_of.ensures c.take-word.ensures.0 c.in_err-code.ensures

pub returns-in_err-end_a : goal.returns-in_err-end_a
returns-in_err-end_a c =
    c.from_residual-in_err-end_a.ensures
    ∙ no_a c.args.s.now c.index_of.ensures c.take-word.ensures.0 c.drop-behind_word.ensures.0 c.read_number-a.ensures c.in_err-end_a.was

pub returns-in_err-end_b : goal.returns-in_err-end_b
returns-in_err-end_b c =
    c.from_residual-in_err-end_b.ensures
    ∙ no_b c.args.s.now c.index_of.ensures c.take-word.ensures.0 c.drop-behind_word.ensures.0 c.read_number-a.ensures c.in_ok-end_a.was
    c.drop-behind_a.ensures.0 c.read_number-b.ensures c.in_err-end_b.was

pub returns-in_err-end_c : goal.returns-in_err-end_c
returns-in_err-end_c c =
    c.from_residual-in_err-end_c.ensures
    ∙ no_c c.args.s.now c.index_of.ensures c.take-word.ensures.0 c.drop-behind_word.ensures.0 c.read_number-a.ensures c.in_ok-end_a.was
    c.drop-behind_a.ensures.0 c.read_number-b.ensures c.in_ok-end_b.was c.drop-behind_b.ensures.0 c.read_number-c.ensures c.in_err-end_c.was

-- the line lies within the text, so no sum of its parts wraps
within : (c : goal.In_ok-end_c) → sum c.take-word.result.now c.in_ok-end_a.end_a c.in_ok-end_b.end_b c.in_ok-end_c.end_c ≤ length c.args.s.now
within c =
    inside c.args.s.now c.index_of.ensures c.take-word.ensures.0 c.drop-behind_word.ensures.0 c.read_number-a.ensures c.in_ok-end_a.was
    c.drop-behind_a.ensures.0 c.read_number-b.ensures c.in_ok-end_b.was c.drop-behind_b.ensures.0 c.read_number-c.ensures c.in_ok-code.ensures
    c.in_ok-end_c.was

pub overflow_add-result : goal.overflow_add-result
overflow_add-result c = omega (arith, within c, c.well_formed.0.0)

pub overflow_add-result-2 : goal.overflow_add-result-2
overflow_add-result-2 c = omega (arith, within c, c.well_formed.0.0)

pub overflow_add-result-3 : goal.overflow_add-result-3
overflow_add-result-3 c = omega (arith, within c, c.well_formed.0.0)

pub returns : goal.returns
returns c =
    line_found c.args.s.now c.index_of.ensures c.take-word.ensures.0 c.drop-behind_word.ensures.0 c.read_number-a.ensures c.in_ok-end_a.was
    c.drop-behind_a.ensures.0 c.read_number-b.ensures c.in_ok-end_b.was c.drop-behind_b.ensures.0 c.read_number-c.ensures c.in_ok-code.ensures
    c.in_ok-end_c.was
