-- `instruction::all_legal` meets its contract: of the numbers below n, either every one is that of a legal instruction or one is not.
use Rattle.std.proofs.Common.{◌≡◌, ℕ, ◌<◌, Bool, true, false, length, get_or, MatchBool, HoldsAt, refl, sym, rules, arith}
use Rattle.std.specs.List.{AllWithin, range_with_len}
use Rattle.std.proofs.lemmas.Iterator.{cases_from_all, YieldsList-from_range}
use Rattle.std.proofs.lemmas.List.FromFn.{length-range_with_len, get_or-range_with_len}
use Rattle.wire.specs.Lists.{each}
use Rattle.wire.proofs.Lists.{each_intro, each_fails}
use Rattle.instruction.specs.Program.{count, instruction_at, is_legal, all_legal}
use Rattle.instruction.proofs.all_legal.Goals as goal

number_at : (n i : ℕ) → i < n → get_or (range_with_len 0 n) i 0 ≡ i
number_at n i l = omega (arith, get_or-range_with_len 0 n i 0 l)

-- a test of each number below n, by what `all` says of it
each_from_all : (n : ℕ) (f : ℕ → Bool) (r : Bool)
    → MatchBool r (AllWithin (λ i. f i ≡ true) (range_with_len 0 n) 0 (length (range_with_len 0 n)))
    ((k : ℕ) × (k < length (range_with_len 0 n)) × HoldsAt (λ i. f i ≡ false) (range_with_len 0 n) k)
    → r ≡ each n f
each_from_all n f true h =
    sym (each_intro n f (λ i l. rw (number_at n i l) at (h i 0 (omega arith) (rw length-range_with_len l))))
each_from_all n f false h =
    let below : h.0 < n = rw length-range_with_len at h.1 in
    sym (each_fails n f h.0 below (rw (number_at n h.0 below) at (h.2 0)))

pub returns : goal.returns
unfolding all_legal
returns c =
    let program = c.args.program.now in
    each_from_all (count program) (λ i. is_legal (instruction_at program i)) _
    (cases_from_all _ _ _ (λ i. is_legal (instruction_at program i) ≡ true) (λ i. is_legal (instruction_at program i) ≡ false) c.all.ensures.ran
    (YieldsList-from_range 0 (count program) (count program) refl (omega arith)) (λ x q k. search rules) (λ x q k. search rules))
