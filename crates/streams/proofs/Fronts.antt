-- Two writes, one behind the other: what was written then is a front of the text.
use Rattle.std.proofs.Common.{◌≡◌, ℕ, ◌+◌, ◌-◌, ◌≤◌, List, ◌++◌, None, Some, Option, sym, ap, ◌∙◌, append_assoc, length, take, subst, arith}
use Rattle.std.proofs.Math.ListN.{drop, length-drop}
use Rattle.std.proofs.Math.Seq.{take-add, take_all}
use Rattle.std.specs.Io.KnownBytes.{Appends}

appends_both : (a b c : Option (List ℕ)) (bs cs : List ℕ) → Appends a b bs → Appends b c cs → Appends a c (bs ++ cs)
appends_both None b c bs cs p q = tt
appends_both (Some x) None c bs cs p q = absurd p
appends_both (Some x) (Some y) None bs cs p q = absurd q
appends_both (Some x) (Some y) (Some z) bs cs p q = q ∙ ap (λ l. l ++ cs) p ∙ append_assoc x bs cs

rest : (at : ℕ) (xs : List ℕ) → take (length xs - at) (drop at xs) ≡ drop at xs
rest at xs = let l = length-drop at xs in take_all (length xs - at) (drop at xs) (omega (arith, l))

-- a write of n bytes of what stands behind the first `at`, which had been written
pub appends_front : (a b c : Option (List ℕ)) (at n : ℕ) (xs : List ℕ) → Appends a b (take at xs)
    → Appends b c (take n (take (length xs - at) (drop at xs))) → Appends a c (take (at + n) xs)
appends_front a b c at n xs p q =
    subst (Appends a c) (ap (λ l. take at xs ++ take n l) (rest at xs) ∙ sym (take-add at n xs)) (appends_both a b c (take at xs) _ p q)

pub within : (at n : ℕ) (xs : List ℕ) → at ≤ length xs → n ≤ length (take (length xs - at) (drop at xs)) → at + n ≤ length xs
within at n xs low more = let fits = rw (rest at xs, length-drop at xs) at more in omega arith
