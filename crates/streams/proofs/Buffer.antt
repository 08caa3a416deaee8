-- Two reads, one behind the other: what stands in the buffer then, and that it is what the reader gave.
use Rattle.std.proofs.Common.{◌≡◌, ℕ, ◌+◌, ◌≤◌, List, [], ◌++◌, None, Some, Option, sym, ap, ◌∙◌, append_assoc, length, take, subst, length-take-le}
use Rattle.std.proofs.Math.Seq.{take-append-add}
use Rattle.std.proofs.lemmas.List.{take-append-le}
use Rattle.std.specs.Prelude.{OnErr}
use Rattle.std.specs.declared.result.Result.{Result}
use Rattle.std.specs.declared.result.Result.TheVariants.{Ok, Err}
use Rattle.std.specs.Io.KnownBytes.{Consumes, Keeps}
use borrow.Rule.Slice.PartMut.{put_mid, post_of}

consumes_both : (a b c : Option (List ℕ)) (bs cs : List ℕ) → Consumes a b bs → Consumes b c cs → Consumes a c (bs ++ cs)
consumes_both None b c bs cs p q = tt
consumes_both (Some x) None c bs cs p q = absurd p
consumes_both (Some x) (Some y) None bs cs p q = absurd q
consumes_both (Some x) (Some y) (Some z) bs cs p q = p ∙ ap (λ l. bs ++ l) q ∙ sym (append_assoc bs cs z)

front_of_both : (at k n : ℕ) (xs ys : List ℕ) → at ≤ length xs → n ≤ length ys → take at xs ++ take n ys ≡ take (at + n) (put_mid at k xs ys)
front_of_both at k n xs ys within fits =
    let rest = ys ++ post_of at k xs in
    let l : length (take at xs) ≡ at = length-take-le at xs within in
    ap (λ zs. take at xs ++ zs) (sym (take-append-le n ys (post_of at k xs) fits))
    ∙ sym (take-append-add (take at xs) rest n)
    ∙ ap (λ m. take (m + n) (take at xs ++ rest)) l

-- a read of n bytes into the buffer behind the first `at`, which had been read
pub consumes_front : (a b c : Option (List ℕ)) (at k n : ℕ) (xs ys : List ℕ) → at ≤ length xs → n ≤ length ys
    → Consumes a b (take at xs) → Consumes b c (take n ys) → Consumes a c (take (at + n) (put_mid at k xs ys))
consumes_front a b c at k n xs ys within fits p q =
    subst (Consumes a c) (front_of_both at k n xs ys within fits) (consumes_both a b c (take at xs) (take n ys) p q)

-- a read that failed gave nothing
pub none_given : (a b : Option (List ℕ)) → Keeps a b → Consumes a b []
none_given None b k = tt
none_given (Some x) None k = absurd k
none_given (Some x) (Some y) k = sym k

pub on_err : {T E P : Type 0} (r : Result T E) → P → OnErr r P
on_err (Ok x) p = tt
on_err (Err e) p = p
