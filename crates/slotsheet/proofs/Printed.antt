-- What is printed for the bytes that were read is what is printed for all that the source had.
use Rattle.std.proofs.Common.{◌≡◌, ℕ, ◌<◌, ◌≤◌, List, [], ◌++◌, Option, None, Some, IfSome, Result, Ok, Err, OnOk, OnErr, refl, sym, ap, ◌∙◌, subst, append-nil, length, length-append, take, arith, leb, leb-true, leb-false}
use Rattle.std.proofs.lemmas.Bool.{lt-leb}
use Rattle.std.specs.Io.KnownBytes.{Appends, Consumes, IsAtEnd}
use Rattle.wire.specs.Output.{overwrite}
use Rattle.wire.proofs.Lists.{split}
use Rattle.wire.proofs.Output.{take_overwrite}
use Rattle.machine.specs.Limits.{input_room}
use Rattle.sheet.specs.Sheet.{printed}

-- what stands behind more bytes than are taken is no matter
printed_longer : (bs ys : List ℕ) → input_room < length bs → printed bs ≡ printed (bs ++ ys)
unfolding printed
printed_longer bs ys long =
    let more : input_room < length (bs ++ ys) = simp length-append (omega arith) in
    rw (lt-leb (length bs) input_room long, lt-leb (length (bs ++ ys)) input_room more)

printed_front : (bs ys : List ℕ) → (length bs ≤ input_room → ys ≡ []) → printed bs ≡ printed (bs ++ ys)
printed_front bs ys end =
    split (leb (length bs) input_room)
    (λ e. let none : ys ≡ [] = end (leb-true (length bs) input_room e) in rw (none, append-nil) refl)
    (λ e. printed_longer bs ys (leb-false (length bs) input_room e))

printed_all : (given left : Option (List ℕ)) (bs : List ℕ) → Consumes given left bs → (length bs ≤ input_room → IsAtEnd left)
    → IfSome given (λ xs. printed bs ≡ printed xs)
printed_all None left bs p end = tt
printed_all (Some xs) None bs p end = absurd p
printed_all (Some xs) (Some ys) bs p end = printed_front bs ys end ∙ ap printed (sym p)

appends_all : (given left old new : Option (List ℕ)) (bs : List ℕ) → Appends old new (printed bs)
    → Consumes given left bs → (length bs ≤ input_room → IsAtEnd left) → IfSome given (λ xs. Appends old new (printed xs))
appends_all None left old new bs wrote p end = tt
appends_all (Some xs) left old new bs wrote p end = subst (Appends old new) (printed_all (Some xs) left bs p end) wrote

-- where the n bytes that were written are what is to be printed for those that were read
pub shown : {E : Type 0} (r : Result (Unit {0}) E) (given left old new : Option (List ℕ)) (bs text out : List ℕ) (n : ℕ)
    → OnOk r (Appends old new (take n text)) → n ≡ length (printed bs) → text ≡ overwrite (printed bs) out
    → Consumes given left bs → (length bs ≤ input_room → IsAtEnd left) → OnOk r (IfSome given (λ xs. Appends old new (printed xs)))
shown (Err e) given left old new bs text out n wrote long h p end = tt
shown (Ok u) given left old new bs text out n wrote long h p end =
    let same : take n text ≡ printed bs = rw (long, h) (take_overwrite (printed bs) out) in
    appends_all given left old new bs (subst (Appends old new) same wrote) p end

-- ---- where a read or a write fails: a front of that

nothing_more : (old : Option (List ℕ)) → Appends old old []
nothing_more None = tt
nothing_more (Some x) = sym (append-nil x)

-- nothing, where the source could not be read
pub none_shown : {T E : Type 0} (r : Result T E) (given old : Option (List ℕ))
    → OnErr r (IfSome given (λ xs. (n : ℕ) × Appends old old (take n (printed xs))))
none_shown (Ok x) given old = tt
none_shown (Err e) None old = tt
none_shown (Err e) (Some xs) old = (0, nothing_more old)

appends_front : (given left old new : Option (List ℕ)) (bs : List ℕ) (m : ℕ) → Appends old new (take m (printed bs))
    → Consumes given left bs → (length bs ≤ input_room → IsAtEnd left) → IfSome given (λ xs. (n : ℕ) × Appends old new (take n (printed xs)))
appends_front None left old new bs m wrote p end = tt
appends_front (Some xs) left old new bs m wrote p end = (m, subst (λ t. Appends old new (take m t)) (printed_all (Some xs) left bs p end) wrote)

pub front_shown : {E : Type 0} (r : Result (Unit {0}) E) (given left old new : Option (List ℕ)) (bs text out : List ℕ) (n : ℕ)
    → OnErr r ((m : ℕ) × Appends old new (take m (take n text))) → n ≡ length (printed bs) → text ≡ overwrite (printed bs) out
    → Consumes given left bs → (length bs ≤ input_room → IsAtEnd left)
    → OnErr r (IfSome given (λ xs. (m : ℕ) × Appends old new (take m (printed xs))))
front_shown (Ok u) given left old new bs text out n wrote long h p end = tt
front_shown (Err e) given left old new bs text out n wrote long h p end =
    let same : take n text ≡ printed bs = rw (long, h) (take_overwrite (printed bs) out) in
    appends_front given left old new bs wrote.0 (subst (λ t. Appends old new (take wrote.0 t)) same wrote.1) p end
