-- Laws of a call: when it is accepted, what it then tells and writes, and which numbers it may tell.
use Prim.Native.Nat.{ℕ, zero, suc, ◌<◌, ◌≤◌}
use mathlib.Core.Logic.{◌≢◌}
use mathlib.Core.Path.{◌≡◌, refl, sym, ◌∙◌}
use mathlib.Core.Bool.{Bool, true, false, cond}
use mathlib.Core.List.{List, []}
use native.Mathlib.Omega.{arith}
use borrow.Author.Tests.{leb-true, leb-false, le-leb, lt-leb, eqb-true, eqb-false, ne_eqb}
use lib.Dec.{leb, eqb}
use lib.ListN.{length, take}
use Rattle.std.specs.Result.{IsErrAnd}
use Rattle.std.proofs.Common.{Result}
use Rattle.std.proofs.lemmas.Result.{err_from_is_err_and}
use Rattle.wire.specs.Lists.{Bytes}
use Rattle.wire.specs.Output.{overwrite}
use Rattle.wire.specs.Inner.{written}
use Rattle.wire.proofs.Lists.{split}
use Rattle.wire.proofs.Output.{take_overwrite, drop_overwrite, length_overwrite}
use Rattle.machine.specs.Limits.{highest_label, highest_slot}
use Rattle.refusal.specs.declared.Refusal.{Refusal}
use Rattle.refusal.specs.declared.Refusal.TheVariants.{Observer, TurnLimit, Short, Version, ProgramLength, Instruction, TurnSlot, RecordLength, TaskField, Mail, Tail, Estate, Output, PostSlot, PostLabel, Text}
use Rattle.refusal.specs.Refusal.{number_of}
use Rattle.image.specs.Refusal.{observer_number, post_number, ◌then◌, unless, image_number}
use Rattle.image.proofs.Refusal.{then_stop, then_left, then_right, then_holds, unless_holds, unless_none, unless_given, Listed, listed_not}
use Rattle.monitor.specs.declared.Answer.{Answer}
use Rattle.monitor.specs.declared.Written.{Written}
use Rattle.monitor.specs.Calls.{Call, call_number, refusal, as_answer, output_answer, call_answer, call_output, CallPromise}
use Rattle.monitor.specs.Claims.{Accepted, Exactly, NumbersByCause, WritesItsAnswer, TellTheSame}

-- ---- which number was given: the arguments' a, the input's i, or 13 where the test t of the output fails

-- a number that the input and the output leave to the arguments
abbrev pub LeftToArguments : ℕ → Type 0
LeftToArguments a = 3 ≤ a → a ≤ 13 → ⊥

then_argument : (a i : ℕ) (t : Bool) (k : ℕ) → Listed i → 1 ≤ k → LeftToArguments k → (a then i then unless t 13) ≡ k → a ≡ k
then_argument zero zero true k listed some other e = e
then_argument zero zero false k listed some other e = absurd (other (omega arith) (omega arith))
then_argument zero (suc i) t k listed some other e = absurd (other (omega (arith, listed.least (omega arith))) (omega (arith, listed.most)))
then_argument (suc a) i t k listed some other e = e

then_image : (a i : ℕ) (t : Bool) (k : ℕ) → LeftToArguments a → 3 ≤ k → k ≤ 12 → (a then i then unless t 13) ≡ k → (a ≡ 0) × (i ≡ k)
then_image zero zero true k argument low high e = (refl, e)
then_image zero zero false k argument low high e = (refl, omega arith)
then_image zero (suc i) t k argument low high e = (refl, e)
then_image (suc a) i t k argument low high e = absurd (argument (omega arith) (omega arith))

then_output : (a i : ℕ) (t : Bool) → LeftToArguments a → i ≤ 12 → (a then i then unless t 13) ≡ 13 → (a ≡ 0) × (i ≡ 0) × (t ≡ false)
then_output zero zero true argument listed e = absurd (omega arith)
then_output zero zero false argument listed e = (refl, refl, refl)
then_output zero (suc i) t argument listed e = absurd (omega arith)
then_output (suc a) i t argument listed e = absurd (argument (omega arith) (omega arith))

-- the numbers of the arguments are such
pub limit_number : (x limit k : ℕ) → LeftToArguments k → LeftToArguments (unless (leb x limit) k)
limit_number x limit k other = unless_holds LeftToArguments (leb x limit) k (λ low high. omega arith) other

pub observer_number_lem : (v : ℕ) → LeftToArguments (observer_number v)
observer_number_lem v = limit_number v highest_label 1 (λ low high. omega arith)

pub post_number_lem : (slot label : ℕ) → LeftToArguments (post_number slot label)
post_number_lem slot label =
    then_holds LeftToArguments (unless (leb slot highest_slot) 14) (unless (leb label highest_label) 15)
    (limit_number slot highest_slot 14 (λ low high. omega arith))
    (limit_number label highest_label 15 (λ low high. omega arith))

-- an observer within the limit has none
pub observer_none : (v : ℕ) → v ≤ highest_label → observer_number v ≡ 0
observer_none v seen = rw (le-leb v highest_label seen)

-- ---- a post's arguments: none has a number exactly where both are within their limits

module _ (slot label : ℕ) where
  pub post_within : post_number slot label ≡ 0 → (slot ≤ highest_slot) × (label ≤ highest_label)
  post_within e = (
    leb-true slot highest_slot (unless_none (leb slot highest_slot) 13 (then_left (unless (leb slot highest_slot) 14) _ e)),
    leb-true label highest_label (unless_none (leb label highest_label) 14 (then_right (unless (leb slot highest_slot) 14) _ e)),
  )

  pub post_none : slot ≤ highest_slot → label ≤ highest_label → post_number slot label ≡ 0
  post_none j l = rw (le-leb slot highest_slot j, le-leb label highest_label l)

  -- 14, and 15 behind it
  pub slot_given : post_number slot label ≡ 14 → highest_slot < slot
  slot_given e = leb-false slot highest_slot (fails (leb slot highest_slot) (leb label highest_label) e)
    where
      fails : (t u : Bool) → (unless t 14 then unless u 15) ≡ 14 → t ≡ false
      fails true true e = absurd (omega arith)
      fails true false e = absurd (omega arith)
      fails false u e = refl

  pub label_given : post_number slot label ≡ 15 → (slot ≤ highest_slot) × (highest_label < label)
  label_given e =
      let t = tests (leb slot highest_slot) (leb label highest_label) e in
      (leb-true slot highest_slot t.0, leb-false label highest_label t.1)
    where
      tests : (t u : Bool) → (unless t 14 then unless u 15) ≡ 15 → (t ≡ true) × (u ≡ false)
      tests true true e = absurd (omega arith)
      tests true false e = (refl, refl)
      tests false u e = absurd (omega arith)

-- ---- every refusal has a number

pub refusal_some : (e : Refusal) → number_of e ≢ 0
refusal_some Observer e = omega arith
refusal_some TurnLimit e = omega arith
refusal_some Short e = omega arith
refusal_some Version e = omega arith
refusal_some ProgramLength e = omega arith
refusal_some Instruction e = omega arith
refusal_some TurnSlot e = omega arith
refusal_some RecordLength e = omega arith
refusal_some TaskField e = omega arith
refusal_some Mail e = omega arith
refusal_some Tail e = omega arith
refusal_some Estate e = omega arith
refusal_some Output e = omega arith
refusal_some PostSlot e = omega arith
refusal_some PostLabel e = omega arith
refusal_some Text e = omega arith

-- ---- a call by its number

module _ (c : Call) (out : List ℕ) where
  -- what the call tells as its number
  pub answer_number : (call_answer c out).number ≡ call_number c out
  unfolding call_answer
  answer_number = split (eqb (call_number c out) 0) (λ e. rw e (sym (eqb-true (call_number c out) 0 e))) (λ e. rw e)

  -- the output has room for the bytes
  abbrev fits : Bool
  fits = leb (length c.bytes) (length out)

  -- the parts of the number, in their order
  first_met_lem : (call_answer c out).number ≡ (c.argument_number then c.input_number then unless fits 13)
  unfolding call_number
  first_met_lem = answer_number

  -- an accepted call
  pub accepted_exactly : Exactly ((call_answer c out).number ≡ 0) ((c.argument_number ≡ 0) × (c.input_number ≡ 0) × (length c.bytes ≤ length out))
  accepted_exactly = (
    λ e.
        let i = then_right c.argument_number _ (sym first_met_lem ∙ e) in
        let o = then_right c.input_number _ i in (
          then_left c.argument_number _ (sym first_met_lem ∙ e),
          then_left c.input_number _ i,
          leb-true _ _ (unless_none fits 12 o),
        ),
    λ h. first_met_lem ∙ rw (h.0, h.1, le-leb (length c.bytes) (length out) h.2),
  )

  -- every number that is not the input's or the output's comes from the arguments
  pub argument_exactly : Listed c.input_number → (k : ℕ) → 1 ≤ k → LeftToArguments k → Exactly ((call_answer c out).number ≡ k) (c.argument_number ≡ k)
  argument_exactly listed k some other = (
    λ e. then_argument c.argument_number c.input_number fits k listed some other (sym first_met_lem ∙ e),
    λ e. first_met_lem ∙ rw e (then_stop k (λ z. omega arith) _),
  )

  pub numbers_by_cause : LeftToArguments c.argument_number → Listed c.input_number → NumbersByCause c out
  numbers_by_cause argument listed = record {
    accepted = accepted_exactly;
    from_argument = argument_exactly listed;
    from_input = λ k low high. (
      λ e. then_image c.argument_number c.input_number fits k argument low high (sym first_met_lem ∙ e),
      λ h. first_met_lem ∙ rw (h.0, h.1) (then_stop k (λ z. omega arith) _),
    );
    from_output = (
      λ e.
          let o = then_output c.argument_number c.input_number fits argument listed.most (sym first_met_lem ∙ e) in
          (o.0, o.1, leb-false _ _ o.2),
      λ h. first_met_lem ∙ rw (h.0, h.1, lt-leb (length c.bytes) (length out) h.2),
    );
  }

  -- the argument x has the number k where it is beyond its limit
  pub limit_exactly : Listed c.input_number → (x limit k : ℕ) → c.argument_number ≡ unless (leb x limit) k → 1 ≤ k → LeftToArguments k
      → Exactly ((call_answer c out).number ≡ k) (limit < x)
  limit_exactly listed x limit k e some other = (
    λ told. leb-false x limit (unless_given (leb x limit) k some (sym e ∙ (argument_exactly listed k some other).0 told)),
    λ beyond. (argument_exactly listed k some other).1 (e ∙ rw (lt-leb x limit beyond)),
  )

  -- the bytes that the call writes, none where it is refused
  call_written : take (call_answer c out).length (call_output c out) ≡ cond (eqb (call_number c out) 0) c.bytes []
  unfolding call_answer call_output
  call_written = split (eqb (call_number c out) 0) (λ e. rw e (take_overwrite c.bytes out)) (λ e. rw e)

  -- what an accepted call tells
  pub accepted_answer : (call_answer c out).number ≡ 0 → call_answer c out ≡ record { number = 0; length = length c.bytes; busy = c.busy }
  unfolding call_answer
  accepted_answer e = rw (sym answer_number ∙ e)

  -- the output of an accepted call
  pub output_accepted : (call_answer c out).number ≡ 0 → call_output c out ≡ overwrite c.bytes out
  unfolding call_output
  output_accepted e = rw (sym answer_number ∙ e)

  -- of bytes, number 0 tells an accepted image
  pub number_0_accepted : (image : List ℕ) → c.input_number ≡ image_number image
      → {number : ℕ} → number ≡ (call_answer c out).number → Bytes image → number ≡ 0 → Accepted image
  number_0_accepted image input told bytes none = record { bytes = bytes; number = sym input ∙ (accepted_exactly.0 (sym told ∙ none)).1 }

  -- a call that runs no turn tells busy count 0
  pub busy_0 : c.busy ≡ 0 → (call_answer c out).busy ≡ 0
  unfolding call_answer
  busy_0 e = split (eqb (call_number c out) 0) (λ t. rw t e) (λ t. rw t)

  -- it writes the bytes of its answer and nothing else
  pub writes_its_answer : WritesItsAnswer c (call_answer c out) out (call_output c out)
  unfolding call_answer call_output
  writes_its_answer =
      split (eqb (call_number c out) 0)
      (λ e. let room = (accepted_exactly.0 (answer_number ∙ eqb-true (call_number c out) 0 e)).2 in
      rw e
      record {
        refused = λ n. absurd (n refl);
        accepted = λ _. (refl, refl, take_overwrite c.bytes out);
        behind = drop_overwrite c.bytes out;
        fits = room;
        size = length_overwrite c.bytes out room;
      })
      (λ e. rw e
      record {
        refused = λ _. (refl, refl, refl);
        accepted = λ z. absurd (eqb-false (call_number c out) 0 e z);
        behind = refl;
        fits = omega arith;
        size = refl;
      })

  -- a call that nothing refuses writes its bytes
  pub bytes_written : c.argument_number ≡ 0 → c.input_number ≡ 0 → length c.bytes ≤ length out
      → take (call_answer c out).length (call_output c out) ≡ c.bytes
  bytes_written argument input room = (writes_its_answer.accepted (accepted_exactly.1 (argument, input, room))).2

  -- what holds of the argument's number, the input's, 0 and 13 holds of the number told
  pub number_holds : (P : ℕ → Type 0) → P c.argument_number → P c.input_number → P 0 → P 13 → P (call_answer c out).number
  unfolding call_number
  number_holds P a i z o =
      rw answer_number
      (then_holds P c.argument_number _ a (then_holds P c.input_number _ i (unless_holds P (leb (length c.bytes) (length out)) 13 z o)))

  -- of a call for an observer: 0, or a number of the table other than 2
  pub observer_listed : Listed c.input_number → (v : ℕ) → c.argument_number ≡ observer_number v → ((call_answer c out).number ≤ 13) × ((call_answer c out).number ≢ 2)
  observer_listed i v e =
      number_holds (λ x. (x ≤ 13) × (x ≢ 2))
      (rw e (unless_holds (λ x. (x ≤ 13) × (x ≢ 2)) (leb v highest_label) 1 (omega arith, λ z. omega arith) (omega arith, λ z. omega arith)))
      (omega (arith, i.most), listed_not _ 2 i (omega arith) (omega arith)) (omega arith, λ z. omega arith) (omega arith, λ z. omega arith)

  -- ---- a call whose arguments are beyond their limits

  pub call_beyond : {k : ℕ} → k ≡ c.argument_number → k ≢ 0 → {r : Answer} → r ≡ refusal k → CallPromise c out r out
  unfolding call_answer call_output call_number
  call_beyond {k} beyond some told =
      rw (told, ← beyond, then_stop k some (c.input_number then unless (leb (length c.bytes) (length out)) 13), ne_eqb k 0 some) (refl, refl)

  -- what its code returns there
  pub beyond_told : (r : Result Written Refusal) (e : Refusal) → IsErrAnd r (λ y. y ≡ e) → number_of e ≡ c.argument_number → CallPromise c out (as_answer r) out
  beyond_told r e is number = let p = err_from_is_err_and r is in rw (p.1, p.2) (call_beyond number (refusal_some e) refl)

  -- ---- a call whose arguments are within their limits

  module _ (argument : c.argument_number ≡ 0) where
    -- what it reads is refused
    pub call_refused : {r : Answer} {k : ℕ} → k ≡ c.input_number → k ≢ 0 → r ≡ refusal k
        → CallPromise c out r out
    unfolding call_answer call_output call_number
    call_refused {k = k} number refused told =
        rw (told, argument, ← number, then_stop k refused (unless (leb (length c.bytes) (length out)) 13), ne_eqb k 0 refused) (refl, refl)

    -- what its code returns there
    pub refused_told : (r : Result Written Refusal) (e : Refusal) → IsErrAnd r (λ y. y ≡ e) → number_of e ≡ c.input_number → CallPromise c out (as_answer r) out
    refused_told r e is number = let p = err_from_is_err_and r is in rw (p.1, p.2) (call_refused number (refusal_some e) refl)

    -- what it reads is accepted, and its bytes are written where the output has room for them
    pub call_accepted : c.input_number ≡ 0 → {b after : List ℕ} {k : ℕ} {r : Answer} → b ≡ c.bytes → k ≡ c.busy
        → (r ≡ output_answer (length b) k (length out)) × (after ≡ written b out)
        → CallPromise c out r after
    unfolding call_answer call_output call_number
    call_accepted accepted {b} same counted w =
        rw (argument, accepted, ← same, ← counted, w.0, w.1) (split (leb (length b) (length out)) (λ e. rw e (refl, refl)) (λ e. rw e (refl, refl)))

-- ---- two calls with the same argument's number, bytes and busy count, of what gets the same number

module _ (c c' : Call) (argument : c.argument_number ≡ c'.argument_number) (number : c.input_number ≡ c'.input_number)
    (bytes : c.bytes ≡ c'.bytes) (busy : c.busy ≡ c'.busy) where
  module _ (out out' : List ℕ) (room : length out ≡ length out') where
    number_same : call_number c out ≡ call_number c' out'
    unfolding call_number
    number_same = rw (argument, number, bytes, room)

    answer_same : call_answer c out ≡ call_answer c' out'
    unfolding call_answer
    answer_same = rw (number_same, bytes, busy)

    written_same : take (call_answer c out).length (call_output c out) ≡ take (call_answer c' out').length (call_output c' out')
    written_same = call_written c out ∙ rw (number_same, bytes) (sym (call_written c' out'))

  pub tell_the_same : TellTheSame c c'
  tell_the_same out out' told told' after after' room p p' = rw (p.0, p.1, p'.0, p'.1) (answer_same out out' room, written_same out out' room)
