-- What the program prints, by what the sheet's call tells where the output has room for every sheet.
use Prim.Native.Nat.{ℕ, ◌<◌, ◌≤◌}
use mathlib.Core.Logic.{◌≢◌}
use mathlib.Core.Path.{◌≡◌, refl, sym, ap, ◌∙◌}
use mathlib.Core.List.{List, [], ◌∷◌}
use native.Mathlib.Nat.{suc-ne-zero}
use native.Mathlib.Omega.{arith}
use borrow.Author.Tests.{le-leb, lt-leb, eqb-true, eqb-false, ne_eqb}
use lib.Dec.{leb, eqb}
use lib.ListN.{length, get_or}
use Rattle.std.proofs.Common.{Ok, Err}
use Rattle.wire.specs.Lists.{Bytes}
use Rattle.wire.specs.Output.{overwrite}
use Rattle.wire.proofs.Lists.{split, IsByte, every_of, every_drop}
use Rattle.machine.specs.Limits.{highest_label, sheet_room, input_room}
use Rattle.image.specs.Refusal.{◌then◌, unless, observer_number, image_number}
use Rattle.image.proofs.Refusal.{then_right, then_stop, then_assoc, then_holds, unless_holds}
use Rattle.image.proofs.Image.{image_listed}
use Rattle.refusal.specs.declared.Refusal.{Refusal}
use Rattle.refusal.specs.Refusal.{number_of}
use Rattle.monitor.specs.declared.Answer.{Answer}
use Rattle.monitor.specs.declared.Written.{Written}
use Rattle.monitor.specs.Calls.{call_number, call_answer, call_output, as_answer, CallPromise}
use Rattle.monitor.proofs.Calls.{answer_number, refusal_some}
use Rattle.sheet.specs.Sheet.{sheet_bytes, sheet_call, refusal_line, printed_for, printed}
use Rattle.sheet.proofs.Sheet.{sheet_fits, refusal_length}

-- ---- an observer byte and an image

module _ (v : ℕ) (image out : List ℕ) (bytes : Bytes image) (room : sheet_room ≤ length out) where
  -- the first number met ahead of 13
  abbrev met : ℕ
  met = observer_number v then image_number image

  fits : met ≡ 0 → length (sheet_bytes v image) ≤ sheet_room
  fits e = sheet_fits v image bytes (then_right (observer_number v) (image_number image) e)

  -- 13 is never told
  never_13 : call_number (sheet_call v image) out ≡ met
  unfolding call_number
  never_13 =
      sym (then_assoc (observer_number v) (image_number image) (unless (leb (length (sheet_bytes v image)) (length out)) 13))
      ∙ split (eqb met 0)
      (λ e. let none = eqb-true met 0 e in rw (none, le-leb (length (sheet_bytes v image)) (length out) (omega (arith, fits none))))
      (λ e. then_stop met (eqb-false met 0 e) (unless (leb (length (sheet_bytes v image)) (length out)) 13))

  pub printed_accepted : (call_answer (sheet_call v image) out).number ≡ 0
      → ((call_answer (sheet_call v image) out).length ≡ length (printed_for v image)) × (call_output (sheet_call v image) out ≡ overwrite (printed_for v image) out)
      × (length (printed_for v image) ≤ sheet_room)
  unfolding call_answer call_output
  printed_accepted e =
      let number = sym (answer_number (sheet_call v image) out) ∙ e in
      let none = sym never_13 ∙ number in
      rw (number, none) (refl, refl, fits none)

  pub printed_refused : (call_answer (sheet_call v image) out).number ≢ 0
      → (printed_for v image ≡ refusal_line (call_answer (sheet_call v image) out).number) × (call_output (sheet_call v image) out ≡ out)
      × (length (printed_for v image) ≤ 12)
  unfolding call_output
  printed_refused e =
      let same = answer_number (sheet_call v image) out ∙ never_13 in
      let some = ne_eqb met 0 (λ z. e (same ∙ z)) in
      let most : met < 1000 = then_holds (λ x. x < 1000) (observer_number v) (image_number image)
      (unless_holds (λ x. x < 1000) (leb v highest_label) 1 (omega arith) (omega arith)) (omega (arith, (image_listed image).most)) in
      (rw (some, same), rw (never_13, some), rw some (refusal_length met most))

-- ---- standard input

pub printed_long : (input : List ℕ) → input_room < length input → printed input ≡ refusal_line 11
unfolding printed
printed_long input h = rw (lt-leb (length input) input_room h)

pub printed_empty : (input : List ℕ) → length input ≡ 0 → printed input ≡ refusal_line 3
unfolding printed
printed_empty [] e = refl
printed_empty (v ∷ image) e = absurd (suc-ne-zero (length image) e)

-- an observer byte and an image, of which the call told and wrote this where its output has room for every sheet
module _ {input image : List ℕ} {v : ℕ} (is : input ≡ v ∷ image) (most : length input ≤ input_room) (fit : (i : ℕ) → get_or input i 0 < 256)
    (output : List ℕ) (room : length output ≡ sheet_room) where
  parts : printed input ≡ printed_for v image
  unfolding printed
  parts = rw (le-leb (length input) input_room most, is)

  bytes : Bytes image
  bytes = rw is at (every_drop IsByte 1 input (every_of IsByte 0 input fit))

  pub sheet_printed : (w : Written) {after : List ℕ} → CallPromise (sheet_call v image) output (as_answer (Ok w)) after
      → (w.length ≡ length (printed input)) × (w.length ≤ sheet_room) × (after ≡ overwrite (printed input) output)
  sheet_printed w p =
      let law = printed_accepted v image output bytes (omega (arith, room)) (sym (ap (λ (a : Answer). a.number) p.0)) in
      let long = ap (λ (a : Answer). a.length) p.0 ∙ law.0 in
      rw parts (long, omega (arith, long, law.2), p.1 ∙ law.1)

  pub refusal_printed : (e : Refusal) {after : List ℕ} → CallPromise (sheet_call v image) output (as_answer (Err e)) after
      → (printed input ≡ refusal_line (number_of e)) × (after ≡ output) × (length (printed input) ≤ 12)
  refusal_printed e p =
      let same = ap (λ (a : Answer). a.number) p.0 in
      let law = printed_refused v image output bytes (omega (arith, room)) (λ z. refusal_some e (same ∙ z)) in
      (parts ∙ law.0 ∙ ap refusal_line (sym same), p.1 ∙ law.1, rw parts law.2)
