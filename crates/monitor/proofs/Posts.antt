-- Laws of a post: when it says delivered, and that a call which says so keeps its promise.
use Prim.Native.Nat.{ℕ}
use mathlib.Core.Logic.{◌≢◌}
use mathlib.Core.Path.{◌≡◌, refl, sym, ap, ◌∙◌}
use mathlib.Core.Bool.{Bool, false}
use mathlib.Core.List.{List}
use borrow.Author.Tests.{eq-eqb, ne_eqb}
use Rattle.std.specs.Result.{IsErrAnd}
use Rattle.std.proofs.Common.{Result, Ok, Err}
use Rattle.std.proofs.lemmas.Result.{err_from_is_err_and}
use Rattle.refusal.specs.declared.Refusal.{Refusal}
use Rattle.refusal.specs.Refusal.{number_of}
use Rattle.machine.specs.Post.{delivered}
use Rattle.image.specs.Image.{state_of}
use Rattle.image.specs.Refusal.{post_number, image_number}
use Rattle.monitor.specs.declared.Answer.{Answer}
use Rattle.monitor.specs.declared.Written.{Written}
use Rattle.monitor.specs.declared.Posted.{Posted}
use Rattle.monitor.specs.Calls.{call_number, call_answer, as_answer, as_post_answer, CallPromise, post_call, post_delivered, PostPromise}
use Rattle.monitor.proofs.Calls.{answer_number, refusal_some, call_beyond, call_refused}

module _ (slot label value : ℕ) (image out : List ℕ) where
  -- ---- what it says

  pub refused_drops : (call_answer (post_call slot label value image) out).number ≢ 0 → post_delivered slot label value image out ≡ false
  refused_drops n = let c = post_call slot label value image in rw (ne_eqb (call_number c out) 0 (λ e. n (answer_number c out ∙ e)))

  pub accepted_tells : (call_answer (post_call slot label value image) out).number ≡ 0
      → post_delivered slot label value image out ≡ delivered slot label value (state_of image)
  accepted_tells e = let c = post_call slot label value image in rw (eq-eqb (call_number c out) 0 (sym (answer_number c out) ∙ e))

  -- ---- a call that goes so, and says so of its message, keeps the promise

  number_is : {a : Answer} {after : List ℕ} → CallPromise (post_call slot label value image) out a after
      → a.number ≡ call_number (post_call slot label value image) out
  number_is p = ap (λ (x : Answer). x.number) p.0 ∙ answer_number (post_call slot label value image) out

  pub post_told : (w : Written) (joined : Bool) {after : List ℕ} → CallPromise (post_call slot label value image) out (as_answer (Ok w)) after
      → joined ≡ delivered slot label value (state_of image)
      → PostPromise slot label value image out (as_post_answer (Ok (record { written = w; delivered = joined }))) after
  post_told w joined p same = (p, rw (← number_is p) same)

  -- a refused one, as `?` leaves it
  module _ (r : Result Posted Refusal) (e : Refusal) (is : IsErrAnd r (λ y. y ≡ e)) where
    pub post_refused : {after : List ℕ} → CallPromise (post_call slot label value image) out (as_answer (Err e)) after
        → PostPromise slot label value image out (as_post_answer r) after
    post_refused p =
        let q = err_from_is_err_and r is in
        rw (q.1, q.2) (p, rw (← number_is p, ne_eqb (number_of e) 0 (refusal_some e)))

    -- for its arguments, and for its image
    pub post_beyond : number_of e ≡ post_number slot label → PostPromise slot label value image out (as_post_answer r) out
    post_beyond number = post_refused (call_beyond (post_call slot label value image) out number (refusal_some e) refl)

    pub post_met : post_number slot label ≡ 0 → number_of e ≡ image_number image → PostPromise slot label value image out (as_post_answer r) out
    post_met within number = post_refused (call_refused (post_call slot label value image) out within number (refusal_some e) refl)
