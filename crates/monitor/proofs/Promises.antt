-- The code that ends a call keeps its promise; calls and lists of calls that keep theirs. The code of the calls themselves is held to the
-- promises that the claims name in the crates above, each in its own file of this name.
use Prim.Native.Nat.{ℕ, ◌^◌, ◌<◌, ◌≤◌}
use mathlib.Core.Path.{◌≡◌, refl}
use mathlib.Core.List.{List, [], ◌∷◌}
use mathlib.Core.Bool.{cond}
use lib.Dec.{leb}
use lib.ListN.{length}
use Rattle.std.specs.Result.{IfOk}
use Rattle.wire.specs.Output.{overwrite}
use Rattle.refusal.specs.Refusal.{number}
use Rattle.image.specs.Refusal.{observer_number}
use Rattle.monitor.specs.Calls.{Call, refusal, call_answer, call_output, as_answer, as_post_answer, output_answer}
use Rattle.monitor.specs.CallList.{Request, ask_turns, ask_post, HostCall, image_after, request_call, Fits, KeptPromises}
use Rattle.monitor.specs.Claims.{Made}
use Rattle.monitor.proofs.Keeps.{Keeps, number_of, call_of, argument_of, target_of, answer_of, size_of, busy_of, room_of}
use Rattle.monitor.specs.contracts.refused as Refused
use Rattle.monitor.proofs.refused.Symbol as RefusedCode
use Rattle.monitor.proofs.refused.Met as RefusedMet
use Rattle.monitor.specs.contracts.AnswerFromResultWrittenRefusal.from as Told
use Rattle.monitor.proofs.AnswerFromResultWrittenRefusal.from.Symbol as ToldCode
use Rattle.monitor.proofs.AnswerFromResultWrittenRefusal.from.Met as ToldMet
use Rattle.monitor.specs.contracts.PostAnswerFromResultPostedRefusal.from as PostTold
use Rattle.monitor.proofs.PostAnswerFromResultPostedRefusal.from.Symbol as PostToldCode
use Rattle.monitor.proofs.PostAnswerFromResultPostedRefusal.from.Met as PostToldMet
use Rattle.monitor.specs.contracts.check_observer as CheckObserver
use Rattle.monitor.proofs.check_observer.Symbol as CheckObserverCode
use Rattle.monitor.proofs.check_observer.Met as CheckObserverMet
use Rattle.monitor.specs.contracts.answered as Answered
use Rattle.monitor.proofs.answered.Symbol as AnsweredCode
use Rattle.monitor.proofs.answered.Met as AnsweredMet
use Rattle.monitor.specs.contracts.write_answer as WriteAnswer
use Rattle.monitor.proofs.write_answer.Symbol as WriteAnswerCode
use Rattle.monitor.proofs.write_answer.Met as WriteAnswerMet

module _ {M : Type 1} where
  pub refused_keeps : Keeps M Refused.ended RefusedCode.code RefusedCode.name (λ κs a r e. r ≡ refusal (number_of a))
  refused_keeps = RefusedMet.met

  pub told_keeps : Keeps M Told.ended ToldCode.code ToldCode.name (λ κs a r e. r ≡ as_answer (call_of a))
  told_keeps = ToldMet.met

  pub post_told_keeps : Keeps M PostTold.ended PostToldCode.code PostToldCode.name (λ κs a r e. r ≡ as_post_answer (call_of a))
  post_told_keeps = PostToldMet.met

  pub check_observer_keeps : Keeps M CheckObserver.ended CheckObserverCode.code CheckObserverCode.name
      (λ κs a r e. (number r ≡ observer_number (argument_of a)) × IfOk r (λ label. label ≡ argument_of a))
  check_observer_keeps = CheckObserverMet.met

  pub answered_keeps : Keeps M Answered.ended AnsweredCode.code AnsweredCode.name (λ κs a r e. as_answer r ≡ output_answer (size_of a) (busy_of a) (room_of a))
  answered_keeps = AnsweredMet.met

  pub write_answer_keeps : Keeps M WriteAnswer.ended WriteAnswerCode.code WriteAnswerCode.name
      (λ κs a r e. (as_answer r ≡ output_answer (length (answer_of a).now) 0 (length (target_of a).now))
      × ((target_of e).now
      ≡ cond (leb (length (answer_of a).now) (length (target_of a).now)) (overwrite (answer_of a).now (target_of a).now) (target_of a).now))
  write_answer_keeps = WriteAnswerMet.met

-- ---- lists of calls that keep the promises: none, and one with any output ahead of others

pub kept_none : (image : List ℕ) → KeptPromises [] image
kept_none image = tt

-- the call as the definitions say that it goes
abbrev pub went : Request → List ℕ → List ℕ → HostCall
went r out image = record { request = r; out = out; told = call_answer (request_call r image) out; after = call_output (request_call r image) out }

kept_next : (r : Request) → Fits r → (out image : List ℕ) (calls : List HostCall) → KeptPromises calls (image_after (went r out image) image)
    → KeptPromises (went r out image ∷ calls) image
kept_next r fits out image calls kept = ((fits, (refl, refl)), kept)

-- a turn call with any n
pub kept_turns : (n : ℕ) (out image : List ℕ) (calls : List HostCall) → KeptPromises calls (image_after (went (ask_turns n) out image) image)
    → KeptPromises (went (ask_turns n) out image ∷ calls) image
kept_turns n = kept_next (ask_turns n) tt

-- a post with any slot and label, and any value of 32 bits
pub kept_post : (slot label value : ℕ) → value < 2 ^ 32 → (out image : List ℕ) (calls : List HostCall)
    → KeptPromises calls (image_after (went (ask_post slot label value) out image) image)
    → KeptPromises (went (ask_post slot label value) out image ∷ calls) image
kept_post slot label value fits = kept_next (ask_post slot label value) fits

-- ---- a call with an output that has room for its answer, as an owner's desk makes it

abbrev pub made : (c : Call) (out : List ℕ) → length c.bytes ≤ length out → Made c
made c out room = record { out = out; told = call_answer c out; after = call_output c out; room = room; kept = (refl, refl) }
