-- The claims are about the C functions: the code of each, called with any arguments, keeps its promise, and what it told and
-- wrote is a call as the claims take it.
use Prim.Native.Nat.{ℕ, ◌≤◌}
use mathlib.Core.Path.{◌≡◌, refl, sym, ◌∙◌}
use mathlib.Core.Bool.{cond}
use mathlib.Core.List.{List}
use lib.ListN.{length}
use Rattle.wire.specs.Lists.{Bytes}
use Rattle.image.specs.Refusal.{image_number}
use Rattle.image.specs.Part.{record_extent}
use Rattle.monitor.specs.Calls.{Call, call_answer, CallPromise, rewrite_call, turns_call, post_call, post_delivered, view_call}
use Rattle.monitor.specs.CallList.{ask_turns, ask_post, Fits, KeptPromise}
use Rattle.monitor.specs.Claims.{Accepted, Exactly, Made}
use Rattle.monitor.proofs.Calls.{busy_0}
use Rattle.monitor.proofs.Keeps.{Keeps, image_of, slot_number_of, count_of, observer_of, output_of, label_of, value_of, post_output_of, sole_output_of, input_of}
use Rattle.sheet.specs.Sheet.{sheet_call}
use Rattle.listing.specs.Listing.{AssemblePromise, disassemble_call}
use Rattle.rithennaw.specs.Told.{Told}
use Rattle.rithennaw.specs.contracts.rithennaw_check as Check
use Rattle.rithennaw.proofs.rithennaw_check.Symbol as CheckCode
use Rattle.rithennaw.proofs.rithennaw_check.Met as CheckMet
use Rattle.rithennaw.specs.contracts.rithennaw_record as Record
use Rattle.rithennaw.proofs.rithennaw_record.Symbol as RecordCode
use Rattle.rithennaw.proofs.rithennaw_record.Met as RecordMet
use Rattle.rithennaw.specs.contracts.rithennaw_rewrite as Rewrite
use Rattle.rithennaw.proofs.rithennaw_rewrite.Symbol as RewriteCode
use Rattle.rithennaw.proofs.rithennaw_rewrite.Met as RewriteMet
use Rattle.rithennaw.specs.contracts.rithennaw_turns as Turns
use Rattle.rithennaw.proofs.rithennaw_turns.Symbol as TurnsCode
use Rattle.rithennaw.proofs.rithennaw_turns.Met as TurnsMet
use Rattle.rithennaw.specs.contracts.rithennaw_post as Post
use Rattle.rithennaw.proofs.rithennaw_post.Symbol as PostCode
use Rattle.rithennaw.proofs.rithennaw_post.Met as PostMet
use Rattle.rithennaw.specs.contracts.rithennaw_view as View
use Rattle.rithennaw.proofs.rithennaw_view.Symbol as ViewCode
use Rattle.rithennaw.proofs.rithennaw_view.Met as ViewMet
use Rattle.rithennaw.specs.contracts.rithennaw_sheet as Sheet
use Rattle.rithennaw.proofs.rithennaw_sheet.Symbol as SheetCode
use Rattle.rithennaw.proofs.rithennaw_sheet.Met as SheetMet
use Rattle.rithennaw.specs.contracts.rithennaw_assemble as Assemble
use Rattle.rithennaw.proofs.rithennaw_assemble.Symbol as AssembleCode
use Rattle.rithennaw.proofs.rithennaw_assemble.Met as AssembleMet
use Rattle.rithennaw.specs.contracts.rithennaw_disassemble as Disassemble
use Rattle.rithennaw.proofs.rithennaw_disassemble.Symbol as DisassembleCode
use Rattle.rithennaw.proofs.rithennaw_disassemble.Met as DisassembleMet

-- ---- the numbers that are told through a pointer, by name, behind the arguments of the call

abbrev start_of : {A B C D : Type 0} → A × (B × (C × D)) → C
start_of a = a.1.1.0

abbrev length_of : {A B C D E : Type 0} → A × (B × (C × (D × E))) → D
length_of a = a.1.1.1.0

abbrev busy_of : {A B C D E F : Type 0} → A × (B × (C × (D × (E × F)))) → E
busy_of a = a.1.1.1.1.0

abbrev sole_length_of : {A B C D : Type 0} → A × (B × (C × D)) → C
sole_length_of a = a.1.1.0

-- of a post

abbrev post_length_of : {A B C D E F G : Type 0} → A × (B × (C × (D × (E × (F × G))))) → F
post_length_of a = a.1.1.1.1.1.0

abbrev delivered_of : {A B C D E F G H : Type 0} → A × (B × (C × (D × (E × (F × (G × H)))))) → G
delivered_of a = a.1.1.1.1.1.1.0

module _ {M : Type 1} where
  pub rithennaw_check_keeps : Keeps M Check.ended CheckCode.code CheckCode.name (λ κs a r e. (r ≡ image_number (image_of a).now) × Bytes (image_of a).now)
  rithennaw_check_keeps = CheckMet.met

  pub rithennaw_record_keeps : Keeps M Record.ended RecordCode.code RecordCode.name
      (λ κs a r e. ((start_of e).now ≡ (record_extent (image_of a).now (slot_number_of a)).start)
      × ((length_of e).now ≡ (record_extent (image_of a).now (slot_number_of a)).length))
  rithennaw_record_keeps = RecordMet.met

  pub rithennaw_rewrite_keeps : Keeps M Rewrite.ended RewriteCode.code RewriteCode.name
      (λ κs a r e. Told (image_of a).now (rewrite_call (image_of a).now) (sole_output_of a).now r (sole_length_of e).now (sole_output_of e).now)
  rithennaw_rewrite_keeps = RewriteMet.met

  pub rithennaw_turns_keeps : Keeps M Turns.ended TurnsCode.code TurnsCode.name
      (λ κs a r e. Told (image_of a).now (turns_call (count_of a) (image_of a).now) (output_of a).now r (length_of e).now (output_of e).now
      × ((busy_of e).now ≡ (call_answer (turns_call (count_of a) (image_of a).now) (output_of a).now).busy))
  rithennaw_turns_keeps = TurnsMet.met

  pub rithennaw_post_keeps : Keeps M Post.ended PostCode.code PostCode.name
      (λ κs a r e. Told (image_of a).now (post_call (slot_number_of a) (label_of a) (value_of a) (image_of a).now) (post_output_of a).now r (post_length_of e).now (post_output_of e).now
      × ((delivered_of e).now ≡ cond (post_delivered (slot_number_of a) (label_of a) (value_of a) (image_of a).now (post_output_of a).now) 1 0)
      × Fits (ask_post (slot_number_of a) (label_of a) (value_of a)))
  rithennaw_post_keeps = PostMet.met

  pub rithennaw_view_keeps : Keeps M View.ended ViewCode.code ViewCode.name
      (λ κs a r e. Told (image_of a).now (view_call (observer_of a) (image_of a).now) (output_of a).now r (length_of e).now (output_of e).now)
  rithennaw_view_keeps = ViewMet.met

  pub rithennaw_sheet_keeps : Keeps M Sheet.ended SheetCode.code SheetCode.name
      (λ κs a r e. Told (image_of a).now (sheet_call (observer_of a) (image_of a).now) (output_of a).now r (length_of e).now (output_of e).now)
  rithennaw_sheet_keeps = SheetMet.met

  pub rithennaw_assemble_keeps : Keeps M Assemble.ended AssembleCode.code AssembleCode.name
      (λ κs a r e. AssemblePromise (input_of a).now (sole_output_of a).now (record { number = r; length = (sole_length_of e).now; busy = 0 }) (sole_output_of e).now
      × Bytes (input_of a).now)
  rithennaw_assemble_keeps = AssembleMet.met

  pub rithennaw_disassemble_keeps : Keeps M Disassemble.ended DisassembleCode.code DisassembleCode.name
      (λ κs a r e. Told (input_of a).now (disassemble_call (input_of a).now) (sole_output_of a).now r (sole_length_of e).now (sole_output_of e).now)
  rithennaw_disassemble_keeps = DisassembleMet.met

-- ---- from what they told to what the claims are about

-- 0 from `rithennaw_check` tells an accepted image, and only that
pub check_accepted : (image : List ℕ) {number : ℕ} → (number ≡ image_number image) × Bytes image → Exactly (number ≡ 0) (Accepted image)
check_accepted image told = (λ none. record { bytes = told.1; number = sym told.0 ∙ none }, λ a. told.0 ∙ a.number)

-- What a call told and wrote keeps the promise; what `rithennaw_assemble` promises is the claims' own. That number 0 of a call that reads
-- an image tells an accepted one is monitor's law `number_0_accepted`, since the call promises that the image is bytes.
module _ (input : List ℕ) (c : Call) (out : List ℕ) {number length : ℕ} {after : List ℕ} (told : Told input c out number length after) where
  -- number, length and busy count are the answer
  pub told_promise : {busy : ℕ} → busy ≡ (call_answer c out).busy → CallPromise c out (record { number = number; length = length; busy = busy }) after
  told_promise counted = (λ i. record { number = told.0 i; length = told.1 i; busy = counted i }, told.2)

  -- of a call that runs no turn
  pub told_promise_0 : c.busy ≡ 0 → CallPromise c out (record { number = number; length = length; busy = 0 }) after
  told_promise_0 none = told_promise (sym (busy_0 c out none))

-- ---- and to the lists of the secrecy rule: what `rithennaw_turns` and `rithennaw_post` promise makes a call of a list

pub turns_kept : (n : ℕ) (image out : List ℕ) {number length busy : ℕ} {after : List ℕ}
    → Told image (turns_call n image) out number length after × (busy ≡ (call_answer (turns_call n image) out).busy)
    → KeptPromise (record { request = ask_turns n; out = out; told = record { number = number; length = length; busy = busy }; after = after }) image
turns_kept n image out told = (tt, told_promise image (turns_call n image) out told.0 told.1)

pub post_kept : (slot label value : ℕ) (image out : List ℕ) {number length delivered : ℕ} {after : List ℕ}
    → Told image (post_call slot label value image) out number length after
    × (delivered ≡ cond (post_delivered slot label value image out) 1 0)
    × Fits (ask_post slot label value)
    → KeptPromise (record { request = ask_post slot label value; out = out; told = record { number = number; length = length; busy = 0 }; after = after }) image
post_kept slot label value image out told = (told.2, told_promise_0 image (post_call slot label value image) out told.0 refl)

-- ---- and to the calls of an owner's desk: what a C function promises makes one where its output is long enough for its answer

abbrev pub told_made : (input : List ℕ) (c : Call) (out : List ℕ) {number size busy : ℕ} {after : List ℕ}
    → Told input c out number size after → busy ≡ (call_answer c out).busy → length c.bytes ≤ length out → Made c
told_made input c out {number} {size} {busy} {after} told counted room = record {
  out = out;
  told = record { number = number; length = size; busy = busy };
  after = after;
  room = room;
  kept = told_promise input c out told counted;
}
