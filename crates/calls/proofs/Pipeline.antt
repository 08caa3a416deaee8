-- What the table holds of an image that was loaded, and what is written of it once it was run or posted to: the bytes of
-- its state in the view.
use Prim.Native.Nat.{ℕ, ◌^◌, ◌<◌, ◌≤◌}
use mathlib.Core.Path.{◌≡◌, refl, sym, ap, subst, ◌∙◌}
use mathlib.Core.List.{List}
use borrow.Author.Tests.{eqb-true, eqb-false}
use lib.Dec.{eqb}
use Rattle.wire.specs.Lists.{Bytes}
use Rattle.wire.proofs.Lists.{split}
use Rattle.machine.specs.Limits.{highest_label}
use Rattle.machine.specs.State.{State}
use Rattle.machine.specs.Post.{post}
use Rattle.machine.specs.Valid.{Valid}
use Rattle.machine.specs.Machine.{turns, view}
use Rattle.machine.proofs.Valid.{with_version, valid_as_2}
use Rattle.machine.proofs.Machine.{turns_valid, turns_version, turns_as_2, turns_program, post_valid, view_15}
use Rattle.image.specs.Image.{version_of, program_of, turn_slot_of, state_of, image_bytes}
use Rattle.image.specs.Refusal.{image_number}
use Rattle.image.proofs.Image.{accepted_valid}
use Rattle.table.specs.declared.Table.{Table}
use Rattle.table.specs.Table.{slots_in, state_in}
use Rattle.turn.specs.Answer.{running_at, running, run_told}
use Rattle.snapshot.specs.Writing.{snapshot_bytes}
use Rattle.monitor.specs.Calls.{call_answer, call_output, rewrite_call, view_bytes, view_call}
use Rattle.monitor.proofs.Calls.{call_refused}

-- ---- loaded

-- what was loaded, with the image's program and turn slot, runs as the image's state in version 2
pub state_loaded : (image program : List ℕ) (table : Table) (s : ℕ) → program ≡ program_of image → s ≡ turn_slot_of image → slots_in table ≡ (state_of image).slots
    → running program s table ≡ with_version 2 (state_of image)
unfolding state_of
state_loaded image program table s e f g = λ i. running_at (e i) (f i) (g i)

-- and so it is valid, which turns rest on
pub loaded_valid : (image : List ℕ) → Bytes image → image_number image ≡ 0 → {s : State} → s ≡ with_version 2 (state_of image) → Valid s
loaded_valid image bytes accepted same = subst Valid (sym same) (valid_as_2 (state_of image) (accepted_valid image bytes accepted))

-- what a run tells of it is what the image's turns come to
pub ran_as : (n : ℕ) (image : List ℕ) {s : State} → s ≡ with_version 2 (state_of image)
    → (run_told n s ≡ run_told n (state_of image)) × ((turns n s).slots ≡ (turns n (state_of image)).slots)
ran_as n image same =
    let as_2 = turns_as_2 n (state_of image) in
    rw same (λ i. record { turn = as_2.1 i; busy = as_2.2 i }, as_2.0)

-- ---- written

module _ (image : List ℕ) (table : Table) where
  -- the table holds the slots of a state with the image's version and program
  snapshot_is : (v : ℕ) (s : State) → s.version ≡ version_of image → s.program ≡ program_of image → slots_in table ≡ s.slots
      → snapshot_bytes table image s.turn_slot v ≡ image_bytes (view v s)
  unfolding snapshot_bytes
  snapshot_is v s version program slots =
      let same : state_in (version_of image) (program_of image) s.turn_slot table ≡ s
      = λ i. record { version = sym version i; program = sym program i; turn_slot = s.turn_slot; slots = slots i } in
      ap (λ (r : State). image_bytes (view v r)) same

  -- loaded, and nothing done
  pub view_written : (v : ℕ) → slots_in table ≡ (state_of image).slots → snapshot_bytes table image (turn_slot_of image) v ≡ view_bytes v image
  unfolding state_of
  view_written v loaded = snapshot_is v (state_of image) refl refl loaded

-- ---- the observer 15 sees everything

-- the table holds a valid state with the image's version and program: its bytes are written
whole_written : (image : List ℕ) (table : Table) (s : State) → Valid s → s.version ≡ version_of image → s.program ≡ program_of image → slots_in table ≡ s.slots
    → snapshot_bytes table image s.turn_slot 15 ≡ image_bytes s
whole_written image table s ok version program slots = snapshot_is image table 15 s version program slots ∙ ap image_bytes (view_15 s ok)

module _ (image : List ℕ) (bytes : Bytes image) where
  module _ (table : Table) (accepted : image_number image ≡ 0) where
    -- n turns done
    pub turns_written : (n : ℕ) → slots_in table ≡ (turns n (state_of image)).slots
        → snapshot_bytes table image (turns n (state_of image)).turn_slot 15 ≡ image_bytes (turns n (state_of image))
    unfolding state_of
    turns_written n ran =
        let s = state_of image in
        whole_written image table (turns n s) (turns_valid n s (accepted_valid image bytes accepted)) (turns_version n s) (turns_program n s) ran

    -- a post done
    pub post_written : (slot label value : ℕ) → label ≤ highest_label → value < 2 ^ 32 → slots_in table ≡ (post slot label value (state_of image)).slots
        → snapshot_bytes table image (turn_slot_of image) 15 ≡ image_bytes (post slot label value (state_of image))
    unfolding state_of post
    post_written slot label value l x posted =
        let s = state_of image in
        whole_written image table (post slot label value s) (post_valid slot label value l x s (accepted_valid image bytes accepted)) refl refl posted

  -- to write the image again is to write its view for 15
  pub view_rewrites : (out : List ℕ)
      → (call_answer (view_call 15 image) out ≡ call_answer (rewrite_call image) out) × (call_output (view_call 15 image) out ≡ call_output (rewrite_call image) out)
  view_rewrites out =
      split (eqb (image_number image) 0)
      (λ e. let same : view_bytes 15 image ≡ image_bytes (state_of image)
      = ap image_bytes (view_15 (state_of image) (accepted_valid image bytes (eqb-true (image_number image) 0 e))) in
      rw same (refl, refl))
      (λ e. let refused = eqb-false (image_number image) 0 e in
      let v = call_refused (view_call 15 image) out refl refl refused refl in
      let w = call_refused (rewrite_call image) out refl refl refused refl in
      (sym v.0 ∙ w.0, sym v.1 ∙ w.1))
