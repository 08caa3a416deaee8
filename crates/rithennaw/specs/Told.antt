-- What a C function tells and writes of a call.
use Rattle.std.specs.Prelude.{ℕ, ◌≡◌, List}
use Rattle.wire.specs.Lists.{Bytes}
use Rattle.monitor.specs.Calls.{Call, call_answer, call_output}

-- the call's number and length, its output afterwards, and that what it read is bytes: of an image with number 0 that makes an
-- accepted one
abbrev pub Told : List ℕ → Call → List ℕ → ℕ → ℕ → List ℕ → Type 0
Told input c out number length after =
    (number ≡ (call_answer c out).number) × (length ≡ (call_answer c out).length) × (after ≡ call_output c out) × Bytes input
