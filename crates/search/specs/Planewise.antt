-- A test of messages that is made plane by plane.
use Rattle.std.specs.Prelude.{ℕ, ◌<◌, Bool, cond}
use Rattle.label.specs.Label.{bit}
use Rattle.planes.specs.Planes.{Bits}

-- what is told of a plane and its number, below four, are the messages whose bit there fails the test
abbrev pub Tells : (ℕ → ℕ → Bool) → (ℕ → ℕ → ℕ → Type 0) → Type 0
Tells test told = (plane b x : ℕ) → b < 4 → told plane b x → Bits (λ i. cond (test (bit i plane) b) 0 1) x
