-- `lookprobe::print_slot` meets its contract: a front of the 32 bytes has no more.
use Rattle.std.proofs.Common.{ℕ, ◌≤◌, ◌≡◌, List, Option, Result, Ok, Err, OnErr, length, take, arith}
use Rattle.std.proofs.Math.ListN.{length-take}
use Rattle.std.specs.Io.KnownBytes.{Appends}
use Rattle.lookprobe.proofs.print_slot.Goals as goal

front : {E : Type 0} (r : Result (Unit {0}) E) (old new : Option (List ℕ)) (xs : List ℕ) → length xs ≡ 32 → OnErr r ((n : ℕ) × Appends old new (take n xs))
    → OnErr r ((bytes : List ℕ) × (length bytes ≤ 32) × Appends old new bytes)
front (Ok u) old new xs long wrote = tt
front (Err e) old new xs long wrote = let l = length-take wrote.0 xs in (take wrote.0 xs, omega (arith, l), wrote.1)

pub returns-clause-failed : goal.returns-clause-failed
returns-clause-failed g c = front c.write_full.result _ _ _ (omega arith) c.write_full.ensures.failed
