-- `effect::execute` meets its contract: an arm's operands are within the table, and words are added and subtracted as the machine says.
use Rattle.std.proofs.Common.{ℕ, ◌≡◌, ◌+◌, ◌-◌, ◌%◌, ◌^◌, ◌<◌, rules, arith}
use Rattle.effect.proofs.Effects.{executed_as, add_done, subtract_done, decoded_as, sound}
use Rattle.effect.proofs.execute.Goals as goal

pub gets-requires : goal.gets-requires
gets-requires c = (c.requires.0.goes, (sound (decoded_as c.requires.1 c.in-Set.is)).0)

pub take-requires : goal.take-requires
take-requires c =
    let s = sound (decoded_as c.requires.1 c.in-Take.is) in
    (c.requires.0, s.0, s.1)

pub compute-requires : goal.compute-requires
compute-requires c =
    let s = sound (decoded_as c.requires.1 c.in-Add.is) in
    (c.requires.0.goes, s.0, s.1, s.2, search rules)

pub compute-requires-in-Subtract : goal.compute-requires-in-Subtract
compute-requires-in-Subtract c =
    let s = sound (decoded_as c.requires.1 c.in-Subtract.is) in
    (c.requires.0.goes, s.0, s.1, s.2, search rules)

less : (x y : ℕ) → y < 2 ^ 32 → (x + (2 ^ 32 - y)) % 2 ^ 32 ≡ (x + 2 ^ 32 - y) % 2 ^ 32
less x y h = let same : x + (2 ^ 32 - y) ≡ x + 2 ^ 32 - y = omega arith in rw same

pub returns-in-Add : goal.returns-in-Add
returns-in-Add c =
    executed_as _ _ _ _ _ c.in-Add.is (add_done c.requires.0 _ _ _ _ (c.compute.ensures (λ x y. (x + y) % 2 ^ 32) (λ x y z h l p. search rules)))

pub returns-in-Subtract : goal.returns-in-Subtract
returns-in-Subtract c =
    executed_as _ _ _ _ _ c.in-Subtract.is
    (subtract_done c.requires.0 _ _ _ _ (c.compute-in-Subtract.ensures (λ x y. (x + 2 ^ 32 - y) % 2 ^ 32) (λ x y z h l p. search (rules, less))))
