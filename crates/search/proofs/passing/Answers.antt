use mathlib.Core.Path.{refl}
use native.Mathlib.Omega.{arith}
use Rattle.wire.specs.Lists.{each}
use Rattle.planes.proofs.Tests.{failed_none, failed_more, all_passed}
use Rattle.table.specs.Table.{window}
use Rattle.search.proofs.passing.Invariants.{at_plane}
use Rattle.search.proofs.passing.Goals as goal

pub loop-b-init : goal.loop-b-init
loop-b-init g c test told = failed_none (at_plane test (window c.args.table.now.words c.args.slot.number))

pub loop-b-preserved : goal.loop-b-preserved
loop-b-preserved g c test told =
    let h = c.loop-b in
    let a = c.args in
    let fails = told _ h.b c.failing-failed.result c.loop-b-test.true c.failing-failed.ensures in
    failed_more (at_plane test (window a.table.now.words a.slot.number)) h.b h.failed c.failing-failed.result c.loop-b-test.true (h.invariant test told) c.failing-failed.type_inv (rw c.plane.ensures at fails)

pub returns : goal.returns
returns g c test told =
    let h = c.loop-b in
    let a = c.args in
    let test' = at_plane test (window a.table.now.words a.slot.number) in
    all_passed test' (λ i. each 4 (test' i)) h.b h.failed (omega arith) (h.invariant test told) (λ i. refl)
