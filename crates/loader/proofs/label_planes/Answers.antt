use Prim.Native.Nat.{ℕ, ◌+◌, ◌*◌, ◌-◌}
use mathlib.Core.Path.{◌≡◌, ap, ◌∙◌}
use native.Mathlib.Omega.{arith}
use lib.ListN.{get_or, drop}
use Rattle.planes.specs.Planes.{ahead, planes_of}
use Rattle.planes.proofs.Gathered.{planes_fit}
use Rattle.loader.specs.Loading.{labels_of}
use Rattle.loader.proofs.Loading.{labels_none, labels_next, labels_left}
use Rattle.loader.proofs.label_planes.Goals as goal

pub loop-i-init : goal.loop-i-init
loop-i-init c = c.none-gathered.ensures ∙ labels_none c.args.mailbox.now

pub ahead-gathered-requires : goal.ahead-gathered-requires
ahead-gathered-requires c =
    let h = c.loop-i in
    let m = c.args.mailbox.now in
    rw h.invariant (planes_fit 63 (drop h.i (labels_of m)) (labels_left m h.i 63 (omega (arith, c.requires))))

pub loop-i-preserved : goal.loop-i-preserved
loop-i-preserved c =
    let h = c.loop-i in
    let m = c.args.mailbox.now in
    let i = h.i - 1 in
    let behind : h.i ≡ i + 1 = omega arith in
    c.ahead-gathered.ensures
    ∙ ap (ahead (get_or m (6 * i) 0)) (h.invariant ∙ ap (λ (k : ℕ). planes_of (drop k (labels_of m))) behind) ∙ labels_next m i (omega arith)

pub returns : goal.returns
returns c = let e : c.loop-i.i ≡ 0 = omega arith in rw e at c.loop-i.invariant
