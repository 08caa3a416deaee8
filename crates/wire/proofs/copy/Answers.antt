use Prim.Native.Nat.{ℕ}
use mathlib.Core.Path.{◌≡◌, refl, sym, ap, ◌∙◌}
use mathlib.Core.List.{List}
use native.Mathlib.Omega.{arith}
use lib.ListN.{length, get_or, set, length-set}
use lib.Seq.{take-length}
use Rattle.wire.proofs.Output.{written_fits, written_short, copy_next}
use Rattle.wire.proofs.copy.Goals as goal

pub loop-i-preserved : goal.loop-i-preserved
loop-i-preserved c =
    let a = c.args in
    let h = c.loop-i in
    let e = ap (λ (o : List ℕ). set o h.i (get_or a.source.now h.i 0)) h.invariant.1 in
    (simp length-set (omega arith), e ∙ copy_next a.source.now a.out.now h.i 0 (omega arith) (omega arith))

pub returns-after-loop-i : goal.returns-after-loop-i
returns-after-loop-i c =
    let a = c.args in
    let e : c.loop-i.i ≡ length a.source.now = omega arith in
    c.loop-i.invariant.1 ∙ rw (e, take-length) (sym (written_fits a.source.now a.out.now (omega arith)))

pub returns-else-n-out : goal.returns-else-n-out
returns-else-n-out c = let a = c.args in sym (written_short a.source.now a.out.now (omega arith))

pub loop-i-init : goal.loop-i-init
loop-i-init c = (refl, refl)
