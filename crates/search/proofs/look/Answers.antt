use mathlib.Core.Path.{sym}
use native.Mathlib.Omega.{arith}
use Rattle.table.specs.Table.{slots_in}
use Rattle.table.specs.Change.{task_at}
use Rattle.search.proofs.Counting.{look_few, going_first, going_next, going_none, going_some}
use Rattle.search.proofs.look.Goals as goal

pub returns-then-n-lt-LIMIT_PER_LABEL : goal.returns-then-n-lt-LIMIT_PER_LABEL
returns-then-n-lt-LIMIT_PER_LABEL c =
    let a = c.args in
    let n = c.mailbox_length-n in
    rw n.ensures.0 (sym (look_few a.label (task_at (slots_in a.table.now) a.slot.number).mailbox 4 (omega (arith, n.ensures.0))))

pub loop-nth-init : goal.loop-nth-init
loop-nth-init c =
    let n = c.mailbox_length-n in
    let a = c.args in
    going_first a.label (task_at (slots_in a.table.now) a.slot.number).mailbox n.result c.of_label-left.result n.ensures.0 c.of_label-left.ensures

pub loop-nth-preserved : goal.loop-nth-preserved
loop-nth-preserved c = let h = c.loop-nth in rw c.rest-left.ensures (going_next _ _ _ h.left h._nth (omega arith) h.invariant)

pub returns-then-left-eq0 : goal.returns-then-left-eq0
returns-then-left-eq0 c = let h = c.loop-nth in going_none _ _ _ h.left h._nth (omega arith) h.invariant c.if-left-eq0.true

pub returns-else-left-eq0 : goal.returns-else-left-eq0
returns-else-left-eq0 c =
    let h = c.loop-nth in
    let n = c.mailbox_length-n in
    going_some _ _ _ h.left h._nth (omega arith) h.invariant n.ensures.1 c.if-left-eq0.false
