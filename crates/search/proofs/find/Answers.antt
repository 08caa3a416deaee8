-- `search::find` meets its contract: the first of the 64 that flows, if it is there, and as many as the set has.
use Prim.Native.Nat.{ℕ, ◌-◌, ◌^◌, ◌≤◌, min}
use mathlib.Core.Path.{◌≡◌, sym, ap, ◌∙◌}
use mathlib.Core.Bool.{Bool, cond}
use native.Mathlib.Omega.{arith}
use lib.Bits.{bit_and}
use lib.Count.{ones, count_trailing_zeros}
use lib.ListN.{length}
use Rattle.wire.specs.Lists.{keep, first_index}
use Rattle.wire.proofs.Lists.{length_nil}
use Rattle.label.specs.Label.{flows}
use Rattle.planes.specs.Planes.{Bits, set_of}
use Rattle.planes.proofs.Sets.{ones_set}
use Rattle.machine.specs.declared.Message.{Message}
use Rattle.machine.specs.Effect.{receivable, find}
use Rattle.table.specs.declared.Table.{Table}
use Rattle.table.specs.Table.{window, message_in, slots_in}
use Rattle.table.specs.Change.{task_at, Used}
use Rattle.search.proofs.Read.{set_read, first_read}
use Rattle.search.proofs.find.Goals as goal

-- those that are there, of the 64 that were looked at
there : (t : Table) (s label x n below : ℕ) → Used s (slots_in t) → Bits (λ i. cond (receivable flows label (message_in (window t.words s) i)) 1 0) x
    → n ≡ length (task_at (slots_in t) s).mailbox → n ≤ 64 → below ≡ 2 ^ n - 1
    → ones (bit_and x below) ≡ length (keep (receivable flows label) (task_at (slots_in t) s).mailbox)
there t s label x n below here right count many mask =
    let ms = (task_at (slots_in t) s).mailbox in
    let p : Message → Bool = receivable flows label in
    let set : bit_and x below ≡ set_of p ms = rw mask (set_read t s here p x n right count many) in
    ap ones set ∙ ones_set p ms

pub returns-then-n-eq0 : goal.returns-then-n-eq0
returns-then-n-eq0 c =
    let a = c.args in
    let ms = (task_at (slots_in a.table.now) a.slot.number).mailbox in
    let empty : length ms ≡ 0 = omega (arith, c.mailbox_length-n.ensures.0) in
    ap (find flows a.label) (sym (length_nil ms empty))

pub returns : goal.returns
unfolding message_in
returns c =
    let a = c.args in
    let n = c.mailbox_length-n in
    let p : Message → Bool = receivable flows a.label in
    let first : first_index p (task_at (slots_in a.table.now) a.slot.number).mailbox ≡ min (count_trailing_zeros 64 c.flowing-passed.result) n.result
    = first_read a.table.now a.slot.number c.requires p c.flowing-passed.result n.result c.flowing-passed.ensures n.ensures.0 n.ensures.1 c.flowing-passed.type_inv in
    let many = there a.table.now a.slot.number a.label c.flowing-passed.result n.result c.below.result c.requires c.flowing-passed.ensures n.ensures.0 n.ensures.1 c.below.ensures in
    rw (c.min.ensures, first, many)
