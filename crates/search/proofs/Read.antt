-- Laws of words whose bits are a test of the messages in a slot: the set of those that are there, and the first of them; how many
-- are receivable at most.
use Prim.Native.Nat.{ℕ, ◌-◌, ◌^◌, ◌<◌, ◌≤◌, min}
use mathlib.Core.Path.{◌≡◌, sym, ap, ◌∙◌}
use mathlib.Core.Bool.{Bool, cond}
use mathlib.Core.List.{List}
use native.Mathlib.Nat.{mod-eq_of_lt}
use native.Mathlib.Omega.{arith}
use lib.Bits.{bit_and, and_mask}
use lib.Count.{count_trailing_zeros}
use lib.ListN.{length}
use Rattle.wire.specs.Lists.{tabulate, first_index}
use Rattle.wire.proofs.Tabulate.{length_tabulate, take_tabulate}
use Rattle.label.specs.Label.{flows}
use Rattle.planes.specs.Planes.{Bits, set_of}
use Rattle.planes.proofs.Sets.{set_of_bits, first_set, first_take}
use Rattle.machine.specs.declared.Message.{Message}
use Rattle.machine.specs.Effect.{find}
use Rattle.machine.proofs.Search.{find_most}
use Rattle.table.specs.declared.Table.{Table}
use Rattle.table.specs.Table.{mailbox_room, window, message_in, slots_in}
use Rattle.table.specs.Change.{task_at, Used}
use Rattle.table.proofs.Slots.{mailbox_is, mailbox_read, mailbox_most}

module _ (t : Table) (s : ℕ) (here : Used s (slots_in t)) where
  abbrev w : List ℕ
  w = window t.words s

  abbrev mailbox : List Message
  mailbox = (task_at (slots_in t) s).mailbox

  pub receivable_most : (l : ℕ) → (find flows l mailbox).receivable ≤ mailbox_room
  receivable_most l = omega (arith, find_most flows l mailbox, mailbox_most t.words s here)

  module _ (p : Message → Bool) (x n : ℕ) (right : Bits (λ i. cond (p (message_in w i)) 1 0) x) (count : n ≡ length mailbox) (many : n ≤ 64) where
    first_n : tabulate n (message_in w) ≡ mailbox
    first_n = ap (λ (k : ℕ). tabulate k (message_in w)) (count ∙ sym (mailbox_read t.words s here)) ∙ sym (mailbox_is t.words s here)

    -- of the 64, the first n
    pub set_read : bit_and x (2 ^ n - 1) ≡ set_of p mailbox
    set_read = and_mask x n ∙ set_of_bits p n (message_in w) x (λ i h. right i (omega arith)) ∙ ap (set_of p) first_n

    pub first_read : x < 2 ^ 64 → first_index p mailbox ≡ min (count_trailing_zeros 64 x) n
    first_read fits =
        let all = tabulate 64 (message_in w) in
        let long : length all ≡ 64 = length_tabulate 64 (message_in w) in
        let whole : x ≡ set_of p all = sym (mod-eq_of_lt fits) ∙ set_of_bits p 64 (message_in w) x right in
        let first : count_trailing_zeros 64 x ≡ first_index p all = ap (count_trailing_zeros 64) whole ∙ ap (λ (k : ℕ). count_trailing_zeros k (set_of p all)) (sym long) ∙ first_set p all in
        ap (first_index p) (sym first_n ∙ sym (take_tabulate n 64 (message_in w) many)) ∙ first_take p n all (rw long many) ∙ ap (λ (k : ℕ). min k n) (sym first)
