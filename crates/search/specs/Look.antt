-- The count of one label's messages, which decides whether a message is dropped, and how many messages it looks at (02, U3).
use Rattle.std.specs.Prelude.{ℕ, zero, suc, false, cond, List, [], ◌∷◌, eqb, ltb}
use Rattle.machine.specs.Limits.{limit_per_label}
use Rattle.machine.specs.declared.Message.{Message}
use Rattle.search.specs.declared.Looked.{Looked}

-- one message more was looked at
abbrev pub one_more : Looked → Looked
one_more r = record { room = r.room; looked = suc r.looked }

-- n more of the label are looked for, from the oldest message on; there is room where the mailbox ends first
unfoldable pub look_for : ℕ → List Message → ℕ → Looked
look_for label [] n = record { room = ltb 0 n; looked = 0 }
look_for label (m ∷ ms) zero = record { room = false; looked = 0 }
look_for label (m ∷ ms) (suc n) = one_more (look_for label ms (cond (eqb m.label label) n (suc n)))

-- whether a mailbox has room for a message of the label, and how many of its messages are looked at
abbrev pub look : ℕ → List Message → Looked
look label ms = look_for label ms limit_per_label
