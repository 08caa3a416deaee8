-- What 02 asks of the count (U3), as claims about `look`, which is the promise of the code; proofs/Claims.antt inhabits each.
use Rattle.std.specs.Prelude.{ℕ, suc, ◌≡◌, true, false, List, ◌∷◌, ◌++◌, length, take}
use Rattle.machine.specs.declared.Message.{Message}
use Rattle.machine.specs.Turn.{of_label, has_room}
use Rattle.search.specs.Look.{look}

-- "Nothing that the send rule says changes."
abbrev pub RoomIsTheSendRules : Type 0
RoomIsTheSendRules = (label : ℕ) (mailbox : List Message) → (look label mailbox).room ≡ has_room label mailbox

-- "it shall look at none behind the fourth of that label": where the fourth is met, every mailbox that begins with the messages that
-- were looked at has the same answer
abbrev pub NoneBehindTheFourth : Type 0
NoneBehindTheFourth =
    (label : ℕ) (mailbox others : List Message) → (look label mailbox).room ≡ false
    → look label (take (look label mailbox).looked mailbox ++ others) ≡ look label mailbox

-- where the nth message of a label stands
pub record Nth (n label : ℕ) (mailbox : List Message) : Type 0 where
  pub ahead : List Message
  pub here : Message
  pub behind : List Message
  pub whole : mailbox ≡ ahead ++ (here ∷ behind)
  pub count : suc (length (of_label label ahead)) ≡ n
  pub of_the_label : here.label ≡ label

abbrev pub Fourth : ℕ → List Message → Type 0
Fourth = Nth 4

-- "tell how many it looked at: up to the fourth, that one included, or the whole mailbox where fewer are there"
pub record TellsHowMany : Type 0 where
  pub up_to_fourth : (label : ℕ) (mailbox : List Message) (f : Fourth label mailbox) → (look label mailbox).looked ≡ suc (length f.ahead)
  pub fourth : (label : ℕ) (mailbox : List Message) → has_room label mailbox ≡ false → Fourth label mailbox
  pub whole_mailbox : (label : ℕ) (mailbox : List Message) → has_room label mailbox ≡ true → (look label mailbox).looked ≡ length mailbox
