-- The checked examples that 01 marks P, and rows for posts (02, U1), counts (U4), clearances (U5), desks (U6) and the secrecy rule, as
-- one claim about the definitions.
use Rattle.std.specs.Prelude.{ℕ, ◌+◌, ◌≡◌, true, false, List, [], ◌∷◌, ◌++◌, length, set, replicate}
use Rattle.label.specs.Label.{flows}
use Rattle.machine.specs.declared.Message.{Message}
use Rattle.machine.specs.State.{Task, Slot, unused, used, State, with_kind, with_label, with_spare, with_register, with_mailbox, next}
use Rattle.machine.specs.Post.{post, delivered}
use Rattle.machine.specs.Machine.{turns, busy, view}
use Rattle.image.specs.Format.{task_size}
use Rattle.image.specs.Image.{image_bytes}
use Rattle.image.specs.Refusal.{image_number}
use Rattle.image.specs.Examples.{cleared, task, message, one, two}
use Rattle.monitor.specs.Calls.{call_answer, rewrite_call, turns_call, post_call, view_bytes, view_call}
use Rattle.monitor.specs.CallList.{Request, ask_turns, ask_post, HostCall, VisiblePost, visible_posts, Agree}

abbrev pub state_of_version : ℕ → List ℕ → ℕ → List Slot → State
state_of_version v program turn_slot slots = record { version = v; program = program; turn_slot = turn_slot; slots = slots }

abbrev pub state : List ℕ → ℕ → List Slot → State
state = state_of_version 1

-- ---- B: 08 01 00 02, 00 00 00 00, 09 03 04 00, 00 00 00 00; the send's label is left open

abbrev pub program : ℕ → List ℕ
program label = 0x08 ∷ 1 ∷ label ∷ 2 ∷ 0 ∷ 0 ∷ 0 ∷ 0 ∷ 0x09 ∷ 3 ∷ 4 ∷ 0 ∷ 0 ∷ 0 ∷ 0 ∷ 0 ∷ []

-- slot 0, with its label left open, and slot 5
abbrev pub sender : ℕ → Task
sender label = with_register 2 700 (with_register 1 5 (task label 0 0))

abbrev pub receiver : Task
receiver = task 0 0 2

-- B with slot 0's label, the send's label and the task in slot 5
abbrev pub b : ℕ → ℕ → Task → State
b label sent t = state (program sent) 0 (two 0 (sender label) 5 t)

-- the image of B with this in slot 9
abbrev pub b_image : Slot → List ℕ
b_image x = image_bytes (state (program 0) 0 (set (two 0 (sender 0) 5 receiver) 9 x))

-- B with this send's label once slot 0 has sent: the turn slot, and the task in slot 5
abbrev pub after : ℕ → ℕ → Task → State
after sent turn_slot t = state (program sent) turn_slot (two 0 (next (sender 0)) 5 t)

-- the receiver with what slot 0 sent, and with four messages of label 2 and more behind them
abbrev pub with700 : ℕ → Task
with700 label = with_mailbox (message label 0 700 ∷ []) receiver

abbrev pub waiting : List Message → Task
waiting more = with_mailbox (replicate 4 (message 2 1 7) ++ more) receiver

-- the receiver once it has taken 9 from the host
abbrev pub took_post : Task
took_post = next (with_register 4 16 (with_register 3 9 receiver))

-- ---- a sandbox of size n: the child starts at place 0, and its slot goes to register 0

abbrev pub sandbox : ℕ → List ℕ
sandbox n = 0x0B ∷ 0 ∷ 0 ∷ n ∷ []

abbrev pub parent : Task
parent = task 0 4 0

abbrev pub before : ℕ → State
before n = state (sandbox n) 3 (one 3 parent)

-- the parent of a child in slot s, with the spare that is left to it
abbrev pub parent_of : ℕ → ℕ → Task
parent_of s spare = next (with_register 0 s (with_spare spare parent))

-- register 0 gets register 0 less register 1
abbrev pub subtract : List ℕ
subtract = 0x04 ∷ 0 ∷ 0 ∷ 1 ∷ []

-- ---- posts

-- a call that told this number, with only that filled in which `visible_posts` looks at
abbrev pub told : ℕ → Request → HostCall
told number r = record { request = r; out = []; told = record { number = number; length = 0; busy = 0 }; after = [] }

abbrev pub accepted : Request → HostCall
accepted = told 0

-- two lists with a post of label 0 after 3 turns, which differ in hidden posts and in a refused one
abbrev pub first_list : List HostCall
first_list = accepted (ask_turns 3) ∷ accepted (ask_post 5 1 7) ∷ accepted (ask_post 5 0 9) ∷ []

abbrev pub second_list : List HostCall
second_list = accepted (ask_post 4 8 8) ∷ accepted (ask_turns 3) ∷ told 13 (ask_post 5 0 6) ∷ accepted (ask_post 5 0 9) ∷ []

-- the visible post of this value to slot 5, with label 0, after so many turns
abbrev pub visible : ℕ → ℕ → VisiblePost
visible turns_before value = record { turns_before = turns_before; slot = 5; label = 0; value = value }

-- ---- counts: register 3 gets the number

abbrev pub counting : List ℕ
counting = 0x0D ∷ 3 ∷ 0 ∷ 0 ∷ []

-- a task of this label with messages of labels 2, 0 and 2
abbrev pub backlog : ℕ → Task
backlog label = with_mailbox (message 2 1 7 ∷ message 0 1 7 ∷ message 2 1 7 ∷ []) (task label 0 0)

-- ---- clearances: a raise with this label, in version 2, by a task in slot 0 with label 1

abbrev pub raising : ℕ → List ℕ
raising label = 0x07 ∷ label ∷ 0 ∷ 0 ∷ []

abbrev pub with_raise : ℕ → ℕ → Task → State
with_raise label turn_slot t = state_of_version 2 (raising label) turn_slot (one 0 t)

-- a task with label 1, this clearance and this spare
abbrev pub helper : ℕ → ℕ → Task
helper clearance spare = cleared 1 clearance spare 0

-- ---- desks: B in version v, with slot 0 hidden from observer 0 and two posts in slot 5, the second of them hidden

abbrev pub posted : Task
posted = with_mailbox (message 0 16 9 ∷ message 2 16 8 ∷ []) receiver

abbrev pub host_state : ℕ → State
host_state v = state_of_version v (program 0) 0 (two 0 (sender 1) 5 posted)

-- what is left for the desk: this turn slot, and the task in slot 5
abbrev pub desk_state : ℕ → ℕ → Task → State
desk_state v turn_slot t = state_of_version v (program 0) turn_slot (one 5 t)

-- a task in slot 0 with these messages, one of label 2 in slot 1 that is done, and this in slot 2
abbrev pub mixed : List Message → Slot → State
mixed ms hidden = state counting 0 (set (two 0 (with_mailbox ms (task 0 0 0)) 1 (with_kind 2 (with_register 1 7 (task 2 0 1)))) 2 hidden)

-- the same with posts of labels 1, 2 and 4, and a task of label 4
abbrev pub whole : State
whole = mixed (message 1 16 7 ∷ message 2 16 8 ∷ message 4 16 9 ∷ []) (used (task 4 0 0))

-- the view of an observer, 6 turns on, worked out from the view, is this one, and so is that of the host's run
pub record RunsTo (v : ℕ) (s end : State) : Type 0 where
  pub desk : view v (turns 6 (view v s)) ≡ end
  pub run : view v (turns 6 s) ≡ end

-- ---- the rows

pub record Examples : Type 0 where
  -- P1: label 5 flows to 7. Label 5 doesn't flow to 6.
  pub p1 : (flows 5 7 ≡ true) × (flows 5 6 ≡ false)
  -- P2: B after 1 turn: slot 0 place 1, slot 5 has (label 0, sender 0, value 700), busy 1.
  pub p2 : (turns 1 (b 0 0 receiver) ≡ after 0 1 (with700 0)) × (busy 1 (b 0 0 receiver) ≡ 1)
  -- P3: B after 6 turns: register 3 of slot 5 is 700, register 4 is 0, place 3, no mail, turn slot 6, busy 2.
  pub p3 : (turns 6 (b 0 0 receiver) ≡ after 0 6 (next (with_register 4 0 (with_register 3 700 receiver)))) × (busy 6 (b 0 0 receiver) ≡ 2)
  -- P4: B with slot 0 at label 1: after 1 turn kind 4, no mail.
  pub p4 : turns 1 (b 1 0 receiver) ≡ state (program 0) 1 (two 0 (with_kind 4 (sender 1)) 5 receiver)
  -- P5: B with the send's label 2: after 6 turns slot 5 is at place 2 with one message; its view for 0 has none.
  pub p5 : (turns 6 (b 0 2 receiver) ≡ after 2 6 (with700 2)) × (view 0 (turns 6 (b 0 2 receiver)) ≡ after 2 6 receiver)
  -- P6: slot 3, spare 4, size 3: child in slot 5 with spare 2, parent spare 1.
  pub p6 : turns 1 (before 3) ≡ state (sandbox 3) 4 (two 3 (parent_of 5 1) 5 (with_register 0 3 (task 0 2 0)))
  -- P7: the same with size 4: child in slot 4, spare 3, parent spare 0. Size 5: kind 5.
  pub p7 : (turns 1 (before 4) ≡ state (sandbox 4) 4 (two 3 (parent_of 4 0) 4 (with_register 0 3 (task 0 3 0))))
      × (turns 1 (before 5) ≡ state (sandbox 5) 4 (one 3 (with_kind 5 parent)))
  -- P8: 0 − 1 gives 4,294,967,295.
  pub p8 : turns 1 (state subtract 0 (one 0 (with_register 1 1 (task 0 0 0))))
      ≡ state subtract 1 (one 0 (next (with_register 0 4294967295 (with_register 1 1 (task 0 0 0)))))
  -- P9: four waiting messages of label 2, a fifth of label 2 dropped, one of label 0 kept.
  pub p9 : (turns 1 (b 0 2 (waiting [])) ≡ after 2 1 (waiting []))
      × (turns 1 (b 0 0 (waiting [])) ≡ after 0 1 (waiting (message 0 0 700 ∷ [])))
  -- U1: a post to slot 5 of B comes from sender 16 and is delivered, also with a label that its task cannot receive; a fifth of its
  -- label is dropped, and so is one to a task that has stopped or to an unused slot
  pub delivery : (post 5 0 9 (b 0 0 receiver) ≡ b 0 0 (with_mailbox (message 0 16 9 ∷ []) receiver))
      × (delivered 5 0 9 (b 0 0 receiver) ≡ true)
      × (delivered 5 8 9 (b 0 0 receiver) ≡ true)
      × (post 5 2 9 (b 0 0 (waiting [])) ≡ b 0 0 (waiting []))
      × (delivered 5 2 9 (b 0 0 (waiting [])) ≡ false)
      × (delivered 5 0 9 (b 0 0 (waiting [])) ≡ true)
      × (post 5 0 9 (b 0 0 (with_kind 2 receiver)) ≡ b 0 0 (with_kind 2 receiver))
      × (delivered 5 0 9 (b 0 0 (with_kind 2 receiver)) ≡ false)
      × (delivered 6 0 9 (b 0 0 receiver) ≡ false)
  -- register 3 gets a post's value and register 4 its sender, 16
  pub taken : turns 6 (post 5 0 9 (b 1 0 receiver))
      ≡ state (program 0) 6 (two 0 (with_kind 4 (sender 1)) 5 (next (with_register 4 16 (with_register 3 9 receiver))))
  -- U4: at label 0 one of the three is receivable, at label 2 all are, of no messages none; none goes
  pub counted : (turns 1 (state counting 0 (one 0 (backlog 0))) ≡ state counting 1 (one 0 (next (with_register 3 1 (backlog 0)))))
      × (turns 1 (state counting 0 (one 0 (backlog 2))) ≡ state counting 1 (one 0 (next (with_register 3 3 (backlog 2)))))
      × (turns 1 (state counting 0 (one 0 (with_register 3 9 (task 0 0 0)))) ≡ state counting 1 (one 0 (next (with_register 3 0 (task 0 0 0)))))
  -- U5: "A raise that would leave it stops the task with kind 6, changing nothing else; like kinds 2 to 5, kind 6 never runs again": 2 is
  -- outside the clearance 5, and 4 is in it; 16 turns on, slot 0 has had another turn
  pub ceiling : (turns 1 (with_raise 2 0 (helper 5 0)) ≡ with_raise 2 1 (with_kind 6 (helper 5 0)))
      × (turns 17 (with_raise 2 0 (helper 5 0)) ≡ with_raise 2 1 (with_kind 6 (helper 5 0)))
      × (turns 1 (with_raise 4 0 (helper 5 0)) ≡ with_raise 4 1 (next (with_label 5 (helper 5 0))))
  -- "A child inherits the clearance."
  pub inherits : turns 1 (state_of_version 2 (sandbox 2) 0 (one 0 (helper 5 2)))
      ≡ state_of_version 2 (sandbox 2) 1 (two 0 (next (with_register 0 1 (with_spare 0 (helper 5 2)))) 1 (helper 5 1))
  -- U6: a view has what the host posted with a label that flows to it, sender 16 included, and six turns of it show what six turns of
  -- the image do, in both versions: slot 5 takes the post
  pub ahead : (view 0 (host_state 1) ≡ desk_state 1 0 (with_mailbox (message 0 16 9 ∷ []) receiver))
      × RunsTo 0 (host_state 1) (desk_state 1 6 took_post)
      × RunsTo 0 (host_state 2) (desk_state 2 6 took_post)
  -- the view is taken again: a task that rises above observer 1 stays on the desk, where it is no matter what becomes of it
  pub risen : (turns 1 (view 1 (with_raise 4 0 (helper 5 0))) ≡ with_raise 4 1 (next (with_label 5 (helper 5 0))))
      × (view 1 (turns 1 (with_raise 4 0 (helper 5 0))) ≡ state_of_version 2 (raising 4) 1 (replicate 16 unused))
  -- "the bits common to both": 3 and 6 have 2 in common, so the message of label 2 and the task of label 2, although it has stopped, are
  -- left, and the task of label 4 is not
  pub common : (view 6 (view 3 whole) ≡ mixed (message 2 16 8 ∷ []) unused) × (view 2 whole ≡ mixed (message 2 16 8 ∷ []) unused)
  -- "It refuses a slot above 15 with 14 and then a label above 15 with 15, both before the image is read."
  pub post_order : ((call_answer (post_call 16 16 0 []) []).number ≡ 14)
      × ((call_answer (post_call 15 16 0 []) []).number ≡ 15)
      × ((call_answer (post_call 15 15 0 []) []).number ≡ 3)
      × ((call_answer (post_call 15 15 0 (b_image unused)) []).number ≡ 13)
  -- "the accepted posts whose label flows to the observer agree in both lists, each after the same number of turns and in the same
  -- order [..]; other posts are free": what observer 0 may know of the two lists, which is all that the rule asks of them
  pub posts : (visible_posts 0 first_list ≡ visible 3 9 ∷ []) × (visible_posts 0 second_list ≡ visible 3 9 ∷ [])
  pub free : Agree 0 first_list second_list
  -- one turn late, the refused turns not counted, is another list, and so is the other order
  pub late : visible_posts 0 (accepted (ask_turns 3) ∷ told 2 (ask_turns 1000001) ∷ accepted (ask_turns 1) ∷ accepted (ask_post 5 0 9) ∷ []) ≡ visible 4 9 ∷ []
  pub reordered : (visible_posts 0 (accepted (ask_post 5 0 8) ∷ accepted (ask_post 5 0 9) ∷ []) ≡ visible 0 8 ∷ visible 0 9 ∷ [])
      × (visible_posts 0 (accepted (ask_post 5 0 9) ∷ accepted (ask_post 5 0 8) ∷ []) ≡ visible 0 9 ∷ visible 0 8 ∷ [])
  -- "Order: 1 or 2 first, each only in the call that has that argument. Then the image from front to back [..] 13." "1,000,001
  -- refused with 2."
  pub order : ((call_answer (view_call 16 []) []).number ≡ 1)
      × ((call_answer (turns_call 1000001 []) []).number ≡ 2)
      × ((call_answer (rewrite_call []) []).number ≡ 3)
      × ((call_answer (rewrite_call (b_image unused)) []).number ≡ 13)
  -- The secrecy rule speaks of images that differ: B with and without a task of label 1 in slot 9 shows observer 0 the same.
  pub hidden : (image_number (b_image (used (task 1 0 0))) ≡ 0) × (image_number (b_image unused) ≡ 0)
      × (view_bytes 0 (b_image (used (task 1 0 0))) ≡ view_bytes 0 (b_image unused))
      × (length (b_image (used (task 1 0 0))) ≡ task_size 1 + length (b_image unused))
