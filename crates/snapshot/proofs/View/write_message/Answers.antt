-- `snapshot::View::write_message` meets its contract: six bytes, or none of a message that is left out.
use mathlib.Core.Path.{◌≡◌, refl, sym, ap, ◌∙◌}
use native.Mathlib.Omega.{arith}
use Rattle.wire.specs.Output.{overwrite}
use Rattle.machine.specs.declared.Message.{Message}
use Rattle.image.specs.Record.{message_bytes}
use Rattle.image.proofs.Records.{length_message}
use Rattle.table.specs.Table.{slots_in}
use Rattle.table.specs.Change.{message_at}
use Rattle.snapshot.proofs.Writing.{message_shown, message_length, message_hidden}
use Rattle.snapshot.proofs.View.write_message.Goals as goal

pub returns-then-flows : goal.returns-then-flows
returns-then-flows c =
    let message : Message = message_at (slots_in c.args.self.now.table.now) c.args.slot.number c.args.i in
    let m : Message = record {
      label = c.message_label-label.result;
      sender = c.message_sender.result;
      value = c.message_value.result;
    } in
    let e : m ≡ message
    = λ i. record {
      label = c.message_label-label.ensures i;
      sender = c.message_sender.ensures i;
      value = c.message_value.ensures i;
    } in
    rw (message_shown c.args.self.now.observer message c.message_label-label.ensures c.flows.ensures c.if-flows.true)
    (sym (length_message message), omega arith, c.put_message.ensures ∙ ap (λ (m : Message). overwrite (message_bytes m) c.args.out.now) e)

pub returns-else-flows : goal.returns-else-flows
returns-else-flows c =
    let message : Message = message_at (slots_in c.args.self.now.table.now) c.args.slot.number c.args.i in
    rw (message_hidden c.args.self.now.observer message c.message_label-label.ensures c.flows.ensures c.if-flows.false)
    (refl, omega arith, refl)

pub put_message-requires : goal.put_message-requires
put_message-requires c =
    let message : Message = message_at (slots_in c.args.self.now.table.now) c.args.slot.number c.args.i in
    omega (arith, c.requires.1, message_length c.args.self.now.observer message c.message_label-label.ensures c.flows.ensures c.if-flows.true)
