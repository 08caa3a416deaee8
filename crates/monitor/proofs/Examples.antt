-- The checked examples, each row by computation.
use mathlib.Core.Path.{refl}
use Rattle.wire.specs.Lists as Lists
use Rattle.wire.specs.Items as Items
use Rattle.wire.specs.Fields as Fields
use Rattle.label.specs.Label as Label
use Rattle.instruction.specs.Table as Table
use Rattle.instruction.specs.Program as Program
use Rattle.machine.specs.Effect as Effect
use Rattle.machine.specs.Turn as Turn
use Rattle.machine.specs.Post as Post
use Rattle.machine.specs.View as View
use Rattle.machine.specs.Valid as Valid
use Rattle.image.specs.Format as Format
use Rattle.image.specs.Image as Image
use Rattle.image.specs.Refusal as Refusal
use Rattle.monitor.specs.Calls as Calls
use Rattle.monitor.specs.Examples.{Examples}

pub examples : Examples
unfolding Lists.each Label.is_subset Table.decode Program.instruction_at Effect.execute Effect.outcome Turn.turn_by
    Turn.turns_by Turn.busy_by Post.post View.view_by Refusal.instructions_number Lists.all Items.decode_items Items.encode_items Fields.decode_fields Fields.encode_fields Format.task_size Image.version_of Image.front Image.slots_part Refusal.version_number
    Valid.is_program_length Refusal.program_number Refusal.turn_slot_number Image.record_length Image.skip Image.slots_of
    Refusal.is_record_length Refusal.length_number Refusal.slot_number Refusal.slots_number Refusal.tail_number Valid.spares_unused
    Refusal.estate_number Refusal.image_number Image.state_of Image.ahead_bytes Image.image_bytes Calls.call_number Calls.call_answer
examples = record {
  p1 = (refl, refl);
  p2 = (refl, refl);
  p3 = (refl, refl);
  p4 = refl;
  p5 = (refl, refl);
  p6 = refl;
  p7 = (refl, refl);
  p8 = refl;
  p9 = (refl, refl);
  delivery = (refl, refl, refl, refl, refl, refl, refl, refl, refl);
  taken = refl;
  counted = (refl, refl, refl);
  ceiling = (refl, refl, refl);
  inherits = refl;
  ahead = (refl, record { desk = refl; run = refl }, record { desk = refl; run = refl });
  risen = (refl, refl);
  common = (refl, refl);
  post_order = (refl, refl, refl, refl);
  posts = (refl, refl);
  free = record { turns = refl; posts = refl };
  late = refl;
  reordered = (refl, refl);
  order = (refl, refl, refl, refl);
  hidden = (refl, refl, refl, refl);
}
