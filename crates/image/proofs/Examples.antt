-- The example images, each row by computation.
use mathlib.Core.Path.{refl}
use Rattle.wire.specs.Lists as Lists
use Rattle.wire.specs.Items as Items
use Rattle.wire.specs.Fields as Fields
use Rattle.label.specs.Label as Label
use Rattle.instruction.specs.Table as Table
use Rattle.instruction.specs.Program as Program
use Rattle.machine.specs.Valid as Valid
use Rattle.image.specs.Format as Format
use Rattle.image.specs.Image as Image
use Rattle.image.specs.Refusal as Refusal
use Rattle.image.specs.Examples.{Examples}

pub examples : Examples
unfolding Lists.each Lists.all Table.decode Program.instruction_at Refusal.instructions_number Items.decode_items
    Items.encode_items Fields.decode_fields Fields.encode_fields Label.is_subset Format.task_size Image.version_of Image.front Image.slots_part
    Refusal.version_number Valid.is_program_length Refusal.program_number Refusal.turn_slot_number Image.record_length
    Image.skip Image.slots_of Refusal.is_record_length Refusal.length_number Refusal.slot_number Refusal.slots_number Refusal.tail_number
    Valid.spares_unused Refusal.estate_number Refusal.image_number Image.state_of Image.ahead_bytes Image.image_bytes
examples = record {
  shortest = (refl, refl);
  longest = (refl, refl);
  longest_of1 = (refl, refl);
  short = refl;
  version = (refl, refl);
  program_length = refl;
  instruction = refl;
  turn_slot = refl;
  record_length = refl;
  tail = refl;
  too_long = (refl, refl);
  mail = (refl, refl);
  spare = (refl, refl);
  estate = (refl, refl);
  whole = (refl, refl);
  slots = (refl, refl, refl);
  order = refl;
  layout = (refl, refl);
  clearance = (refl, refl, refl);
  kind6 = (refl, refl, refl);
  exchanged = (refl, refl);
  read_as15 = refl;
  written_as1 = refl;
  call = (refl, refl, refl);
}
