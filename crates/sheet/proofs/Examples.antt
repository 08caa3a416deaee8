-- What the program prints, each row by computation.
use mathlib.Core.Path.{refl}
use Rattle.wire.specs.Lists as Lists
use Rattle.wire.specs.Items as Items
use Rattle.wire.specs.Fields as Fields
use Rattle.label.specs.Label as Label
use Rattle.instruction.specs.Table as Table
use Rattle.instruction.specs.Program as Program
use Rattle.machine.specs.Effect as Effect
use Rattle.machine.specs.Turn as Turn
use Rattle.machine.specs.View as View
use Rattle.machine.specs.Valid as Valid
use Rattle.image.specs.Format as Format
use Rattle.image.specs.Image as Image
use Rattle.image.specs.Refusal as Refusal
use Rattle.text.specs.Text as Text
use Rattle.sheet.specs.Sheet as Sheet
use Rattle.sheet.specs.Claims.{Prints}
use Rattle.sheet.proofs.Printed.{printed_long}

pub prints : Prints
unfolding Lists.each Lists.tabulate Label.is_subset Table.decode Program.instruction_at Effect.execute Effect.outcome Turn.turn_by
    Turn.turns_by View.view_by Refusal.instructions_number Lists.all Items.decode_items Items.encode_items Fields.decode_fields Fields.encode_fields Format.task_size Image.version_of Image.front Image.slots_part Refusal.version_number
    Valid.is_program_length Refusal.program_number Refusal.turn_slot_number Image.record_length Image.skip Image.slots_of
    Refusal.is_record_length Refusal.length_number Refusal.slot_number Refusal.slots_number Refusal.tail_number Valid.spares_unused
    Refusal.estate_number Refusal.image_number Image.state_of Image.ahead_bytes Image.image_bytes
    Text.ascii Text.digits Text.decimal Text.spaced Text.line_rest
    Sheet.heading Sheet.slot_line Sheet.slot_lines Sheet.sheet_text Sheet.refusal_line Sheet.printed
prints = record {
  p2 = refl;
  empty = refl;
  observer = refl;
  longer = λ input h. printed_long input h;
}
