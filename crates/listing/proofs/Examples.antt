-- The rows of specs/Examples.antt, each by computation.
use mathlib.Core.Path.{refl}
use Rattle.wire.specs.Lists as Lists
use Rattle.wire.specs.Items as Items
use Rattle.text.specs.Text as Text
use Rattle.instruction.specs.Table as Table
use Rattle.instruction.specs.Program as Program
use Rattle.word.specs.Word as Word
use Rattle.machine.specs.Valid as Valid
use Rattle.image.specs.Refusal as Refusal
use Rattle.listing.specs.Listing as Listing
use Rattle.listing.specs.Examples.{Examples}

pub examples : Examples
unfolding Lists.each Lists.tabulate Lists.all Items.decode_items Items.encode_items Text.ascii Text.digits Text.decimal Text.spaced Text.line_rest
    Table.decode Program.instruction_at Valid.is_program_length Refusal.instructions_number Word.word_of Listing.line_text Listing.listing_text
    Listing.lines_number Listing.program_bytes Listing.part_number Listing.lines_of
examples = record {
  listed = refl;
  typed = (refl, refl);
  accepted = (refl, refl);
  words = (refl, refl, refl);
  empty = refl;
  lengths = (refl, refl, refl);
  operands = (refl, refl, refl, refl, refl);
  refused = (refl, refl, refl, refl);
}
