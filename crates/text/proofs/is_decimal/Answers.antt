-- `text::is_decimal` meets its contract: the same tests.
use Rattle.text.specs.Inner.{is_decimal}
use Rattle.text.proofs.is_decimal.Goals as goal

pub returns : goal.returns
unfolding is_decimal
returns c = rw (c.all_digits.ensures, c.byte_at.ensures)
