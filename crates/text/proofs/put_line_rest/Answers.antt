-- `text::put_line_rest` meets its contract: the line feed is written behind the numbers.
use Prim.Native.Nat.{◌+◌, ◌≤◌}
use mathlib.Core.Path.{sym}
use mathlib.Core.List.{[], ◌∷◌}
use native.Mathlib.Omega.{arith}
use lib.ListN.{length}
use Rattle.wire.specs.Items.{encode_items}
use Rattle.wire.proofs.Output.{stores_behind}
use Rattle.text.specs.Text.{spaced}
use Rattle.text.proofs.Text.{line_parts, length_line}
use Rattle.text.proofs.put_line_rest.Goals as goal

pub bounds-out-n : goal.bounds-out-n
bounds-out-n c =
    let wrote = c.put_numbers-n in
    omega (arith, length_line c.args.numbers.now, c.requires, wrote.ensures.0, wrote.auto.out)

pub returns : goal.returns
returns c =
    let numbers = c.args.numbers.now in
    let wrote = c.put_numbers-n in
    let room : length (encode_items spaced numbers) + 1 ≤ length c.args.out.now = omega (arith, length_line numbers, c.requires) in (
      omega (arith, length_line numbers, wrote.ensures.0),
      rw (line_parts numbers)
          (stores_behind (encode_items spaced numbers) (10 ∷ []) c.args.out.now wrote.new.out wrote.result (sym wrote.ensures.0) room wrote.ensures.1),
    )

pub put_numbers-n-requires : goal.put_numbers-n-requires
put_numbers-n-requires c = omega (arith, length_line c.args.numbers.now, c.requires)
