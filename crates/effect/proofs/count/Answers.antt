-- `effect::count` meets its contract.
use Rattle.std.proofs.Common.{arith}
use Rattle.search.proofs.Read.{receivable_most}
use Rattle.effect.proofs.Effects.{count_done, sound}
use Rattle.effect.proofs.count.Goals as goal

pub overflow_cast-n : goal.overflow_cast-n
overflow_cast-n c =
    rw c.find-n.ensures (omega (arith, receivable_most c.args.table.now c.args.slot.number c.requires.0.goes.here c.label-own.result))

pub returns : goal.returns
returns c =
    rw c.gets.ensures
    (count_done c.requires.0 c.args.a c.label-own.ensures c.find-n.ensures)

pub gets-requires : goal.gets-requires
gets-requires c = (c.requires.0.goes, (sound c.requires.1).0)
