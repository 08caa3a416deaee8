use Rattle.std.proofs.Common.{take, arith, length-take-le}
use Rattle.slotsheet.proofs.Printed.{shown, none_shown, front_shown}
use Rattle.slotsheet.proofs.show.Goals as goal

pub returns-in_err-n-clause-failed : goal.returns-in_err-n-clause-failed
returns-in_err-n-clause-failed g c = none_shown _ _ _

pub returns : goal.returns
returns g c =
    record {
      whole = shown c.write_full.result _ _ _ _ (take c.in_ok-n.n c.read_full.new.buffer) c.print-length.new.out _ c.print-length.result
          c.write_full.ensures.whole c.print-length.ensures.0 c.print-length.ensures.2 c.in_ok-n.ensures.bytes
          (λ few. c.in_ok-n.ensures.end (omega (arith, length-take-le c.in_ok-n.n c.read_full.new.buffer c.in_ok-n.ensures.within)));
      failed = front_shown c.write_full.result _ _ _ _ (take c.in_ok-n.n c.read_full.new.buffer) c.print-length.new.out _ c.print-length.result
          c.write_full.ensures.failed c.print-length.ensures.0 c.print-length.ensures.2 c.in_ok-n.ensures.bytes
          (λ few. c.in_ok-n.ensures.end (omega (arith, length-take-le c.in_ok-n.n c.read_full.new.buffer c.in_ok-n.ensures.within)));
    }
