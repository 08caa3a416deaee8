use Rattle.std.proofs.Common.{rules, ◌+◌, arith}
use Rattle.streams.proofs.Buffer.{consumes_front, none_given, on_err}
use Rattle.streams.proofs.read_full.Goals as goal

pub loop-n-preserved : goal.loop-n-preserved
loop-n-preserved g c =
    (search rules, consumes_front _ _ _ c.loop-n.n _ c.in_ok-more.more c.loop-n.buffer c.read.new.buf c.loop-n.invariant.0 c.in_ok-more.ensures.bound.0 c.loop-n.invariant.1 c.in_ok-more.ensures.bytes.0)

pub returns-in_err-more-clause-failed : goal.returns-in_err-more-clause-failed
returns-in_err-more-clause-failed g c =
    on_err c.from_residual.result (
      c.loop-n.n + 0,
      consumes_front _ _ _ c.loop-n.n _ 0 c.loop-n.buffer c.read.new.buf c.loop-n.invariant.0 (omega arith) c.loop-n.invariant.1
          (none_given _ _ c.in_err-more.ensures.bytes),
    )
