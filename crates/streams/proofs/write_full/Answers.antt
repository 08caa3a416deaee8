use Rattle.streams.proofs.Fronts.{within, appends_front}
use Rattle.streams.proofs.write_full.Goals as goal

pub loop-n-preserved : goal.loop-n-preserved
loop-n-preserved g c = (
  within c.loop-n.n c.in_ok-taken.taken c.args.text.now c.loop-n.invariant.0 c.in_ok-taken.ensures.bound,
  appends_front _ _ _ c.loop-n.n c.in_ok-taken.taken c.args.text.now c.loop-n.invariant.1 c.in_ok-taken.ensures.bytes,
)
