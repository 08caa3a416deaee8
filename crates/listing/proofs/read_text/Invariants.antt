-- `listing::read_text` meets its contract: the lines that were read so far are those of the text ahead of its rest, and are kept.
use lib.ListN.{length}
use Rattle.listing.proofs.Keeping.{SoFar}
use Rattle.listing.proofs.read_text.Given as goal

abbrev pub invariant-loop-rest : goal.invariant-loop-rest
invariant-loop-rest l = SoFar l.text l.initial.program l.program l.rest l.lines l.bytes

abbrev pub decreases-loop-rest : goal.decreases-loop-rest
decreases-loop-rest l = length l.rest
