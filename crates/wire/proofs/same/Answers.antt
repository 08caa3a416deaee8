-- `wire::same` meets its contract: the library's comparison decides what definition `same` does.
use Rattle.std.proofs.lemmas.Bool.Decides.{Decides-eqb}
use Rattle.std.proofs.lemmas.Slice.Eq.{slice_eq-Decides}
use Rattle.wire.proofs.Equal.{same_decided}
use Rattle.wire.proofs.same.Goals as goal

pub returns : goal.returns
returns c = same_decided _ _ c.eq.result (slice_eq-Decides Decides-eqb _ _ c.eq.result c.eq.ensures)
